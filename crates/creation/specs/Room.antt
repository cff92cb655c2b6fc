-- Places and numbers for what an edit gives birth to, all kinds at once: 20 and 21.
-- Assumes nothing: these are definitions.
use Rattle.std.specs.Prelude.{◌≡◌, Bool, ◌||◌, List, ℕ, ◌-◌, ◌≤◌, length, ltb}
use Rattle.rules.specs.History.{Five}
use Rattle.rules.specs.Refusal.{check, lacks, numbers, live_counts}
use Rattle.places.specs.Store.{Kind, op, blk, reg, val, usg}
use Rattle.context.specs.declared.Layout.{Layout}
use Rattle.context.specs.declared.Kind as code
use Rattle.context.specs.declared.Kind.TheVariants.{Operation, Block, Region, Value, Use}
use Rattle.context.specs.Layout.{cap_of}
use Rattle.context.specs.Memory.{state_of}
use Rattle.context.specs.Performed.{abs}
use Rattle.creation.specs.declared.Five as counts

abbrev pub five : ℕ → ℕ → ℕ → ℕ → ℕ → Five
five o b r v u = record { operations = o; blocks = b; regions = r; values = v; uses = u }

abbrev pub five_of : counts.Five → Five
five_of w = five w.operations w.blocks w.regions w.values w.uses

-- of five numbers, the one for the kind
abbrev pub wants : Kind → Five → ℕ
wants op w = w.operations
wants blk w = w.blocks
wants reg w = w.regions
wants val w = w.values
wants usg w = w.uses

-- is one of the first five over its own of the others?
abbrev pub over : Five → Five → Bool
over w x = ltb x.operations w.operations || ltb x.blocks w.blocks || ltb x.regions w.regions || ltb x.values w.values || ltb x.uses w.uses

-- each of the five came of its kind
pub record ByKind (came : code.Kind → ℕ → Type 0) (r : counts.Five) : Type 0 where
  pub operations : came Operation r.operations
  pub blocks : came Block r.blocks
  pub regions : came Region r.regions
  pub values : came Value r.values
  pub uses : came Use r.uses

-- the free places of a kind, and the numbers that are left
abbrev pub spare : Layout → List ℕ → Kind → ℕ
spare l m k = cap_of l k - length ((state_of l m).tab k).order

abbrev pub left : Layout → List ℕ → Kind → ℕ
left l m k = 4294967295 - ((state_of l m).tab k).next

-- c is 20, 21 or 0
pub record RoomIs (l : Layout) (w : Five) (m : List ℕ) (c : ℕ) : Type 0 where
  pub is : c ≡ check (lacks (abs l m).capacities (live_counts (abs l m)) w) 20 (check (lacks numbers (abs l m).history.born w) 21 0)
  pub places : c ≡ 0 → (k : Kind) → wants k w ≤ spare l m k
  pub numbers : c ≡ 0 → (k : Kind) → wants k w ≤ left l m k
