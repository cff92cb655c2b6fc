-- The tests before erasing: what lies in a thing, by a depth; uses from outside of what lies there; marks in the scratch.
-- Assumes nothing: these are definitions.
use Rattle.std.specs.Prelude.{◌≡◌, Bool, List, [], ◌∷◌, ℕ, ◌≤◌, eqb, length, get_or, Result}
use Rattle.seqs.specs.Seqs.{count, sum}
use Rattle.edit.specs.Kinds.{code_of}
use Rattle.edit.specs.declared.Refusal.{Refusal}
use Rattle.places.specs.Store.{op, value_uses, Thing, Thing-dec, Con, State, Live}
use Rattle.places.specs.Walk.{pick, sgn, kids, walk_by, walk, def_sets, mark_of, strays, strays_in}
use Rattle.rules.specs.Table.{any}
use Rattle.context.specs.declared.Layout.{Layout}
use Rattle.context.specs.declared.Thing as nest
use Rattle.context.specs.Memory.{state_of}
use Rattle.context.specs.Nest.{thing_at}

-- ---- what lies in a thing

-- what lies in x, itself included, by fewer than n steps
unfoldable pub within : State → ℕ → Thing → List Thing
within P n x = walk_by (kids P) n x

-- a depth by which all that lies in a thing is reached
pub record DepthIs (l : Layout) (m : List ℕ) (r : ℕ) : Type 0 where
  pub all : (x : Thing) → within (state_of l m) r x ≡ walk (state_of l m) x

-- the marks in the scratch
abbrev pub marks_in : List ℕ → ℕ → ℕ
marks_in s o = get_or s o 0

-- the use stands at an operation without a mark
unfoldable pub stray : State → (ℕ → ℕ) → Thing → Bool
stray P mk u = eqb (mark_of P mk u) 0

-- some use of the set does; of the value; of a definition of the thing
unfoldable pub stray_set : State → (ℕ → ℕ) → Con → Bool
stray_set P mk c = any (stray P mk) (P.list c.1 c.0)

abbrev pub stray_value : State → (ℕ → ℕ) → Thing → Bool
stray_value P mk v = stray_set P mk (value_uses, v)

unfoldable pub stray_thing : State → (ℕ → ℕ) → Thing → Bool
stray_thing P mk z = any (stray_set P mk) (def_sets P z)

abbrev pub alone : Thing → List Thing
alone x = x ∷ []

-- the operations among zs got the mark v, and no other word changed
pub record Given (zs : List Thing) (v : ℕ) (s s' : List ℕ) : Type 0 where
  pub long : length s' ≡ length s
  pub at : (o : ℕ) → get_or s' o 0 ≡ pick (count Thing-dec (op, o) zs) (get_or s o 0) v

-- a thing of the store, and a scratch with a word for each operation
pub record Testable (l : Layout) (x : nest.Thing) (m s : List ℕ) : Type 0 where
  pub live : Live (state_of l m) (thing_at x)
  pub long : l.ops ≤ length s

-- all words are 0
abbrev pub Zeros : List ℕ → Type 0
Zeros s = (i : ℕ) → get_or s i 0 ≡ 0

-- the scratch may be lent: a word for each operation, all of them 0
pub record Scratch (l : Layout) (s : List ℕ) : Type 0 where
  pub long : l.ops ≤ length s
  pub zeros : Zeros s

-- 13 for a use from outside of what lies in x by fewer than n steps, 14 for one of anything in it, and else 0
abbrev pub erase_code : State → (ℕ → ℕ) → ℕ → Thing → ℕ
erase_code P mk n x = pick (sum (strays P mk) (within P n x)) (pick (strays_in P mk x) 0 14) 13

-- what the tests found; the scratch is clear again
pub record Tested (l : Layout) (x : Thing) (n : ℕ) (m s s' : List ℕ) (r : Result (Unit {0}) Refusal) : Type 0 where
  pub marks : ℕ → ℕ
  pub right : (o : ℕ) → Live (state_of l m) (op, o) → sgn (marks o) ≡ sgn (count Thing-dec (op, o) (walk (state_of l m) x))
  pub code : code_of r ≡ erase_code (state_of l m) marks n x
  pub scratch : Scratch l s'
