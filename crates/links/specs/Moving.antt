-- A region moves to another operation: what its tests say.
-- Assumes nothing: these are definitions.
use Rattle.std.specs.Prelude.{◌≡◌, List, ℕ, Result, Ok, Err}
use Rattle.std.proofs.Math.Option.{some}
use Rattle.edit.specs.declared.Refusal.{Refusal}
use Rattle.edit.specs.Kinds.{number_of}
use Rattle.edit.specs.Record.{move_region}
use Rattle.rules.specs.Refusal.{refusal_of}
use Rattle.places.specs.Store.{op, reg, regions, regs, State, Live}
use Rattle.places.specs.View.{num}
use Rattle.places.specs.Members.{move_code}
use Rattle.context.specs.declared.Layout.{Layout}
use Rattle.context.specs.Memory.{state_of}
use Rattle.context.specs.Performed.{abs}

-- r is the refusal for the region at n and the operation at k, or 0
pub record MayMove (P : State) (n k r : ℕ) : Type 0 where
  pub is : (q : ℕ) → P.own (reg, n) regs ≡ some (regions, (op, q)) → r ≡ move_code P n k q

-- nothing refuses that the region at n moves to the operation at k
pub record Moving (l : Layout) (x y n k : ℕ) (m : List ℕ) : Type 0 where
  pub live : Live (state_of l m) (reg, n)
  pub named : num (state_of l m) (reg, n) ≡ x
  pub home : Live (state_of l m) (op, k)
  pub called : num (state_of l m) (op, k) ≡ y
  pub none : refusal_of (abs l m) (move_region x y) ≡ 0
  pub tests : MayMove (state_of l m) n k 0

abbrev pub MoveTested : Layout → ℕ → ℕ → List ℕ → Result (ℕ × ℕ) Refusal → Type 0
MoveTested l x y m (Err e) = refusal_of (abs l m) (move_region x y) ≡ number_of e
MoveTested l x y m (Ok (n, k)) = Moving l x y n k m
