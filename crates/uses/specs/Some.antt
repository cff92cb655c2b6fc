-- The listed uses of a definition that move to another, one after the other. Assumes nothing: these are definitions.
use Rattle.std.specs.Prelude.{◌≡◌, ◌≢◌, ◌⊎◌, List, ℕ, Option, Some, None}
use Rattle.std.proofs.Math.Option.{some}
use Rattle.edit.specs.Record.{Slot, operand, replace_some}
use Rattle.rules.specs.State.{accept}
use Rattle.places.specs.Store.{Kind, usg, use_sets, Live}
use Rattle.places.specs.View.{num}
use Rattle.places.specs.Roles.{Unnamed}
use Rattle.places.specs.Hist.{meaning}
use Rattle.context.specs.declared.Layout.{Layout}
use Rattle.context.specs.Memory.{part, con, state_of, SoundStore}
use Rattle.context.specs.Steps.{Moved}
use Rattle.uses.specs.Look.{DefAt}

-- the use sets d and e are of two live definitions
pub record Between (l : Layout) (m : List ℕ) (sl : Slot) (d e : ℕ) : Type 0 where
  pub this : ℕ
  pub other : ℕ
  pub from : DefAt l m sl this d
  pub to : DefAt l m sl other e

-- the use with the number x stands in another set than d
pub record Elsewhere (l : Layout) (d x : ℕ) (m : List ℕ) : Type 0 where
  pub place : ℕ
  pub live : Live (state_of l m) (usg, place)
  pub number : num (state_of l m) (usg, place) ≡ x
  pub away : (state_of l m).own (usg, place) use_sets ≢ some (con l use_sets d)

-- the place of the use with the number x, which stands in the set d; or no use has the number, or it stands elsewhere
abbrev pub HeldIn : Layout → ℕ → ℕ → List ℕ → Option ℕ → Type 0
HeldIn l d x m (Some u) = Live (state_of l m) (usg, u) × (num (state_of l m) (usg, u) ≡ x) × ((state_of l m).own (usg, u) use_sets ≡ some (con l use_sets d))
HeldIn l d x m None = Unnamed (state_of l m) usg x ⊎ Elsewhere l d x m

-- the use with the number x moved from d to e, if it stood in d
pub data PlacedOne (l : Layout) (d e x : ℕ) (m : List ℕ) : List ℕ → Type 0 where
  moved : (u : ℕ) {m' : List ℕ} → Live (state_of l m) (usg, u) → num (state_of l m) (usg, u) ≡ x → (state_of l m).own (usg, u) use_sets ≡ some (con l use_sets d) → Moved l u e m m' → PlacedOne l d e x m m'
  stayed : ((u : ℕ) → Live (state_of l m) (usg, u) → num (state_of l m) (usg, u) ≡ x → (state_of l m).own (usg, u) use_sets ≢ some (con l use_sets d)) → PlacedOne l d e x m m

-- all of the list
pub record PlacedAll (l : Layout) (d e : ℕ) (us m m' : List ℕ) : Type 0 where
  pub sound : SoundStore l m'
  pub rest : part l m' 14 ≡ part l m 14
  pub tables : (k : Kind) → (state_of l m').tab k ≡ (state_of l m).tab k
  pub state : (a b : ℕ) → DefAt l m operand a d → DefAt l m operand b e → meaning (state_of l m') ≡ accept (replace_some a b us) (meaning (state_of l m))
