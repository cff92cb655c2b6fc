-- What the edits on results and arguments look up first: the list of values of an operation or a block, by number.
-- Assumes nothing: these are definitions.
use Rattle.std.specs.Prelude.{◌≡◌, List, [], ℕ, ◌<◌, length, get_or, Result, Ok, Err}
use Rattle.edit.specs.Record.{Member}
use Rattle.edit.specs.declared.Refusal.{Refusal}
use Rattle.edit.specs.declared.Refusal.TheVariants.{Used}
use Rattle.edit.specs.Kinds.{number_of}
use Rattle.places.specs.Store.{val, value_uses, vals, Live}
use Rattle.places.specs.View.{num}
use Rattle.places.specs.Roles.{Unnamed, missing_code, value_role, member_kind}
use Rattle.context.specs.declared.Layout.{Layout}
use Rattle.context.specs.Layout.{nc_of}
use Rattle.context.specs.Memory.{con, state_of}
use Rattle.context.specs.Reading.{list_of}
use Rattle.context.specs.Steps.{EndedValue}

-- k is the list of values of the operation or block with the number n
pub record ValuesAt (l : Layout) (m : List ℕ) (w : Member) (n k : ℕ) : Type 0 where
  pub place : ℕ
  pub live : Live (state_of l m) (member_kind w, place)
  pub number : num (state_of l m) (member_kind w, place) ≡ n
  pub row : con l vals k ≡ (value_role w, (member_kind w, place))
  pub inside : k < nc_of l vals

abbrev pub ValuesFound : Layout → List ℕ → Member → ℕ → Result ℕ Refusal → Type 0
ValuesFound l m w n (Ok k) = ValuesAt l m w n k
ValuesFound l m w n (Err e) = Unnamed (state_of l m) (member_kind w) n × (number_of e ≡ missing_code (member_kind w))

-- the value at index i of the list k ended; or it is used, nothing changed, and the refusal says so
pub record TakenValue (l : Layout) (k i : ℕ) (m m' : List ℕ) (r : Result (Unit {0}) Refusal) : Type 0 where
  pub place : ℕ
  pub at : get_or (list_of l m (con l vals k)) i (val, 0) ≡ (val, place)
  pub used : (e : Refusal) → r ≡ Err e → (e ≡ Used) × (m' ≡ m) × (0 < length ((state_of l m).list (val, place) value_uses))
  pub idle : r ≡ Ok tt → (state_of l m).list (val, place) value_uses ≡ []
  pub ended : r ≡ Ok tt → EndedValue l place m m'
