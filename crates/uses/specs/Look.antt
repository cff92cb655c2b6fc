-- What the edits on uses look up first: an operation's list of operands or successors, and a definition, by number.
-- Assumes nothing: these are definitions.
use Rattle.std.specs.Prelude.{◌≡◌, List, ℕ, ◌<◌, get_or, Result, Ok, Err}
use Rattle.std.proofs.Math.Option.{some}
use Rattle.edit.specs.Record.{Slot}
use Rattle.edit.specs.declared.Refusal.{Refusal}
use Rattle.edit.specs.Kinds.{number_of}
use Rattle.places.specs.Store.{op, usg, slots, use_sets, Con, Live}
use Rattle.places.specs.View.{num}
use Rattle.places.specs.Roles.{Unnamed, missing_code, slot_role, def_kind, def_role}
use Rattle.context.specs.declared.Layout.{Layout}
use Rattle.context.specs.Layout.{nc_of}
use Rattle.context.specs.Memory.{con, state_of}
use Rattle.context.specs.Reading.{list_of}
use Rattle.context.specs.Steps.{EndedUse}

-- s is the list of the operation with the number n
pub record SlotAt (l : Layout) (m : List ℕ) (sl : Slot) (n s : ℕ) : Type 0 where
  pub place : ℕ
  pub live : Live (state_of l m) (op, place)
  pub number : num (state_of l m) (op, place) ≡ n
  pub row : con l slots s ≡ (slot_role sl, (op, place))
  pub inside : s < nc_of l slots

abbrev pub SlotFound : Layout → List ℕ → Slot → ℕ → Result ℕ Refusal → Type 0
SlotFound l m sl n (Ok s) = SlotAt l m sl n s
SlotFound l m sl n (Err e) = Unnamed (state_of l m) op n × (number_of e ≡ missing_code op)

-- d is the use set of the definition with the number n
pub record DefAt (l : Layout) (m : List ℕ) (sl : Slot) (n d : ℕ) : Type 0 where
  pub place : ℕ
  pub live : Live (state_of l m) (def_kind sl, place)
  pub number : num (state_of l m) (def_kind sl, place) ≡ n
  pub row : con l use_sets d ≡ (def_role sl, (def_kind sl, place))
  pub inside : d < nc_of l use_sets

abbrev pub DefFound : Layout → List ℕ → Slot → ℕ → Result ℕ Refusal → Type 0
DefFound l m sl n (Ok d) = DefAt l m sl n d
DefFound l m sl n (Err e) = Unnamed (state_of l m) (def_kind sl) n × (number_of e ≡ missing_code (def_kind sl))

-- the use at index i of the list s ended; r is the number of its definition
pub record Taken (l : Layout) (s i : ℕ) (m m' : List ℕ) (r : ℕ) : Type 0 where
  pub place : ℕ
  pub at : get_or (list_of l m (con l slots s)) i (usg, 0) ≡ (usg, place)
  pub ended : EndedUse l place m m'
  pub number : (d : Con) → (state_of l m).own (usg, place) use_sets ≡ some d → r ≡ num (state_of l m) d.1
