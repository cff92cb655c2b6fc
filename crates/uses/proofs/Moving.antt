-- One use moves to another definition, each way out. Assumes nothing.
use mathlib.Core.Path.{◌≡◌, refl, sym, ap, ap₂, ◌∙◌}
use mathlib.Core.Logic.{◌≢◌}
use mathlib.Core.Bool.{Bool, true, false}
use mathlib.Core.List.{List, [], ◌∷◌}
use mathlib.Core.Option.{some}
use Prim.Native.Nat.{ℕ}
use native.Mathlib.Omega.{arith}
use lib.Dec.{eqb}
use borrow.Author.Tests.{eq-eqb, ne_eqb}
use Rattle.std.proofs.Common.{Option, Some, None, Result, Ok, Err, ok_or, inl, inr, nat_eq}
use Rattle.std.specs.Option.{option_eq}
use Rattle.edit.specs.Record.{Slot, Edit, move_use}
use Rattle.edit.specs.Answer.{clean, found}
use Rattle.edit.specs.declared.Refusal.{Refusal}
use Rattle.edit.specs.declared.Refusal.TheVariants.{NoUse}
use Rattle.edit.specs.Kinds.{number_of}
use Rattle.rules.specs.Table.{find, some_and}
use Rattle.rules.specs.History.{defined, same_definition}
use Rattle.rules.specs.State.{accept}
use Rattle.rules.specs.Refusal.{Name, definition_named, named, check, from_state, refusal_of}
use Rattle.rules.specs.Step.{answer}
use Rattle.seqs.proofs.Base.{tick_yes, tick_no}
use Rattle.places.specs.Store.{usg, use_sets, Con, Con-dec, State, UseHeld}
use Rattle.places.specs.View.{num}
use Rattle.places.specs.Hist.{meaning}
use Rattle.places.specs.Edits.{place_move_use}
use Rattle.places.specs.Roles.{Unnamed, missing_code, def_kind, def_role}
use Rattle.places.specs.Parts.{con_of}
use Rattle.places.proofs.Steps.{some_inj, some_none}
use Rattle.places.proofs.Settling.{settles_same, tables_move}
use Rattle.places.proofs.Bits.{bit_true, bit_false}
use Rattle.places.proofs.RuleMoves.{move_accept, stay_accept}
use Rattle.places.proofs.RuleCodes.{lost_definition, other_lost, definitions_there, held_test, lost_test}
use Rattle.context.specs.declared.Layout.{Layout}
use Rattle.context.specs.Memory.{con, given, state_of, SoundStore}
use Rattle.context.specs.Steps.{Moved}
use Rattle.context.specs.Performed.{Performed}
use Rattle.uses.specs.Look.{DefAt}
use Rattle.uses.specs.Some.{HeldIn}
use Rattle.context.proofs.Numbers.{same_row}
use Rattle.context.proofs.Performing.{refuses, accepts}

-- ---- a name is missing: this, or the other

module _ {l : Layout} {m : List ℕ} (S : SoundStore l m) (E : Edit) (sl : Slot) {a : ℕ} {e : Refusal} where
  pub lost_this : (xs : List Name) → named E ≡ definition_named sl a ∷ xs → Unnamed (state_of l m) (def_kind sl) a × (number_of e ≡ missing_code (def_kind sl)) → Performed l E m m (Err e)
  lost_this xs q u = refuses E S e (lost_definition S.sound E sl a xs q u.0 ∙ sym u.1)

  pub lost_other : {b d : ℕ} → named E ≡ definition_named sl a ∷ definition_named sl b ∷ [] → DefAt l m sl a d → Unnamed (state_of l m) (def_kind sl) b × (number_of e ≡ missing_code (def_kind sl)) → Performed l E m m (Err e)
  lost_other {b} q D u = refuses E S e (other_lost S.sound E sl D.place a D.live D.number b [] q u.0 ∙ sym u.1)

-- ---- the use that stands in a set

-- it stands in no set with another number
pub away : (l : Layout) (d : ℕ) (h : Option ℕ) → option_eq nat_eq h (Some d) ≡ false → con_of (con l use_sets) (given h) ≢ some (con l use_sets d)
away l d None n q = some_none q refl
away l d (Some j) n q = let z : true ≡ false = sym (eq-eqb j d (same_row l use_sets j d (some_inj q))) ∙ n in cc

-- ---- the edit

module _ {l : Layout} {m : List ℕ} (S : SoundStore l m) {sl : Slot} {a b d e : ℕ} (A : DefAt l m sl a d) (B : DefAt l m sl b e) (x : ℕ) where
  abbrev P : State
  P = state_of l m

  abbrev E : Edit
  E = move_use sl a x b

  abbrev test : Bool
  test = some_and (find (meaning P).history.uses x) (same_definition (defined sl a))

  abbrev here : Con
  here = (def_role sl, (def_kind sl, A.place))

  code : refusal_of (meaning P) E ≡ check (eqb a b) 0 (check test 0 11)
  unfolding named from_state
  code = definitions_there S.sound E sl A.place a A.live A.number b B.place refl B.live B.number

  pub stays : a ≡ b → Performed l E m m (Ok (0, 0))
  unfolding check answer clean found
  stays q = accepts E S (code ∙ ap (λ t. check t 0 (check test 0 11)) (eq-eqb a b q)) (stay_accept S.sound sl a x ∙ ap (λ (y : ℕ). accept (move_use sl a x y) (meaning P)) q) refl (settles_same (λ k. refl)) 0 0 refl

  module _ (apart : a ≢ b) where
    not_held : HeldIn l d x m None → test ≡ false
    not_held (inl n) = lost_test S.sound sl A.place a A.live A.number x n
    not_held (inr N) =
        let H : UseHeld (P.own (usg, N.place)) = S.sound.placed (usg, N.place) N.live in
        bit_false test
        (held_test S.sound sl A.place a A.live A.number N.place x H.def N.live N.number H.in_def
        ∙ tick_no (Con-dec H.def here) (λ q. N.away (H.in_def ∙ ap (λ (c : Con). some c) (q ∙ sym A.row))))

    pub no_use : (h : Option ℕ) → HeldIn l d x m h → h ≡ None → (r : Refusal) → ◌≡◌ {A = Result ℕ Refusal} (Err r) (ok_or h NoUse) → Performed l E m m (Err r)
    unfolding check
    no_use None N z r q =
        let e : r ≡ NoUse = cc in
        refuses E S r (code ∙ ap₂ (λ s t. check s 0 (check t 0 11)) (ne_eqb a b apart) (not_held N) ∙ ap number_of (sym e))
    no_use (Some u) N z r q = let t : true ≡ false = cc in cc

    pub moved : (u : ℕ) → HeldIn l d x m (Some u) → {m' : List ℕ} → Moved l u e m m' → Performed l E m m' (Ok (0, 0))
    unfolding check answer clean found
    moved u K {m'} M =
        let held : P.own (usg, u) use_sets ≡ some here = K.2 ∙ ap (λ (c : Con). some c) A.row in
        accepts E M.sound
        (code ∙ ap₂ (λ s t. check s 0 (check t 0 11)) (ne_eqb a b apart) (bit_true test (omega (arith, held_test S.sound sl A.place a A.live A.number u x here K.0 K.1 held, tick_yes (Con-dec here here) refl))))
        (ap meaning (M.state here held ∙ ap (λ (c : Con). place_move_use here c l.uses (usg, u) P) B.row)
        ∙ move_accept S.sound sl u A.place B.place l.uses K.0 held B.live (λ q. apart (sym A.number ∙ q ∙ B.number))
        ∙ ap₂ (λ (y : ℕ) (z : ℕ). accept (move_use sl y z (num P (def_kind sl, B.place))) (meaning P)) A.number K.1
        ∙ ap (λ (y : ℕ). accept (move_use sl a x y) (meaning P)) B.number)
        M.rest (settles_same (λ k. ap (λ (Q : State). Q.tab k) (M.state here held) ∙ tables_move here (con l use_sets e) l.uses (usg, u) P k)) 0 0 refl
