-- Remove and pop, each way out. Assumes nothing.
use mathlib.Core.Path.{◌≡◌, refl, sym, ap, ap₂, ◌∙◌, subst}
use mathlib.Core.Bool.{Bool}
use mathlib.Core.List.{List}
use Prim.Native.Nat.{ℕ, ◌-◌, ◌≤◌, ◌<◌}
use native.Mathlib.Omega.{arith}
use lib.Dec.{leb, eqb, ltb}
use lib.ListN.{length, get_or}
use borrow.Author.Tests.{le-leb, lt-leb, eq-eqb, ne_eqb, lt-ltb}
use Rattle.edit.specs.Record.{Member, Edit, remove_value, pop_value}
use Rattle.edit.specs.Answer.{clean, found}
use Rattle.std.proofs.Common.{Result, Ok, Err}
use Rattle.edit.specs.declared.Refusal.{Refusal}
use Rattle.edit.specs.declared.Refusal.TheVariants.{NoIndex}
use Rattle.edit.specs.Kinds.{number_of}
use Rattle.rules.specs.State.{accept}
use Rattle.rules.specs.Refusal.{named, check, value_used, refusal_of}
use Rattle.rules.specs.Step.{answer}
use Rattle.places.specs.Store.{val, value_uses, vals, Thing, Con, State, end, leave}
use Rattle.places.specs.Hist.{meaning}
use Rattle.places.specs.Roles.{value_role, member_kind}
use Rattle.places.specs.Settled.{Settles}
use Rattle.places.proofs.RuleValues.{value_own, value_there, value_number, remove_value_accept, pop_value_accept}
use Rattle.places.proofs.RuleValueCodes.{owner_there, remove_value_code, pop_value_code, used_is}
use Rattle.places.proofs.Settling.{settles_finish}
use Rattle.context.specs.declared.Layout.{Layout}
use Rattle.context.specs.Memory.{state_of, SoundStore, LengthIs}
use Rattle.context.specs.Performed.{Performed}
use Rattle.values.specs.Look.{ValuesAt, TakenValue}
use Rattle.context.proofs.Performing.{refuses, accepts}

module _ {l : Layout} {m : List ℕ} (S : SoundStore l m) {w : Member} {n k : ℕ} (A : ValuesAt l m w n k) {x : ℕ} (X : LengthIs l vals k m x) where
  abbrev P : State
  P = state_of l m

  abbrev used? : ℕ → Bool
  used? i = value_used (meaning P).history w n i

  long : x ≡ length (P.list (member_kind w, A.place) (value_role w))
  long = X.is ∙ ap (λ (r : Con). length (P.list r.1 r.0)) A.row

  remove_refusal : (i : ℕ) → refusal_of (meaning P) (remove_value w n i) ≡ check (leb x i) 12 (check (used? i) 13 0)
  unfolding named
  remove_refusal i = owner_there S.sound (remove_value w n i) w n A.place A.live A.number refl ∙ remove_value_code S.sound w A.place n A.live A.number i ∙ ap (λ (a : ℕ). check (leb a i) 12 (check (used? i) 13 0)) (sym long)

  pop_refusal : refusal_of (meaning P) (pop_value w n) ≡ check (eqb x 0) 12 (check (used? (x - 1)) 13 0)
  unfolding named
  pop_refusal = owner_there S.sound (pop_value w n) w n A.place A.live A.number refl ∙ pop_value_code S.sound w A.place n A.live A.number ∙ ap (λ (a : ℕ). check (eqb a 0) 12 (check (used? (a - 1)) 13 0)) (sym long)

  pub remove_past : {i : ℕ} → x ≤ i → Performed l (remove_value w n i) m m (Err NoIndex)
  unfolding check
  remove_past {i} h = refuses (remove_value w n i) S NoIndex (remove_refusal i ∙ ap (λ b. check b 12 (check (used? i) 13 0)) (le-leb x i h))

  pub pop_empty : x ≡ 0 → Performed l (pop_value w n) m m (Err NoIndex)
  unfolding check
  pop_empty h = refuses (pop_value w n) S NoIndex (pop_refusal ∙ ap (λ b. check b 12 (check (used? (x - 1)) 13 0)) (eq-eqb x 0 h))

  module _ {i : ℕ} (i< : i < x) {m' : List ℕ} {r : Result (Unit {0}) Refusal} (T : TakenValue l k i m m' r) where
    abbrev q : ℕ
    q = T.place

    abbrev home : Con
    home = (value_role w, (member_kind w, A.place))

    inside : i < length (P.list (member_kind w, A.place) (value_role w))
    inside = omega (arith, long, i<)

    at : get_or (P.list (member_kind w, A.place) (value_role w)) i (val, 0) ≡ (val, q)
    at = ap (λ (c : Con). get_or (P.list c.1 c.0) i (val, 0)) (sym A.row) ∙ T.at

    used : used? i ≡ ltb 0 (length (P.list (val, q) value_uses))
    used = used_is S.sound w A.place n A.live A.number i q (value_there S.sound w A.place i q inside at) (value_number S.sound w A.place i q inside at)

    remove_code : refusal_of (meaning P) (remove_value w n i) ≡ check (ltb 0 (length (P.list (val, q) value_uses))) 13 0
    unfolding check
    remove_code = remove_refusal i ∙ ap₂ (λ a b. check a 12 (check b 13 0)) (lt-leb x i i<) used

    pop_code : i ≡ x - 1 → refusal_of (meaning P) (pop_value w n) ≡ check (ltb 0 (length (P.list (val, q) value_uses))) 13 0
    unfolding check
    pop_code e = pop_refusal ∙ ap₂ (λ a b. check a 12 (check b 13 0)) (ne_eqb x 0 (λ z. absurd (omega (arith, z, i<)))) (ap used? (sym e) ∙ used)

    module _ (E : Edit) (code : refusal_of (meaning P) E ≡ check (ltb 0 (length (P.list (val, q) value_uses))) 13 0) where
      kept : {e : Refusal} → r ≡ Err e → Performed l E m m' (Err e)
      unfolding check
      kept {e} z =
          let t = T.used e z in
          subst (λ (y : List ℕ). Performed l E m y (Err e)) (sym t.1)
          (refuses E S e (code ∙ ap (λ b. check b 13 0) (lt-ltb 0 (length (P.list (val, q) value_uses)) t.2) ∙ ap number_of (sym t.0)))

      module _ (z : r ≡ Ok tt) (right : meaning (end (val, q) (leave home (val, q) P)) ≡ accept E (meaning P)) (says : answer E (meaning P) (accept E (meaning P)).history ≡ found 0 0) where
        taken : state_of l m' ≡ end (val, q) (leave home (val, q) P)
        taken = (T.ended z).state home (value_own S.sound w A.place i q inside at)

        -- all others keep their places
        settled : Settles P (state_of l m')
        settled = subst (Settles P) (sym taken) (settles_finish home (val, q) P)

        done : Performed l E m m' (Ok (0, 0))
        unfolding check
        done = accepts E (T.ended z).sound (code ∙ ap (λ (y : List Thing). check (ltb 0 (length y)) 13 0) (T.idle z)) (ap meaning taken ∙ right) (T.ended z).rest settled 0 0 says

    pub remove_used : {e : Refusal} → r ≡ Err e → Performed l (remove_value w n i) m m' (Err e)
    remove_used z = kept (remove_value w n i) remove_code z

    pub removed : r ≡ Ok tt → Performed l (remove_value w n i) m m' (Ok (0, 0))
    unfolding answer clean found
    removed z =
        done (remove_value w n i) remove_code z
        (remove_value_accept S.sound w A.place i q inside at A.live (T.idle z) ∙ ap (λ (a : ℕ). accept (remove_value w a i) (meaning P)) A.number) refl

    pub pop_used : i ≡ x - 1 → {e : Refusal} → r ≡ Err e → Performed l (pop_value w n) m m' (Err e)
    pop_used e z = kept (pop_value w n) (pop_code e) z

    pub popped : i ≡ x - 1 → r ≡ Ok tt → Performed l (pop_value w n) m m' (Ok (0, 0))
    unfolding answer clean found
    popped e z =
        done (pop_value w n) (pop_code e) z
        (pop_value_accept S.sound w A.place i q inside at A.live (T.idle z) (e ∙ ap (λ (a : ℕ). a - 1) long) ∙ ap (λ (a : ℕ). accept (pop_value w a) (meaning P)) A.number) refl
