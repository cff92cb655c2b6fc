-- Remove and pop, each way out; and the use that is taken out. Assumes nothing.
use mathlib.Core.Path.{◌≡◌, refl, sym, ap, ◌∙◌, subst}
use mathlib.Core.List.{List}
use Prim.Native.Nat.{ℕ, ◌-◌, ◌≤◌, ◌<◌}
use native.Mathlib.Omega.{arith}
use lib.Dec.{leb, eqb}
use lib.ListN.{length, get_or}
use borrow.Author.Tests.{le-leb, lt-leb, eq-eqb, ne_eqb}
use Rattle.std.proofs.Common.{Ok, Err}
use Rattle.edit.specs.Record.{Slot, remove_use, pop_use}
use Rattle.edit.specs.Answer.{found}
use Rattle.edit.specs.declared.Refusal.TheVariants.{NoIndex}
use Rattle.rules.specs.State.{accept}
use Rattle.rules.specs.Refusal.{named, check, refusal_of}
use Rattle.places.specs.Store.{op, usg, slots, Con, State, Live, UseHeld}
use Rattle.places.specs.Hist.{meaning}
use Rattle.places.specs.Edits.{end_use}
use Rattle.places.specs.View.{num}
use Rattle.places.specs.Roles.{slot_role}
use Rattle.places.specs.Settled.{Settles}
use Rattle.places.proofs.Settling.{settles_end_use}
use Rattle.places.proofs.RuleEnds.{at_live, at_held, at_number, remove_accept, pop_accept}
use Rattle.places.proofs.RuleCodes.{only_operation, remove_code, pop_code, remove_answer, pop_answer}
use Rattle.context.specs.declared.Layout.{Layout}
use Rattle.context.specs.Memory.{con, state_of, SoundStore, LengthIs}
use Rattle.context.specs.Reading.{NthIs}
use Rattle.context.specs.Performed.{Performed}
use Rattle.uses.specs.Look.{SlotAt, Taken}
use Rattle.context.proofs.Performing.{refuses, accepts}

-- ---- the use at an index

pub nth_live : {l : Layout} {m : List ℕ} → SoundStore l m → {u s i : ℕ} → NthIs l slots s i m u → Live (state_of l m) (usg, u)
nth_live {l} S {u} {s} N = (S.sound.linked.link (usg, u) slots (con l slots s) N.own).live

-- ---- the edits

module _ {l : Layout} {m : List ℕ} (S : SoundStore l m) {sl : Slot} {n s : ℕ} (A : SlotAt l m sl n s) {x : ℕ} (X : LengthIs l slots s m x) where
  abbrev P : State
  P = state_of l m

  long : x ≡ length (P.list (op, A.place) (slot_role sl))
  long = X.is ∙ ap (λ (r : Con). length (P.list r.1 r.0)) A.row

  remove_refusal : (i : ℕ) → refusal_of (meaning P) (remove_use sl n i) ≡ check (leb x i) 12 0
  unfolding named
  remove_refusal i = only_operation S.sound (remove_use sl n i) A.place n A.live A.number refl ∙ remove_code S.sound sl A.place n A.live A.number i ∙ ap (λ (a : ℕ). check (leb a i) 12 0) (sym long)

  pop_refusal : refusal_of (meaning P) (pop_use sl n) ≡ check (eqb x 0) 12 0
  unfolding named
  pop_refusal = only_operation S.sound (pop_use sl n) A.place n A.live A.number refl ∙ pop_code S.sound sl A.place n A.live A.number ∙ ap (λ (a : ℕ). check (eqb a 0) 12 0) (sym long)

  pub remove_refused : {i : ℕ} → x ≤ i → Performed l (remove_use sl n i) m m (Err NoIndex)
  unfolding check
  remove_refused {i} h = refuses (remove_use sl n i) S NoIndex (remove_refusal i ∙ ap (λ b. check b 12 0) (le-leb x i h))

  pub pop_refused : x ≡ 0 → Performed l (pop_use sl n) m m (Err NoIndex)
  unfolding check
  pop_refused h = refuses (pop_use sl n) S NoIndex (pop_refusal ∙ ap (λ b. check b 12 0) (eq-eqb x 0 h))

  module _ {i : ℕ} (i< : i < x) {m' : List ℕ} {r : ℕ} (T : Taken l s i m m' r) where
    abbrev q : ℕ
    q = T.place

    inside : i < length (P.list (op, A.place) (slot_role sl))
    inside = omega (arith, long, i<)

    at : get_or (P.list (op, A.place) (slot_role sl)) i (usg, 0) ≡ (usg, q)
    at = ap (λ (c : Con). get_or (P.list c.1 c.0) i (usg, 0)) (sym A.row) ∙ T.at

    H : UseHeld (P.own (usg, q))
    H = at_held S.sound sl A.place i q A.live inside at

    gone : state_of l m' ≡ end_use H.slot H.def (usg, q) P
    gone = T.ended.state H.slot H.def H.in_slot H.in_def

    number_is : num P H.def.1 ≡ r
    number_is = sym (T.number H.def H.in_def)

    settled : Settles P (state_of l m')
    settled = subst (Settles P) (sym gone) (settles_end_use H.slot H.def (usg, q) P)

    pub removed : Performed l (remove_use sl n i) m m' (Ok (r, 0))
    unfolding check H
    removed =
        accepts (remove_use sl n i) T.ended.sound (remove_refusal i ∙ ap (λ b. check b 12 0) (lt-leb x i i<))
        (ap meaning gone ∙ remove_accept S.sound sl A.place i q A.live inside at ∙ ap (λ (a : ℕ). accept (remove_use sl a i) (meaning P)) A.number)
        T.ended.rest settled r 0
        (remove_answer S.sound sl A.place n A.live A.number i q (at_live S.sound sl A.place i q A.live inside at) (at_number S.sound sl A.place i q A.live inside at) H.def H.in_def (accept (remove_use sl n i) (meaning P)).history ∙ ap (λ (a : ℕ). found a 0) number_is)

    pub popped : i ≡ x - 1 → Performed l (pop_use sl n) m m' (Ok (r, 0))
    unfolding check H
    popped e =
        accepts (pop_use sl n) T.ended.sound (pop_refusal ∙ ap (λ b. check b 12 0) (ne_eqb x 0 (λ z. absurd (omega (arith, z, i<)))))
        (ap meaning gone ∙ pop_accept S.sound sl A.place i q A.live inside at (e ∙ ap (λ (a : ℕ). a - 1) long) ∙ ap (λ (a : ℕ). accept (pop_use sl a) (meaning P)) A.number)
        T.ended.rest settled r 0
        (pop_answer S.sound sl A.place n A.live A.number i q (at_live S.sound sl A.place i q A.live inside at) (at_number S.sound sl A.place i q A.live inside at) H.def H.in_def (e ∙ ap (λ (a : ℕ). a - 1) long) (accept (pop_use sl n) (meaning P)).history ∙ ap (λ (a : ℕ). found a 0) number_is)
