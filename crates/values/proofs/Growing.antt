-- Push and insert, each way out. Assumes nothing.
use mathlib.Core.Path.{◌≡◌, refl, sym, ap, ap₂, ◌∙◌, subst}
use mathlib.Core.List.{List, ◌∷◌}
use Prim.Native.Nat.{ℕ, ◌<◌}
use native.Mathlib.Omega.{arith}
use lib.Dec.{leb, ltb}
use lib.ListN.{length}
use borrow.Author.Tests.{le-ltb}
use Rattle.std.proofs.Common.{Result, Ok, Err}
use Rattle.edit.specs.Record.{Member, Edit, push_value, insert_value}
use Rattle.edit.specs.Answer.{clean, found}
use Rattle.edit.specs.declared.Refusal.{Refusal}
use Rattle.edit.specs.Kinds.{number_of, code_of}
use Rattle.rules.specs.State.{accept}
use Rattle.rules.specs.Refusal.{Name, member_named, named, check, refusal_of}
use Rattle.rules.specs.Step.{answer}
use Rattle.places.specs.Store.{val, vals, Con, State, birth, enter}
use Rattle.places.specs.Parts.{store}
use Rattle.places.specs.Hist.{meaning}
use Rattle.places.specs.Roles.{Unnamed, missing_code, value_role, member_kind}
use Rattle.places.specs.Settled.{Settles}
use Rattle.places.proofs.RuleValues.{insert_value_accept, push_value_accept}
use Rattle.places.proofs.RuleValueCodes.{owner_lost, owner_there, push_value_code, insert_value_code, push_value_answer}
use Rattle.places.proofs.Settling.{settles_same, settles_birth, settles_enter, lowest_free}
use Rattle.context.specs.declared.Layout.{Layout}
use Rattle.context.specs.Memory.{state_of, parts_of, SoundStore, LengthIs, room_code, GrowIs}
use Rattle.context.specs.Steps.{BorneValue}
use Rattle.context.specs.Performed.{Performed}
use Rattle.values.specs.Look.{ValuesAt}
use Rattle.context.proofs.Performing.{refuses, accepts}

pub cap_is : (l : Layout) (m : List ℕ) → ((state_of l m).tab val).cap ≡ l.values
unfolding store parts_of
cap_is l m = refl

-- ---- no live owner has the number

pub lost_owner : {l : Layout} {m : List ℕ} → SoundStore l m → (E : Edit) (w : Member) {n : ℕ} (xs : List Name) → named E ≡ member_named w n ∷ xs → {e : Refusal} → Unnamed (state_of l m) (member_kind w) n × (number_of e ≡ missing_code (member_kind w)) → Performed l E m m (Err e)
lost_owner S E w {n} xs q {e} u = refuses E S e (owner_lost S.sound E w n xs q u.0 ∙ sym u.1)

-- ---- the tests passed or not, where the value is put at index i

module _ {l : Layout} {m : List ℕ} (S : SoundStore l m) {w : Member} {n k : ℕ} (A : ValuesAt l m w n k) {x : ℕ} (X : LengthIs l vals k m x) (t : ℕ) where
  abbrev P : State
  P = state_of l m

  abbrev y : ℕ
  y = length (P.list (member_kind w, A.place) (value_role w))

  long : x ≡ y
  long = X.is ∙ ap (λ (r : Con). length (P.list r.1 r.0)) A.row

  module _ {i : ℕ} {r : Result (Unit {0}) Refusal} (G : GrowIs l val x i m r) where
    grow_is : check (ltb y i) 12 (check (leb 64 y) 19 (room_code (length (P.tab val).order) (P.tab val).cap (P.tab val).next)) ≡ code_of r
    grow_is = ap₂ (λ (a b : ℕ). check (ltb a i) 12 (check (leb 64 a) 19 (room_code (length (P.tab val).order) b (P.tab val).next))) (sym long) (cap_is l m) ∙ sym G.is

    insert_refusal : refusal_of (meaning P) (insert_value w n i t) ≡ code_of r
    unfolding named
    insert_refusal = owner_there S.sound (insert_value w n i t) w n A.place A.live A.number refl ∙ insert_value_code S.sound w A.place n A.live A.number i t ∙ grow_is

  push_refusal : {r : Result (Unit {0}) Refusal} → GrowIs l val x x m r → refusal_of (meaning P) (push_value w n t) ≡ code_of r
  unfolding named check
  push_refusal G =
      owner_there S.sound (push_value w n t) w n A.place A.live A.number refl
      ∙ push_value_code S.sound w A.place n A.live A.number t
      ∙ sym (ap (λ b. check b 12 (check (leb 64 y) 19 (room_code (length (P.tab val).order) (P.tab val).cap (P.tab val).next))) (le-ltb y x (omega (arith, long))))
      ∙ grow_is G

  pub insert_refused : {i : ℕ} {e : Refusal} → GrowIs l val x i m (Err e) → Performed l (insert_value w n i t) m m (Err e)
  insert_refused {i} {e} G = refuses (insert_value w n i t) S e (insert_refusal G)

  pub push_refused : {e : Refusal} → GrowIs l val x x m (Err e) → Performed l (push_value w n t) m m (Err e)
  push_refused {e} G = refuses (push_value w n t) S e (push_refusal G)

  module _ {i : ℕ} (G : GrowIs l val x i m (Ok tt)) where
    limit : y < 64
    limit = omega (arith, long, G.short refl)

    module _ {m' : List ℕ} {q : ℕ} (B : BorneValue l k i t m m' q) where
      born : state_of l m' ≡ enter (value_role w, (member_kind w, A.place)) i (val, q) (birth (val, q) t P)
      born = B.state ∙ ap (λ (a : Con). enter a i (val, q) (birth (val, q) t P)) A.row

      room : q < (P.tab val).cap
      room = rw (cap_is l m) B.room

      -- the value took the lowest free place
      settled : Settles P (state_of l m')
      settled =
          subst (Settles P) (sym born)
          (settles_enter (value_role w, (member_kind w, A.place)) i (val, q) (settles_birth (val, q) t (settles_same (λ j. refl)) (lowest_free P val q B.dead B.lowest)))

      pub inserted : Performed l (insert_value w n i t) m m' (Ok (0, 0))
      unfolding answer clean found
      inserted =
          accepts (insert_value w n i t) B.sound (insert_refusal G)
          (ap meaning born ∙ insert_value_accept S.sound w A.place i t q B.dead room A.live limit ∙ ap (λ (a : ℕ). accept (insert_value w a i t) (meaning P)) A.number)
          B.rest settled 0 0 refl

  pub pushed : GrowIs l val x x m (Ok tt) → {m' : List ℕ} {q : ℕ} → BorneValue l k x t m m' q → Performed l (push_value w n t) m m' (Ok (x, 0))
  pushed G {m'} {q} B =
      accepts (push_value w n t) B.sound (push_refusal G)
      (ap meaning (born G B) ∙ push_value_accept S.sound w A.place x t q B.dead (room G B) A.live (limit G) long ∙ ap (λ (a : ℕ). accept (push_value w a t) (meaning P)) A.number)
      B.rest (settled G B) x 0 (push_value_answer S.sound w A.place n A.live A.number t (accept (push_value w n t) (meaning P)).history ∙ ap (λ (a : ℕ). found a 0) (sym long))
