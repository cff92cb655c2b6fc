-- Push and insert, each way out. Assumes nothing.
use mathlib.Core.Path.{◌≡◌, refl, sym, ap, ap₂, ◌∙◌, subst}
use mathlib.Core.List.{List, [], ◌∷◌}
use Prim.Native.Nat.{ℕ, ◌<◌}
use native.Mathlib.Omega.{arith}
use lib.Dec.{leb, ltb}
use lib.ListN.{length}
use borrow.Author.Tests.{le-ltb}
use Rattle.std.proofs.Common.{Result, Ok, Err}
use Rattle.edit.specs.Record.{Slot, Edit, push_use, insert_use}
use Rattle.edit.specs.Answer.{clean, found}
use Rattle.edit.specs.declared.Refusal.{Refusal}
use Rattle.edit.specs.Kinds.{number_of, code_of}
use Rattle.rules.specs.State.{accept}
use Rattle.rules.specs.Refusal.{Name, operation_named, definition_named, named, check, refusal_of}
use Rattle.rules.specs.Step.{answer}
use Rattle.places.specs.Store.{op, usg, slots, use_sets, Con, State}
use Rattle.places.specs.Parts.{store}
use Rattle.places.specs.Hist.{meaning}
use Rattle.places.specs.Edits.{birth_use}
use Rattle.places.specs.Roles.{Unnamed, missing_code, slot_role, def_kind, def_role}
use Rattle.places.specs.Settled.{Settles}
use Rattle.places.proofs.Settling.{settles_same, settles_birth_use, lowest_free}
use Rattle.places.proofs.RuleUses.{slot_fits, insert_accept, push_accept}
use Rattle.places.proofs.RuleCodes.{lost_operation, second_lost, both_there, push_code, insert_code, push_answer}
use Rattle.context.specs.declared.Layout.{Layout}
use Rattle.context.specs.Memory.{con, state_of, parts_of, SoundStore, LengthIs, room_code, GrowIs}
use Rattle.context.specs.Steps.{CanBear, BorneUse}
use Rattle.context.specs.Performed.{Performed}
use Rattle.uses.specs.Look.{SlotAt, DefAt}
use Rattle.context.proofs.Performing.{refuses, accepts}

pub cap_is : (l : Layout) (m : List ℕ) → ((state_of l m).tab usg).cap ≡ l.uses
unfolding store parts_of
cap_is l m = refl

-- ---- a name is missing

module _ {l : Layout} {m : List ℕ} (S : SoundStore l m) (E : Edit) {n : ℕ} {e : Refusal} where
  pub lost_op : (xs : List Name) → named E ≡ operation_named n ∷ xs → Unnamed (state_of l m) op n × (number_of e ≡ missing_code op) → Performed l E m m (Err e)
  lost_op xs q u = refuses E S e (lost_operation S.sound E n xs q u.0 ∙ sym u.1)

  pub lost_def : {sl : Slot} {d s : ℕ} → named E ≡ operation_named n ∷ definition_named sl d ∷ [] → SlotAt l m sl n s → Unnamed (state_of l m) (def_kind sl) d × (number_of e ≡ missing_code (def_kind sl)) → Performed l E m m (Err e)
  lost_def {sl} {d} q A u = refuses E S e (second_lost S.sound E A.place n A.live A.number sl d [] q u.0 ∙ sym u.1)

-- ---- the tests passed or not, where the use is put at index i

module _ {l : Layout} {m : List ℕ} (S : SoundStore l m) {sl : Slot} {n d s k : ℕ} (A : SlotAt l m sl n s) (B : DefAt l m sl d k) {x : ℕ} (X : LengthIs l slots s m x) where
  abbrev P : State
  P = state_of l m

  long : x ≡ length (P.list (op, A.place) (slot_role sl))
  long = X.is ∙ ap (λ (r : Con). length (P.list r.1 r.0)) A.row

  module _ {i : ℕ} {r : Result (Unit {0}) Refusal} (G : GrowIs l usg x i m r) where
    grow_is : check (ltb (length (P.list (op, A.place) (slot_role sl))) i) 12 (check (leb 64 (length (P.list (op, A.place) (slot_role sl)))) 19 (room_code (length (P.tab usg).order) (P.tab usg).cap (P.tab usg).next)) ≡ code_of r
    grow_is = ap₂ (λ (a b : ℕ). check (ltb a i) 12 (check (leb 64 a) 19 (room_code (length (P.tab usg).order) b (P.tab usg).next))) (sym long) (cap_is l m) ∙ sym G.is

    insert_refusal : refusal_of (meaning P) (insert_use sl n i d) ≡ code_of r
    unfolding named
    insert_refusal = both_there S.sound (insert_use sl n i d) A.place n A.live A.number sl d B.place refl B.live B.number ∙ insert_code S.sound sl A.place n A.live A.number i d ∙ grow_is

  push_refusal : {r : Result (Unit {0}) Refusal} → GrowIs l usg x x m r → refusal_of (meaning P) (push_use sl n d) ≡ code_of r
  unfolding named check
  push_refusal G =
      both_there S.sound (push_use sl n d) A.place n A.live A.number sl d B.place refl B.live B.number
      ∙ push_code S.sound sl A.place n A.live A.number d
      ∙ sym (ap (λ b. check b 12 (check (leb 64 (length (P.list (op, A.place) (slot_role sl)))) 19 (room_code (length (P.tab usg).order) (P.tab usg).cap (P.tab usg).next))) (le-ltb (length (P.list (op, A.place) (slot_role sl))) x (omega (arith, long))))
      ∙ grow_is G

  pub insert_refused : {i : ℕ} {e : Refusal} → GrowIs l usg x i m (Err e) → Performed l (insert_use sl n i d) m m (Err e)
  insert_refused {i} {e} G = refuses (insert_use sl n i d) S e (insert_refusal G)

  pub push_refused : {e : Refusal} → GrowIs l usg x x m (Err e) → Performed l (push_use sl n d) m m (Err e)
  push_refused {e} G = refuses (push_use sl n d) S e (push_refusal G)

  module _ {i : ℕ} (G : GrowIs l usg x i m (Ok tt)) where
    limit : length (P.list (op, A.place) (slot_role sl)) < 64
    limit = omega (arith, long, G.short refl)

    pub can_bear : CanBear P l.uses (con l slots s) (con l use_sets k)
    can_bear = rw (A.row, B.row) (record { room = G.room refl; fit = slot_fits sl; slot = A.live; limit = limit; home = B.live })

    module _ {m' : List ℕ} {u : ℕ} (R : BorneUse l s i k m m' u) where
      born : state_of l m' ≡ birth_use (slot_role sl, (op, A.place)) i (def_role sl, (def_kind sl, B.place)) l.uses u P
      born = R.state ∙ ap₂ (λ (a b : Con). birth_use a i b l.uses u P) A.row B.row

      room : u < (P.tab usg).cap
      room = rw (cap_is l m) R.room

      settled : Settles P (state_of l m')
      settled = subst (Settles P) (sym R.state) (settles_birth_use (con l slots s) i (con l use_sets k) l.uses u (settles_same (λ k. refl)) (lowest_free P usg u R.dead R.lowest))

      pub inserted : Performed l (insert_use sl n i d) m m' (Ok (0, 0))
      unfolding answer clean found
      inserted =
          accepts (insert_use sl n i d) R.sound (insert_refusal G)
          (ap meaning born ∙ insert_accept S.sound sl A.place i B.place l.uses u R.dead room A.live limit B.live ∙ ap₂ (λ (a b : ℕ). accept (insert_use sl a i b) (meaning P)) A.number B.number)
          R.rest settled 0 0 refl

  pub pushed : GrowIs l usg x x m (Ok tt) → {m' : List ℕ} {u : ℕ} → BorneUse l s x k m m' u → Performed l (push_use sl n d) m m' (Ok (x, 0))
  pushed G {m'} {u} R =
      accepts (push_use sl n d) R.sound (push_refusal G)
      (ap meaning (born G R) ∙ push_accept S.sound sl A.place x B.place l.uses u R.dead (room G R) A.live (limit G) B.live long ∙ ap₂ (λ (a b : ℕ). accept (push_use sl a b) (meaning P)) A.number B.number)
      R.rest (settled G R) x 0 (push_answer S.sound sl A.place n A.live A.number d (accept (push_use sl n d) (meaning P)).history ∙ ap (λ (a : ℕ). found a 0) (sym long))
