-- The refusals and answers of the edits on results and arguments, by places. Assumes nothing.
use mathlib.Core.Path.{◌≡◌, refl, sym, ap, ap₂, ◌∙◌}
use mathlib.Core.Logic.{ite}
use mathlib.Core.List.{List, [], ◌∷◌, map}
use native.Mathlib.Decide.{dec_lt}
use Prim.Native.Nat.{ℕ, suc, ◌-◌}
use lib.Dec.{eqb, leb, ltb}
use lib.ListN.{length, get_or}
use Rattle.places.specs.Store.{val, value_uses, State, Live, Sound}
use Rattle.places.specs.View.{num, view}
use Rattle.places.specs.Roles.{Unnamed, missing_code, value_role, member_kind}
use Rattle.places.specs.Hist.{hist, rule_state, meaning}
use Rattle.edit.specs.Record.{Member, operation, block, of_value, Edit, push_value, insert_value, remove_value, pop_value}
use Rattle.edit.specs.Answer.{found}
use Rattle.rules.specs.History.{History, births, uses_of}
use Rattle.rules.specs.Refusal.{Name, member_named, named, check, places, values_length, value_used, from_state, refusal_of}
use Rattle.rules.specs.Step.{answer}
use Rattle.places.proofs.RuleOutside.{IsDef}
use Rattle.places.proofs.RuleNames.{values_list, values_long, uses_long}
use Rattle.places.proofs.RuleRefusals.{code_first, code_one, member_there, member_missing, room_code_lem}
use Rattle.places.proofs.RuleAccept.{ended_of}

code_pos : (w : Member) → missing_code (member_kind w) ≡ suc (missing_code (member_kind w) - 1)
code_pos operation = refl
code_pos block = refl

-- ---- the owner's name

module _ {P : State} (S : Sound P) (E : Edit) (w : Member) (n : ℕ) where
  pub owner_lost : (xs : List Name) → named E ≡ member_named w n ∷ xs → Unnamed P (member_kind w) n → refusal_of (meaning P) E ≡ missing_code (member_kind w)
  unfolding meaning rule_state
  owner_lost xs e d = code_first (meaning P) E (member_named w n) xs e (missing_code (member_kind w) - 1) (member_missing S (ended_of P) w n d ∙ code_pos w) ∙ sym (code_pos w)

  pub owner_there : (o : ℕ) → Live P (member_kind w, o) → num P (member_kind w, o) ≡ n → named E ≡ member_named w n ∷ [] → refusal_of (meaning P) E ≡ from_state (meaning P) E
  unfolding meaning rule_state
  owner_there o lo eq e = code_one (meaning P) E (member_named w n) e (member_there S (ended_of P) w o n lo eq)

-- ---- the tests of the state

module _ {P : State} (S : Sound P) (w : Member) (o n : ℕ) (lo : Live P (member_kind w, o)) (no : num P (member_kind w, o) ≡ n) where
  abbrev long : ℕ
  long = length (P.list (member_kind w, o) (value_role w))

  abbrev room : ℕ
  room = ite (dec_lt (length (P.tab val).order) (P.tab val).cap) (ite (dec_lt (P.tab val).next 4294967295) 0 21) 20

  len : values_length (meaning P).history w n ≡ long
  unfolding meaning rule_state
  len = values_long S (ended_of P) w o n lo no

  pub push_value_code : (t : ℕ) → from_state (meaning P) (push_value w n t) ≡ check (leb 64 long) 19 room
  unfolding from_state places births
  push_value_code t = ap₂ (λ (x c : ℕ). check (leb 64 x) 19 c) len (room_code_lem S val (push_value w n t) refl refl)

  pub insert_value_code : (i t : ℕ) → from_state (meaning P) (insert_value w n i t) ≡ check (ltb long i) 12 (check (leb 64 long) 19 room)
  unfolding from_state places births
  insert_value_code i t = ap₂ (λ (x c : ℕ). check (ltb x i) 12 (check (leb 64 x) 19 c)) len (room_code_lem S val (insert_value w n i t) refl refl)

  pub remove_value_code : (i : ℕ) → from_state (meaning P) (remove_value w n i) ≡ check (leb long i) 12 (check (value_used (meaning P).history w n i) 13 0)
  unfolding from_state
  remove_value_code i = ap (λ (x : ℕ). check (leb x i) 12 (check (value_used (meaning P).history w n i) 13 0)) len

  pub pop_value_code : from_state (meaning P) (pop_value w n) ≡ check (eqb long 0) 12 (check (value_used (meaning P).history w n (long - 1)) 13 0)
  unfolding from_state
  pop_value_code = ap (λ (x : ℕ). check (eqb x 0) 12 (check (value_used (meaning P).history w n (x - 1)) 13 0)) len

  -- is the value at the index used?
  pub used_is : (i q : ℕ) → Live P (val, q) → get_or (map (num P) (P.list (member_kind w, o) (value_role w))) i 0 ≡ num P (val, q) → value_used (meaning P).history w n i ≡ ltb 0 (length (P.list (val, q) value_uses))
  unfolding value_used meaning rule_state
  used_is i q lq at =
      ap (λ (k : ℕ). ltb 0 (length (uses_of (hist (ended_of P) (view P)) (of_value k)))) (ap (λ (l : List ℕ). get_or l i 0) (values_list S (ended_of P) w o n lo no) ∙ at)
      ∙ ap (ltb 0) (uses_long S (ended_of P) (value_uses, (val, q)) IsDef.of_val refl lq)

  -- ---- the answer

  pub push_value_answer : (t : ℕ) (k : History) → answer (push_value w n t) (meaning P) k ≡ found long 0
  unfolding answer
  push_value_answer t k = ap (λ (x : ℕ). found x 0) len
