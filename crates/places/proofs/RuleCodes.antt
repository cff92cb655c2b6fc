-- The refusals and answers of the edits on uses, by places. Assumes nothing.
use mathlib.Core.Path.{◌≡◌, refl, sym, ap, ap₂, ◌∙◌}
use mathlib.Core.Logic.{ite}
use mathlib.Core.Bool.{false}
use mathlib.Core.List.{List, [], ◌∷◌, map}
use mathlib.Core.Option.{Option, some}
use native.Mathlib.Decide.{dec_lt}
use Prim.Native.Nat.{ℕ, suc, ◌-◌}
use lib.Dec.{eqb, leb, ltb}
use lib.ListN.{length, get_or}
use Rattle.seqs.specs.Seqs.{tick}
use Rattle.places.specs.Store.{op, usg, Role, operands, successors, value_uses, block_uses, results, arguments, regions, ops, blocks, use_sets, Con, Con-dec, State, Live, Link, UseHeld, Sound}
use Rattle.places.specs.View.{num, view}
use Rattle.places.specs.Roles.{Unnamed, missing_code, slot_role, def_kind, def_role}
use Rattle.places.specs.Hist.{def_by, hist, rule_state, meaning}
use Rattle.edit.specs.Record.{Slot, operand, successor, Definition, Edit, push_use, insert_use, replace_use, remove_use, pop_use}
use Rattle.edit.specs.Answer.{found}
use Rattle.rules.specs.Table.{find, some_and}
use Rattle.rules.specs.History.{History, births, defined, same_definition}
use Rattle.rules.specs.Refusal.{Name, operation_named, definition_named, named, check, places, slot_length, from_state, refusal_of}
use Rattle.rules.specs.Step.{definition_number, taken, answer}
use Rattle.places.proofs.Steps.{some_inj}
use Rattle.places.proofs.Bits.{bit}
use Rattle.places.proofs.RuleOutside.{IsDef, fit_def, name_of, same_def}
use Rattle.places.proofs.RuleNames.{slot_list_lem, slot_long, use_is, use_dead}
use Rattle.places.proofs.RuleRefusals.{code_first, code_second, code_one, code_two, operation_there, operation_missing, definition_there, definition_missing, number_code, room_code_lem}
use Rattle.places.proofs.RuleAccept.{ended_of}
use Rattle.places.proofs.RuleUses.{def_is, def_holder}

def_role_lem : (sl : Slot) → IsDef (def_role sl)
def_role_lem operand = IsDef.of_val
def_role_lem successor = IsDef.of_blk

code_pos : (sl : Slot) → missing_code (def_kind sl) ≡ suc (missing_code (def_kind sl) - 1)
code_pos operand = refl
code_pos successor = refl

-- ---- the names

module _ {P : State} (S : Sound P) (E : Edit) where
  pub lost_operation : (n : ℕ) (xs : List Name) → named E ≡ operation_named n ∷ xs → Unnamed P op n → refusal_of (meaning P) E ≡ 7
  unfolding meaning rule_state
  lost_operation n xs e d = code_first (meaning P) E (operation_named n) xs e 6 (operation_missing S (ended_of P) n d)

  pub lost_definition : (sl : Slot) (n : ℕ) (xs : List Name) → named E ≡ definition_named sl n ∷ xs → Unnamed P (def_kind sl) n → refusal_of (meaning P) E ≡ missing_code (def_kind sl)
  unfolding meaning rule_state
  lost_definition sl n xs e d = code_first (meaning P) E (definition_named sl n) xs e (missing_code (def_kind sl) - 1) (definition_missing S (ended_of P) sl n d ∙ code_pos sl) ∙ sym (code_pos sl)

  module _ (o n : ℕ) (lo : Live P (op, o)) (no : num P (op, o) ≡ n) where
    pub only_operation : named E ≡ operation_named n ∷ [] → refusal_of (meaning P) E ≡ from_state (meaning P) E
    unfolding meaning rule_state
    only_operation e = code_one (meaning P) E (operation_named n) e (operation_there S (ended_of P) o n lo no)

    pub second_lost : (sl : Slot) (d : ℕ) (xs : List Name) → named E ≡ operation_named n ∷ definition_named sl d ∷ xs → Unnamed P (def_kind sl) d → refusal_of (meaning P) E ≡ missing_code (def_kind sl)
    unfolding meaning rule_state
    second_lost sl d xs e u = code_second (meaning P) E (operation_named n) (definition_named sl d) xs e (operation_there S (ended_of P) o n lo no) (missing_code (def_kind sl) - 1) (definition_missing S (ended_of P) sl d u ∙ code_pos sl) ∙ sym (code_pos sl)

    pub both_there : (sl : Slot) (d p : ℕ) → named E ≡ operation_named n ∷ definition_named sl d ∷ [] → Live P (def_kind sl, p) → num P (def_kind sl, p) ≡ d → refusal_of (meaning P) E ≡ from_state (meaning P) E
    unfolding meaning rule_state
    both_there sl d p e lp np = code_two (meaning P) E (operation_named n) (definition_named sl d) e (operation_there S (ended_of P) o n lo no) (definition_there S (ended_of P) sl p d lp np)

  module _ (sl : Slot) (p a : ℕ) (lp : Live P (def_kind sl, p)) (np : num P (def_kind sl, p) ≡ a) where
    pub other_lost : (b : ℕ) (xs : List Name) → named E ≡ definition_named sl a ∷ definition_named sl b ∷ xs → Unnamed P (def_kind sl) b → refusal_of (meaning P) E ≡ missing_code (def_kind sl)
    unfolding meaning rule_state
    other_lost b xs e u = code_second (meaning P) E (definition_named sl a) (definition_named sl b) xs e (definition_there S (ended_of P) sl p a lp np) (missing_code (def_kind sl) - 1) (definition_missing S (ended_of P) sl b u ∙ code_pos sl) ∙ sym (code_pos sl)

    pub definitions_there : (b r : ℕ) → named E ≡ definition_named sl a ∷ definition_named sl b ∷ [] → Live P (def_kind sl, r) → num P (def_kind sl, r) ≡ b → refusal_of (meaning P) E ≡ from_state (meaning P) E
    unfolding meaning rule_state
    definitions_there b r e lr nr = code_two (meaning P) E (definition_named sl a) (definition_named sl b) e (definition_there S (ended_of P) sl p a lp np) (definition_there S (ended_of P) sl r b lr nr)

-- ---- the tests of the state

module _ {P : State} (S : Sound P) (sl : Slot) (o n : ℕ) (lo : Live P (op, o)) (no : num P (op, o) ≡ n) where
  abbrev long : ℕ
  long = length (P.list (op, o) (slot_role sl))

  abbrev room : ℕ
  room = ite (dec_lt (length (P.tab usg).order) (P.tab usg).cap) (ite (dec_lt (P.tab usg).next 4294967295) 0 21) 20

  len : slot_length (meaning P).history sl n ≡ long
  unfolding meaning rule_state
  len = slot_long S (ended_of P) sl o n lo no

  pub push_code : (d : ℕ) → from_state (meaning P) (push_use sl n d) ≡ check (leb 64 long) 19 room
  unfolding from_state places births
  push_code d = ap₂ (λ (x c : ℕ). check (leb 64 x) 19 c) len (room_code_lem S usg (push_use sl n d) refl refl)

  pub insert_code : (i d : ℕ) → from_state (meaning P) (insert_use sl n i d) ≡ check (ltb long i) 12 (check (leb 64 long) 19 room)
  unfolding from_state places births
  insert_code i d = ap₂ (λ (x c : ℕ). check (ltb x i) 12 (check (leb 64 x) 19 c)) len (room_code_lem S usg (insert_use sl n i d) refl refl)

  pub replace_code : (i d : ℕ) → from_state (meaning P) (replace_use sl n i d) ≡ check (leb long i) 12 (ite (dec_lt (P.tab usg).next 4294967295) 0 21)
  unfolding from_state places births
  replace_code i d = ap₂ (λ (x c : ℕ). check (leb x i) 12 c) len (number_code S usg (replace_use sl n i d) refl refl)

  pub remove_code : (i : ℕ) → from_state (meaning P) (remove_use sl n i) ≡ check (leb long i) 12 0
  unfolding from_state
  remove_code i = ap (λ (x : ℕ). check (leb x i) 12 0) len

  pub pop_code : from_state (meaning P) (pop_use sl n) ≡ check (eqb long 0) 12 0
  unfolding from_state
  pop_code = ap (λ (x : ℕ). check (eqb x 0) 12 0) len

  -- ---- the answers

  pub push_answer : (d : ℕ) (k : History) → answer (push_use sl n d) (meaning P) k ≡ found long 0
  unfolding answer
  push_answer d k = ap (λ (x : ℕ). found x 0) len

  number_of : (r : Role) (x : ℕ) → definition_number (some (def_by r x)) ≡ x
  unfolding definition_number
  number_of operands x = refl
  number_of successors x = refl
  number_of value_uses x = refl
  number_of block_uses x = refl
  number_of results x = refl
  number_of arguments x = refl
  number_of regions x = refl
  number_of ops x = refl
  number_of blocks x = refl

  module _ (i q : ℕ) (lu : Live P (usg, q)) (at : get_or (map (num P) (P.list (op, o) (slot_role sl))) i 0 ≡ num P (usg, q)) (d : Con) (held : P.own (usg, q) use_sets ≡ some d) where
    taken_is : taken sl n i (meaning P).history ≡ num P d.1
    unfolding taken meaning rule_state
    taken_is =
        ap (λ (w : ℕ). definition_number (find (hist (ended_of P) (view P)).uses w)) (ap (λ (l : List ℕ). get_or l i 0) (slot_list_lem S (ended_of P) sl o n lo no) ∙ at)
        ∙ ap definition_number (use_is S (ended_of P) q lu (num P (usg, q)) d refl held)
        ∙ number_of d.0 (num P d.1)

    pub remove_answer : (k : History) → answer (remove_use sl n i) (meaning P) k ≡ found (num P d.1) 0
    unfolding answer
    remove_answer k = ap (λ (x : ℕ). found x 0) taken_is

    pub pop_answer : i ≡ long - 1 → (k : History) → answer (pop_use sl n) (meaning P) k ≡ found (num P d.1) 0
    unfolding answer
    pop_answer e k = ap (λ (x : ℕ). found (taken sl n (x - 1) (meaning P).history) 0) len ∙ ap (λ (x : ℕ). found (taken sl n x (meaning P).history) 0) (sym e) ∙ ap (λ (x : ℕ). found x 0) taken_is

-- ---- a use that is to move

module _ {P : State} (S : Sound P) (sl : Slot) (p a : ℕ) (lp : Live P (def_kind sl, p)) (np : num P (def_kind sl, p) ≡ a) where
  name_is : defined sl a ≡ name_of P (def_role sl, (def_kind sl, p))
  name_is = sym (def_is sl a) ∙ ap (def_by (def_role sl)) (sym np)

  -- does the use stand in the set?
  pub held_test : (q u : ℕ) (d : Con) → Live P (usg, q) → num P (usg, q) ≡ u → P.own (usg, q) use_sets ≡ some d → bit (some_and (find (meaning P).history.uses u) (same_definition (defined sl a))) ≡ tick (Con-dec d (def_role sl, (def_kind sl, p)))
  unfolding meaning rule_state some_and
  held_test q u d lu nu held =
      let H : UseHeld (P.own (usg, q)) = S.placed (usg, q) lu in
      let M : Link P (usg, q) use_sets H.def = S.linked.link (usg, q) use_sets H.def H.in_def in
      ap₂ (λ (o : Option Definition) (x : Definition). bit (some_and o (same_definition x))) (use_is S (ended_of P) q lu u H.def nu H.in_def) name_is
      ∙ same_def S.linked (def_role sl) H.def.0 (def_kind sl, p) H.def.1 (def_role_lem sl) (fit_def H.fit) (def_holder sl) M.holder lp M.home
      ∙ ap (λ (c : Con). tick (Con-dec c (def_role sl, (def_kind sl, p)))) (some_inj (sym H.in_def ∙ held))

  pub lost_test : (u : ℕ) → Unnamed P usg u → some_and (find (meaning P).history.uses u) (same_definition (defined sl a)) ≡ false
  unfolding meaning rule_state some_and
  lost_test u d = ap (λ (o : Option Definition). some_and o (same_definition (defined sl a))) (use_dead S (ended_of P) u d)
