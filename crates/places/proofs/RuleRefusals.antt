-- How a refusal is made: the first name that is missing, then the tests of the state; what a code makes of the reply; 20 and 21.
-- Assumes nothing.
use mathlib.Core.Path.{◌≡◌, refl, sym, ap, ap₂, ◌∙◌}
use mathlib.Core.Logic.{ite, if_pos, if_neg, by_cases}
use mathlib.Core.Bool.{Bool, true, false, ◌||◌}
use mathlib.Core.List.{List, [], ◌∷◌}
use native.Mathlib.Decide.{dec_lt}
use native.Mathlib.Omega.{arith}
use Prim.Native.Nat.{ℕ, suc, ◌-◌}
use lib.Dec.{ltb, eqb-suc-zero}
use lib.ListN.{length}
use borrow.Author.Tests.{lt-ltb, le-ltb}
use Rattle.places.specs.Store.{Kind, op, blk, reg, val, usg, State, Live, Sound}
use Rattle.places.specs.View.{num, view}
use Rattle.edit.specs.Record.{Slot, operand, successor, Member, operation, block, Edit}
use Rattle.edit.specs.Answer.{refuse}
use Rattle.places.specs.Hist.{op_of, block_of, use_of, hist, orders_of, rule_state, meaning}
use Rattle.places.specs.Alias.{RState}
use Rattle.places.specs.Roles.{Unnamed, missing_code, def_kind, member_kind, container_kind}
use Rattle.rules.specs.State.{accept}
use Rattle.rules.specs.History.{Five, zeros, History, births}
use Rattle.rules.specs.Refusal.{Name, operation_named, block_named, region_named, value_named, member_named, container_named, definition_named, named, check, or_else, missing, first_missing, lacks, numbers, places, live_counts, no_room, from_state, refusal_of}
use Rattle.rules.specs.Step.{answer, perform}
use Rattle.places.proofs.RuleNames.{length_view, operation_live, operation_dead, block_live, block_dead, region_live, region_dead, value_live, value_dead}

-- ---- the code, and the reply

module _ (s : RState) (e : Edit) where
  pub refused : (c : ℕ) → refusal_of s e ≡ suc c → perform s e ≡ (refuse (suc c), s)
  unfolding perform
  refused c h = rw (h, eqb-suc-zero c)

  pub accepted : refusal_of s e ≡ 0 → perform s e ≡ (answer e s (accept e s).history, accept e s)
  unfolding perform
  accepted h = rw h

  -- a name is missing; or none is, and the tests of the state decide
  pub refusal_name : (c : ℕ) → first_missing s.history (named e) ≡ suc c → refusal_of s e ≡ suc c
  unfolding refusal_of or_else
  refusal_name c h = rw (h, eqb-suc-zero c)

  pub refusal_tests : first_missing s.history (named e) ≡ 0 → refusal_of s e ≡ from_state s e
  unfolding refusal_of or_else
  refusal_tests h = rw h

module _ (h : History) (x : Name) (xs : List Name) where
  pub missing_first : (c : ℕ) → missing h x ≡ suc c → first_missing h (x ∷ xs) ≡ suc c
  unfolding first_missing or_else
  missing_first c m = rw (m, eqb-suc-zero c)

  pub missing_next : missing h x ≡ 0 → first_missing h (x ∷ xs) ≡ first_missing h xs
  unfolding first_missing or_else
  missing_next m = rw m

-- an edit with one name, or two
module _ (s : RState) (E : Edit) (x : Name) where
  pub code_first : (xs : List Name) → named E ≡ x ∷ xs → (c : ℕ) → missing s.history x ≡ suc c → refusal_of s E ≡ suc c
  code_first xs n c m = refusal_name s E c (ap (first_missing s.history) n ∙ missing_first s.history x xs c m)

  pub code_one : named E ≡ x ∷ [] → missing s.history x ≡ 0 → refusal_of s E ≡ from_state s E
  unfolding first_missing
  code_one n m = refusal_tests s E (ap (first_missing s.history) n ∙ missing_next s.history x [] m)

  pub code_second : (y : Name) (xs : List Name) → named E ≡ x ∷ y ∷ xs → missing s.history x ≡ 0 → (c : ℕ) → missing s.history y ≡ suc c → refusal_of s E ≡ suc c
  code_second y xs n m c k = refusal_name s E c (ap (first_missing s.history) n ∙ missing_next s.history x (y ∷ xs) m ∙ missing_first s.history y xs c k)

  pub code_two : (y : Name) → named E ≡ x ∷ y ∷ [] → missing s.history x ≡ 0 → missing s.history y ≡ 0 → refusal_of s E ≡ from_state s E
  unfolding first_missing
  code_two y n m k = refusal_tests s E (ap (first_missing s.history) n ∙ missing_next s.history x (y ∷ []) m ∙ missing_next s.history y [] k)

-- ---- names of things by places

module _ {P : State} (S : Sound P) (e : ℕ) where
  abbrev h : History
  h = hist e (view P)

  pub operation_there : (p n : ℕ) → Live P (op, p) → num P (op, p) ≡ n → missing h (operation_named n) ≡ 0
  unfolding missing check
  operation_there p n l m = ap (λ (b : Bool). check b 0 7) (operation_live S e p n l m)

  pub operation_missing : (n : ℕ) → Unnamed P op n → missing h (operation_named n) ≡ 7
  unfolding missing check
  operation_missing n d = ap (λ (b : Bool). check b 0 7) (operation_dead S e n d)

  pub block_there : (p n : ℕ) → Live P (blk, p) → num P (blk, p) ≡ n → missing h (block_named n) ≡ 0
  unfolding missing check
  block_there p n l m = ap (λ (b : Bool). check b 0 8) (block_live S e p n l m)

  pub block_missing : (n : ℕ) → Unnamed P blk n → missing h (block_named n) ≡ 8
  unfolding missing check
  block_missing n d = ap (λ (b : Bool). check b 0 8) (block_dead S e n d)

  pub region_there : (p n : ℕ) → Live P (reg, p) → num P (reg, p) ≡ n → missing h (region_named n) ≡ 0
  unfolding missing check
  region_there p n l m = ap (λ (b : Bool). check b 0 9) (region_live S e p n l m)

  pub region_missing : (n : ℕ) → Unnamed P reg n → missing h (region_named n) ≡ 9
  unfolding missing check
  region_missing n d = ap (λ (b : Bool). check b 0 9) (region_dead S e n d)

  pub value_there : (p n : ℕ) → Live P (val, p) → num P (val, p) ≡ n → missing h (value_named n) ≡ 0
  unfolding missing check
  value_there p n l m = ap (λ (b : Bool). check b 0 10) (value_live S e p n l m)

  pub value_missing : (n : ℕ) → Unnamed P val n → missing h (value_named n) ≡ 10
  unfolding missing check
  value_missing n d = ap (λ (b : Bool). check b 0 10) (value_dead S e n d)

  -- what a slot's uses are uses of; a member of a list, and its container
  pub definition_there : (sl : Slot) (p n : ℕ) → Live P (def_kind sl, p) → num P (def_kind sl, p) ≡ n → missing h (definition_named sl n) ≡ 0
  unfolding definition_named
  definition_there operand p n l m = value_there p n l m
  definition_there successor p n l m = block_there p n l m

  pub definition_missing : (sl : Slot) (n : ℕ) → Unnamed P (def_kind sl) n → missing h (definition_named sl n) ≡ missing_code (def_kind sl)
  unfolding definition_named
  definition_missing operand n d = value_missing n d
  definition_missing successor n d = block_missing n d

  pub member_there : (w : Member) (p n : ℕ) → Live P (member_kind w, p) → num P (member_kind w, p) ≡ n → missing h (member_named w n) ≡ 0
  unfolding member_named
  member_there operation p n l m = operation_there p n l m
  member_there block p n l m = block_there p n l m

  pub member_missing : (w : Member) (n : ℕ) → Unnamed P (member_kind w) n → missing h (member_named w n) ≡ missing_code (member_kind w)
  unfolding member_named
  member_missing operation n d = operation_missing n d
  member_missing block n d = block_missing n d

  pub container_there : (w : Member) (p n : ℕ) → Live P (container_kind w, p) → num P (container_kind w, p) ≡ n → missing h (container_named w n) ≡ 0
  unfolding container_named
  container_there operation p n l m = block_there p n l m
  container_there block p n l m = region_there p n l m

  pub container_missing : (w : Member) (n : ℕ) → Unnamed P (container_kind w) n → missing h (container_named w n) ≡ missing_code (container_kind w)
  unfolding container_named
  container_missing operation n d = block_missing n d
  container_missing block n d = region_missing n d

-- ---- 20 and 21

abbrev pub of_kind : Kind → Five → ℕ
of_kind op x = x.operations
of_kind blk x = x.blocks
of_kind reg x = x.regions
of_kind val x = x.values
of_kind usg x = x.uses

-- one of the kind, and none of the others
abbrev pub one_of : Kind → Five
one_of op = record { operations = 1; blocks = 0; regions = 0; values = 0; uses = 0 }
one_of blk = record { operations = 0; blocks = 1; regions = 0; values = 0; uses = 0 }
one_of reg = record { operations = 0; blocks = 0; regions = 1; values = 0; uses = 0 }
one_of val = record { operations = 0; blocks = 0; regions = 0; values = 1; uses = 0 }
one_of usg = record { operations = 0; blocks = 0; regions = 0; values = 0; uses = 1 }

less_0 : (a : ℕ) → ltb a 0 ≡ false
less_0 a = le-ltb a 0 (omega arith)

or_false : (a : Bool) → (a || false) ≡ a
or_false true = refl
or_false false = refl

pub lacks_none : (c l : Five) → lacks c l zeros ≡ false
unfolding lacks zeros
lacks_none c l = rw (less_0 (c.operations - l.operations), less_0 (c.blocks - l.blocks), less_0 (c.regions - l.regions), less_0 (c.values - l.values), less_0 (c.uses - l.uses))

pub lacks_one : (k : Kind) (c l : Five) → lacks c l (one_of k) ≡ ltb (of_kind k c - of_kind k l) 1
unfolding lacks
lacks_one op c l = rw (less_0 (c.blocks - l.blocks), less_0 (c.regions - l.regions), less_0 (c.values - l.values), less_0 (c.uses - l.uses)) (simp or_false)
lacks_one blk c l = rw (less_0 (c.operations - l.operations), less_0 (c.regions - l.regions), less_0 (c.values - l.values), less_0 (c.uses - l.uses)) (simp or_false)
lacks_one reg c l = rw (less_0 (c.operations - l.operations), less_0 (c.blocks - l.blocks), less_0 (c.values - l.values), less_0 (c.uses - l.uses)) (simp or_false)
lacks_one val c l = rw (less_0 (c.operations - l.operations), less_0 (c.blocks - l.blocks), less_0 (c.regions - l.regions), less_0 (c.uses - l.uses)) (simp or_false)
lacks_one usg c l = rw (less_0 (c.operations - l.operations), less_0 (c.blocks - l.blocks), less_0 (c.regions - l.regions), less_0 (c.values - l.values))

module _ {P : State} (S : Sound P) where
  pub lives_is : (k : Kind) → of_kind k (live_counts (meaning P)) ≡ length (P.tab k).order
  unfolding live_counts meaning rule_state hist orders_of
  lives_is op = length_view S.linked op op_of
  lives_is blk = length_view S.linked blk block_of
  lives_is reg = length_view S.linked reg (λ e. e.lists _)
  lives_is val = length_view S.linked val (λ e. e.tag)
  lives_is usg = length_view S.linked usg use_of

  pub caps_is : (k : Kind) → of_kind k (meaning P).capacities ≡ (P.tab k).cap
  unfolding meaning rule_state
  caps_is op = refl
  caps_is blk = refl
  caps_is reg = refl
  caps_is val = refl
  caps_is usg = refl

  pub born_is : (k : Kind) → of_kind k (meaning P).history.born ≡ (P.tab k).next
  unfolding meaning rule_state hist view
  born_is op = refl
  born_is blk = refl
  born_is reg = refl
  born_is val = refl
  born_is usg = refl

  numbers_is : (k : Kind) → of_kind k numbers ≡ 4294967295
  unfolding numbers
  numbers_is op = refl
  numbers_is blk = refl
  numbers_is reg = refl
  numbers_is val = refl
  numbers_is usg = refl

  -- one more of the kind k: places and numbers, or numbers alone
  numbers_left : (k : Kind) → check (lacks numbers (meaning P).history.born (one_of k)) 21 0 ≡ ite (dec_lt (P.tab k).next 4294967295) 0 21
  unfolding check
  numbers_left k =
      ap (λ (b : Bool). check b 21 0) (lacks_one k numbers (meaning P).history.born ∙ ap₂ (λ (a b : ℕ). ltb (a - b) 1) (numbers_is k) (born_is k))
      ∙ by_cases (dec_lt (P.tab k).next 4294967295)
      (λ y. ap (λ (b : Bool). check b 21 0) (le-ltb (4294967295 - (P.tab k).next) 1 (omega (arith, y))) ∙ sym (if_pos (dec_lt (P.tab k).next 4294967295) y 0 21))
      (λ n. ap (λ (b : Bool). check b 21 0) (lt-ltb (4294967295 - (P.tab k).next) 1 (omega (arith, n))) ∙ sym (if_neg (dec_lt (P.tab k).next 4294967295) n 0 21))

  pub number_code : (k : Kind) (e : Edit) → places e ≡ zeros → births e ≡ one_of k → no_room (meaning P) e ≡ ite (dec_lt (P.tab k).next 4294967295) 0 21
  unfolding no_room check
  number_code k e a b = rw (a, b, lacks_none (meaning P).capacities (live_counts (meaning P))) (numbers_left k)

  pub room_code_lem : (k : Kind) (e : Edit) → places e ≡ one_of k → births e ≡ one_of k → no_room (meaning P) e ≡ ite (dec_lt (length (P.tab k).order) (P.tab k).cap) (ite (dec_lt (P.tab k).next 4294967295) 0 21) 20
  unfolding no_room check
  room_code_lem k e a b =
      rw (a, b)
      (ap₂ (λ (t : Bool) (n : ℕ). check t 20 n) (lacks_one k (meaning P).capacities (live_counts (meaning P)) ∙ ap₂ (λ (x y : ℕ). ltb (x - y) 1) (caps_is k) (lives_is k)) (numbers_left k)
      ∙ by_cases (dec_lt (length (P.tab k).order) (P.tab k).cap)
      (λ y. ap (λ (t : Bool). check t 20 (ite (dec_lt (P.tab k).next 4294967295) 0 21)) (le-ltb ((P.tab k).cap - length (P.tab k).order) 1 (omega (arith, y))) ∙ sym (if_pos (dec_lt (length (P.tab k).order) (P.tab k).cap) y (ite (dec_lt (P.tab k).next 4294967295) 0 21) 20))
      (λ n. ap (λ (t : Bool). check t 20 (ite (dec_lt (P.tab k).next 4294967295) 0 21)) (lt-ltb ((P.tab k).cap - length (P.tab k).order) 1 (omega (arith, n))) ∙ sym (if_neg (dec_lt (length (P.tab k).order) (P.tab k).cap) n (ite (dec_lt (P.tab k).next 4294967295) 0 21) 20)))
