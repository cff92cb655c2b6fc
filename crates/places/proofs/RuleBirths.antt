-- A new operation or block with its lists: each thing that is born makes the accepted edit longer by one. By places as the rules say it.
-- Assumes nothing.
use mathlib.Core.Path.{◌≡◌, refl, sym, ap, ap₂, ◌∙◌}
use mathlib.Core.Logic.{◌≢◌}
use mathlib.Core.Bool.{Bool, true, false, cond}
use mathlib.Core.List.{List, [], ◌∷◌, ◌++◌, map, append-nil, append_assoc}
use mathlib.Core.Option.{none, some}
use native.Mathlib.Decide.{ℕ_discrete}
use native.Mathlib.Omega.{arith}
use Prim.Native.Nat.{ℕ, zero, suc, ◌+◌, ◌≤◌}
use lib.Dec.{eqb}
use lib.ListN.{length, length-append, length-map, length-replicate, replicate}
use borrow.Author.Tests.{eq-eqb, ne_eqb}
use Rattle.seqs.specs.Seqs.{upd, seq_insert_at, In}
use Rattle.places.specs.Store.{Kind, op, blk, reg, val, usg, results, arguments, regions, ops, blocks, regs, State, alive, Linked}
use Rattle.places.specs.View.{Names, num, rec_of, view, amend, change_list, set_home, bare, n_birth, n_enter, n_hold}
use Rattle.places.specs.Edits.{n_birth_use}
use Rattle.places.specs.Hist.{tabled, op_of, block_of, use_of, born_of, hist, orders_of}
use Rattle.places.specs.Roles.{slot_role, def_role, def_kind}
use Rattle.places.specs.Accepts.{Accepts}
use Rattle.edit.specs.Record.{Slot, operand, successor, operation, block, of_value, of_block, new_operation, new_block}
use Rattle.rules.specs.Table.{Table, find, number, change, up}
use Rattle.rules.specs.History.{plus, Operation, Block, History, births, bear, carry_out, remember, change_slot, change_results, change_regions, change_arguments, change_values, with_operations, with_blocks, add_use, defined}
use Rattle.rules.specs.Orders.{Orders, containers, new_lists, order, reorder}
use Rattle.rules.specs.State.{new_flags, new_types}
use Rattle.seqs.proofs.Base.{map_append, in_head, in_tail}
use Rattle.places.proofs.Bits.{tabled_view}
use Rattle.places.proofs.Entries.{next_new, tabled_amend, tabled_same}
use Rattle.places.proofs.RuleNames.{find_dead}
use Rattle.places.proofs.RuleRefusals.{one_of}
use Rattle.places.proofs.RuleUses.{born_flags, born_rest, born_history}
use Rattle.places.proofs.RuleValues.{value_history, value_flags, value_types, value_orders}

-- ---- numbers in a row, and the last entry of a table

up_more : (n k i : ℕ) → k ≤ i → seq_insert_at i (n + k) (up n k) ≡ up n (suc k)
unfolding up
up_more n zero zero h = ap {B = List ℕ} (λ x. x ∷ []) (omega arith)
up_more n zero (suc i) h = ap {B = List ℕ} (λ x. x ∷ []) (omega arith)
up_more n (suc k) zero h = absurd (omega arith)
up_more n (suc k) (suc i) h = ap {B = List ℕ} (λ r. n ∷ r) (ap (λ (x : ℕ). seq_insert_at i x (up (suc n) k)) (omega arith) ∙ up_more (suc n) k i (omega arith))

pub up_length : (n k : ℕ) → length (up n k) ≡ k
unfolding up
up_length n zero = refl
up_length n (suc k) = ap suc (up_length (suc n) k)

-- the number after those of a list, put after them
up_next : {A : Type 0} (n m i : ℕ) (l : List A) (x : A) → m ≡ n + length l → length l ≤ i → seq_insert_at i m (up n (length l)) ≡ up n (length (l ++ x ∷ []))
up_next n m i l x e h = ap (λ (y : ℕ). seq_insert_at i y (up n (length l))) e ∙ up_more n (length l) i h ∙ ap (up n) (one_more (length l) ∙ sym (length-append l (x ∷ [])))
  where
    one_more : (a : ℕ) → suc a ≡ a + 1
    one_more a = omega arith

module _ {A : Type 0} where
  number_more : (n : ℕ) (l : List A) (x : A) → number n l ++ (n + length l, x) ∷ [] ≡ number n (l ++ x ∷ [])
  unfolding number
  number_more n [] x = ap {B = Table A} (λ (k : ℕ). (k, x) ∷ []) (omega arith)
  number_more n (y ∷ l) x = ap {B = Table A} (λ r. (n, y) ∷ r) (ap {B = Table A} (λ (k : ℕ). number (suc n) l ++ (k, x) ∷ []) (omega arith) ∙ number_more (suc n) l x)

  -- a table that goes on with numbered entries, and one more
  pub number_next : (t : Table A) (n m : ℕ) (l : List A) (x : A) → m ≡ n + length l → (t ++ number n l) ++ (m, x) ∷ [] ≡ t ++ number n (l ++ x ∷ [])
  number_next t n m l x e = append_assoc t (number n l) ((m, x) ∷ []) ∙ ap (λ r. t ++ r) (ap {B = Table A} (λ (k : ℕ). number n l ++ (k, x) ∷ []) e ∙ number_more n l x)

  pub number_long : (n : ℕ) (l : List A) → length (number n l) ≡ length l
  unfolding number
  number_long n [] = refl
  number_long n (x ∷ l) = ap suc (number_long (suc n) l)

  change_append : (n : ℕ) (f : A → A) (t s : Table A) → change n f (t ++ s) ≡ change n f t ++ change n f s
  unfolding change
  change_append n f [] s = refl
  change_append n f (e ∷ t) s = go (eqb e.0 n) (change_append n f t s)
    where
      go : (b : Bool) → change n f (t ++ s) ≡ change n f t ++ change n f s → cond b ((e.0, f e.1) ∷ change n f (t ++ s)) (e ∷ change n f (t ++ s)) ≡ cond b ((e.0, f e.1) ∷ change n f t) (e ∷ change n f t) ++ change n f s
      go true ih = ap {B = Table A} (λ r. (e.0, f e.1) ∷ r) ih
      go false ih = ap {B = Table A} (λ r. e ∷ r) ih

  change_last : (n : ℕ) (f : A → A) (t : Table A) (x : A) → change n f t ≡ t → change n f (t ++ (n, x) ∷ []) ≡ t ++ (n, f x) ∷ []
  unfolding change
  change_last n f t x e = change_append n f t ((n, x) ∷ []) ∙ ap₂ {C = Table A} (λ a b. a ++ b) e (ap {B = Table A} (λ (b : Bool). cond b ((n, f x) ∷ []) ((n, x) ∷ [])) (eq-eqb n n refl))

  find_last : (n : ℕ) (t : Table A) (x : A) → find t n ≡ none → find (t ++ (n, x) ∷ []) n ≡ some x
  unfolding find
  find_last n [] x e = ap (λ (b : Bool). cond b (some x) none) (eq-eqb n n refl)
  find_last n (y ∷ t) x e = go (eqb y.0 n) (λ q. find_last n t x q) e
    where
      go : (b : Bool) → (find t n ≡ none → find (t ++ (n, x) ∷ []) n ≡ some x) → cond b (some y.1) (find t n) ≡ none → cond b (some y.1) (find (t ++ (n, x) ∷ []) n) ≡ some x
      go true ih e = absurd (let z : ◌≡◌ {A = ℕ} 0 1 = cc in omega arith)
      go false ih e = ih e

  change_absent : (nm : ℕ → ℕ) (g : ℕ → A) (f : A → A) (n : ℕ) (l : List ℕ) → ((q : ℕ) → In ℕ_discrete q l → nm q ≢ n) → change n f (map (λ q. (nm q, g q)) l) ≡ map (λ q. (nm q, g q)) l
  unfolding change
  change_absent nm g f n [] h = refl
  change_absent nm g f n (q ∷ l) h =
      ap {B = Table A} (λ (b : Bool). cond b ((nm q, f (g q)) ∷ change n f (map (λ q. (nm q, g q)) l)) ((nm q, g q) ∷ change n f (map (λ q. (nm q, g q)) l))) (ne_eqb (nm q) n (h q (in_head ℕ_discrete q l)))
      ∙ ap {B = Table A} (λ r. (nm q, g q) ∷ r) (change_absent nm g f n l (λ r i. h r (in_tail ℕ_discrete r q l i)))

replicate_more : {A : Type 0} (k : ℕ) (x : A) → replicate k x ++ x ∷ [] ≡ replicate (suc k) x
replicate_more zero x = refl
replicate_more {A} (suc k) x = ap {B = List A} (λ r. x ∷ r) (replicate_more k x)

-- ---- the rules: one more of each

-- no operation and no block has the number that is next
pub record Unborn (h : History) : Type 0 where
  pub operations : (f : Operation → Operation) → change h.born.operations f h.operations ≡ h.operations
  pub blocks : (f : Block → Block) → change h.born.blocks f h.blocks ≡ h.blocks
  pub no_operation : find h.operations h.born.operations ≡ none
  pub no_block : find h.blocks h.born.blocks ≡ none

sum_1 : (a b c : ℕ) → a + b + c ≡ a + (b + c)
sum_1 a b c = omega arith

module _ (h : History) (U : Unborn h) where
  abbrev made : ℕ → ℕ → ℕ → ℕ → Operation
  made r a s g = record { results = up h.born.values r; operands = up h.born.uses a; successors = up (h.born.uses + a) s; regions = up h.born.regions g; block = none }

  pub made_operation : (fl : ℕ) (ts vs bs : List ℕ) (g : ℕ) → find (remember (new_operation fl ts vs bs g) h).operations h.born.operations ≡ some (made (length ts) (length vs) (length bs) g)
  unfolding remember bear carry_out
  made_operation fl ts vs bs g = find_last h.born.operations h.operations (made (length ts) (length vs) (length bs) g) U.no_operation

  pub made_block : (ts : List ℕ) → find (remember (new_block ts) h).blocks h.born.blocks ≡ some (record { arguments = up h.born.values (length ts); region = none })
  unfolding remember bear carry_out with_blocks
  made_block ts = find_last h.born.blocks h.blocks (record { arguments = up h.born.values (length ts); region = none }) U.no_block

  one_more : (l : List ℕ) (x : ℕ) (b : ℕ) → b + length l + 1 ≡ b + length (l ++ x ∷ [])
  one_more l x b = omega (arith, length-append l (x ∷ []))

  no_more : (a b : ℕ) → a + b + 0 ≡ a + b
  no_more a b = omega arith

  module _ (fl : ℕ) (ts vs bs : List ℕ) (g t i : ℕ) where
    abbrev k : History
    k = remember (new_operation fl ts vs bs g) h

    result_more : length ts ≤ i → bear (plus k.born (one_of val)) (change_values operation h.born.operations (seq_insert_at i k.born.values) k) ≡ remember (new_operation fl (ts ++ t ∷ []) vs bs g) h
    unfolding remember bear carry_out births plus change_values with_operations change_results
    result_more le =
        λ j.
        record {
          operations = (change_last h.born.operations (change_results (seq_insert_at i (h.born.values + length ts))) h.operations (made (length ts) (length vs) (length bs) g) (U.operations (change_results (seq_insert_at i (h.born.values + length ts))))
              ∙ ap (λ (l : List ℕ). h.operations ++ (h.born.operations, record { results = l; operands = up h.born.uses (length vs); successors = up (h.born.uses + length vs) (length bs); regions = up h.born.regions g; block = none }) ∷ []) (up_next h.born.values (h.born.values + length ts) i ts t refl le)) j;
          blocks = h.blocks;
          uses = h.uses ++ number h.born.uses (map of_value vs ++ map of_block bs);
          born = record { operations = no_more h.born.operations 1 j; blocks = no_more h.born.blocks 0 j; regions = no_more h.born.regions g j; values = one_more ts t h.born.values j; uses = no_more h.born.uses (length vs + length bs) j };
          ended = h.ended;
        }

    region_more : g ≤ i → bear (plus k.born (one_of reg)) (with_operations k (change h.born.operations (change_regions (seq_insert_at i k.born.regions)) k.operations)) ≡ remember (new_operation fl ts vs bs (suc g)) h
    unfolding remember bear carry_out births plus with_operations change_regions
    region_more le =
        λ j.
        record {
          operations = (change_last h.born.operations (change_regions (seq_insert_at i (h.born.regions + g))) h.operations (made (length ts) (length vs) (length bs) g) (U.operations (change_regions (seq_insert_at i (h.born.regions + g))))
              ∙ ap (λ (l : List ℕ). h.operations ++ (h.born.operations, record { results = up h.born.values (length ts); operands = up h.born.uses (length vs); successors = up (h.born.uses + length vs) (length bs); regions = l; block = none }) ∷ []) (up_more h.born.regions g i le)) j;
          blocks = h.blocks;
          uses = h.uses ++ number h.born.uses (map of_value vs ++ map of_block bs);
          born = record { operations = no_more h.born.operations 1 j; blocks = no_more h.born.blocks 0 j; regions = suc_more h.born.regions g j; values = no_more h.born.values (length ts) j; uses = no_more h.born.uses (length vs + length bs) j };
          ended = h.ended;
        }
      where
        suc_more : (a b : ℕ) → a + b + 1 ≡ a + suc b
        suc_more a b = omega arith

    successor_more : length bs ≤ i → bear (plus k.born (one_of usg)) (add_use successor h.born.operations t (seq_insert_at i) k) ≡ remember (new_operation fl ts vs (bs ++ t ∷ []) g) h
    unfolding remember bear carry_out births plus add_use change_slot defined
    successor_more le =
        λ j.
        record {
          operations = (change_last h.born.operations (change_slot successor (seq_insert_at i n)) h.operations (made (length ts) (length vs) (length bs) g) (U.operations (change_slot successor (seq_insert_at i n)))
              ∙ ap (λ (l : List ℕ). h.operations ++ (h.born.operations, record { results = up h.born.values (length ts); operands = up h.born.uses (length vs); successors = l; regions = up h.born.regions g; block = none }) ∷ []) (up_next (h.born.uses + length vs) n i bs t (sym (sum_1 h.born.uses (length vs) (length bs))) le)) j;
          blocks = h.blocks;
          uses = (number_next h.uses h.born.uses n (map of_value vs ++ map of_block bs) (of_block t) long ∙ ap (λ l. h.uses ++ number h.born.uses l) (append_assoc (map of_value vs) (map of_block bs) (of_block t ∷ []) ∙ ap (λ l. map of_value vs ++ l) (sym (map_append of_block bs (t ∷ []))))) j;
          born = record { operations = no_more h.born.operations 1 j; blocks = no_more h.born.blocks 0 j; regions = no_more h.born.regions g j; values = no_more h.born.values (length ts) j; uses = all_more j };
          ended = h.ended;
        }
      where
        n : ℕ
        n = h.born.uses + (length vs + length bs)

        long : n ≡ h.born.uses + length (map of_value vs ++ map of_block bs)
        long = ap (λ (y : ℕ). h.born.uses + y) (sym (length-append (map of_value vs) (map of_block bs) ∙ ap₂ ◌+◌ (length-map vs of_value) (length-map bs of_block)))

        all_more : h.born.uses + (length vs + length bs) + 1 ≡ h.born.uses + (length vs + length (bs ++ t ∷ []))
        all_more = omega (arith, length-append bs (t ∷ []))

  operand_more : (fl : ℕ) (ts vs : List ℕ) (g t i : ℕ) → length vs ≤ i → bear (plus (remember (new_operation fl ts vs [] g) h).born (one_of usg)) (add_use operand h.born.operations t (seq_insert_at i) (remember (new_operation fl ts vs [] g) h)) ≡ remember (new_operation fl ts (vs ++ t ∷ []) [] g) h
  unfolding remember bear carry_out births plus add_use change_slot defined up
  operand_more fl ts vs g t i le =
      λ j.
      record {
        operations = (change_last h.born.operations (change_slot operand (seq_insert_at i n)) h.operations (made (length ts) (length vs) 0 g) (U.operations (change_slot operand (seq_insert_at i n)))
            ∙ ap (λ (l : List ℕ). h.operations ++ (h.born.operations, record { results = up h.born.values (length ts); operands = l; successors = []; regions = up h.born.regions g; block = none }) ∷ []) (up_next h.born.uses n i vs t (zero_in h.born.uses (length vs)) le)) j;
        blocks = h.blocks;
        uses = (number_next h.uses h.born.uses n (map of_value vs ++ []) (of_value t) long ∙ ap (λ l. h.uses ++ number h.born.uses l) (ap (λ l. l ++ of_value t ∷ []) (append-nil (map of_value vs)) ∙ sym (append-nil (map of_value (vs ++ t ∷ [])) ∙ map_append of_value vs (t ∷ [])))) j;
        born = record { operations = no_more h.born.operations 1 j; blocks = no_more h.born.blocks 0 j; regions = no_more h.born.regions g j; values = no_more h.born.values (length ts) j; uses = all_more j };
        ended = h.ended;
      }
    where
      n : ℕ
      n = h.born.uses + (length vs + 0)

      zero_in : (a b : ℕ) → a + (b + 0) ≡ a + b
      zero_in a b = omega arith

      long : n ≡ h.born.uses + length (map of_value vs ++ [])
      long = omega (arith, length-append (map of_value vs) [], length-map vs of_value)

      all_more : h.born.uses + (length vs + 0) + 1 ≡ h.born.uses + (length (vs ++ t ∷ []) + 0)
      all_more = omega (arith, length-append vs (t ∷ []))

  argument_more : (ts : List ℕ) (t i : ℕ) → length ts ≤ i → bear (plus (remember (new_block ts) h).born (one_of val)) (change_values block h.born.blocks (seq_insert_at i (remember (new_block ts) h).born.values) (remember (new_block ts) h)) ≡ remember (new_block (ts ++ t ∷ [])) h
  unfolding remember bear carry_out births plus change_values with_blocks change_arguments
  argument_more ts t i le =
      λ j.
      record {
        operations = h.operations;
        blocks = (change_last h.born.blocks (change_arguments (seq_insert_at i (h.born.values + length ts))) h.blocks (record { arguments = up h.born.values (length ts); region = none }) (U.blocks (change_arguments (seq_insert_at i (h.born.values + length ts))))
            ∙ ap (λ (l : List ℕ). h.blocks ++ (h.born.blocks, record { arguments = l; region = none }) ∷ []) (up_next h.born.values (h.born.values + length ts) i ts t refl le)) j;
        uses = h.uses;
        born = record { operations = no_more h.born.operations 0 j; blocks = no_more h.born.blocks 1 j; regions = no_more h.born.regions 0 j; values = one_more ts t h.born.values j; uses = no_more h.born.uses 0 j };
        ended = h.ended;
      }

pub unborn : {P : State} → Linked P → (e : ℕ) → Unborn (hist e (view P))
unfolding hist view alive
unborn {P} S e =
    record {
      operations = λ f. ap (change (P.tab op).next f) (tabled_view P op op_of) ∙ change_absent (λ q. num P (op, q)) (λ q. op_of (rec_of P (op, q))) f (P.tab op).next (P.tab op).order (λ q i m. absurd (omega (arith, (S.tabs op).below q i, m))) ∙ sym (tabled_view P op op_of);
      blocks = λ f. ap (change (P.tab blk).next f) (tabled_view P blk block_of) ∙ change_absent (λ q. num P (blk, q)) (λ q. block_of (rec_of P (blk, q))) f (P.tab blk).next (P.tab blk).order (λ q i m. absurd (omega (arith, (S.tabs blk).below q i, m))) ∙ sym (tabled_view P blk block_of);
      no_operation = find_dead S op op_of (P.tab op).next (λ q i m. absurd (omega (arith, (S.tabs op).below q i, m)));
      no_block = find_dead S blk block_of (P.tab blk).next (λ q i m. absurd (omega (arith, (S.tabs blk).below q i, m)));
    }

-- ---- by numbers: an operation, a block, a region of an operation

more_0 : (a : ℕ) → a ≡ a + 0
more_0 a = omega arith

more_1 : (a : ℕ) → suc a ≡ a + 1
more_1 a = omega arith

module _ (N : Names) (n i : ℕ) where
  abbrev r : ℕ
  r = N.next reg

  abbrev G : Names
  G = n_enter (regions, (op, n)) i (reg, r) (n_birth reg 0 N)

  region_history : (e : ℕ) → hist e G ≡ bear (plus (born_of N) (one_of reg)) (with_operations (hist e N) (change n (change_regions (seq_insert_at i r)) (hist e N).operations))
  unfolding hist bear plus with_operations change_regions n_enter amend n_birth upd
  region_history e = λ j. record { operations = tabled_amend op_of n (change_list regions (seq_insert_at i r)) (λ q. refl) (change_regions (seq_insert_at i r)) (λ q. refl) (N.things op) j; blocks = tabled block_of (N.things blk); uses = tabled use_of (N.things usg); born = record { operations = more_0 (N.next op) j; blocks = more_0 (N.next blk) j; regions = more_1 (N.next reg) j; values = more_0 (N.next val) j; uses = more_0 (N.next usg) j }; ended = e }

  region_flags : tabled (λ q. q.tag) (G.things op) ≡ tabled (λ q. q.tag) (N.things op)
  unfolding n_enter amend n_birth upd
  region_flags = tabled_same (λ q. q.tag) n (change_list regions (seq_insert_at i r)) (λ q. refl) (λ q. refl) (N.things op)

  region_types : tabled (λ q. q.tag) (G.things val) ≡ tabled (λ q. q.tag) (N.things val)
  unfolding n_enter amend n_birth upd
  region_types = refl

  region_orders : orders_of G ≡ record { ops_of = (orders_of N).ops_of; blocks_of = (orders_of N).blocks_of ++ (r, []) ∷ [] }
  unfolding n_enter amend n_birth upd orders_of
  region_orders = λ j. record { ops_of = tabled (λ q. q.lists ops) (N.things blk); blocks_of = (tabled_same (λ q. q.lists blocks) r (set_home regs (some (regions, n))) (λ q. refl) (λ q. refl) (N.things reg ++ bare r 0 ∷ []) ∙ map_append (λ q. (q.num, q.lists blocks)) (N.things reg) (bare r 0 ∷ [])) j }

-- ---- the tables as the things are born; the store P, and the numbers of its uses that have ended

module _ {P Q : State} (e : ℕ) (caps : (j : Kind) → (Q.tab j).cap ≡ (P.tab j).cap) where
  -- an operation, or a block, with empty lists
  pub operation_first : (fl : ℕ) → view Q ≡ n_birth op fl (view P) → Accepts P Q (new_operation fl [] [] [] 0) e e
  unfolding hist view n_birth upd remember bear carry_out births plus up number reorder order new_lists containers orders_of new_flags new_types
  operation_first fl seen =
      record {
        history = ap (hist e) seen ∙ (λ j. record { operations = map_append (λ q. (q.num, op_of q)) ((view P).things op) (bare (P.tab op).next fl ∷ []) j; blocks = tabled block_of ((view P).things blk); uses = sym (append-nil (tabled use_of ((view P).things usg))) j; born = record { operations = more_1 (P.tab op).next j; blocks = more_0 (P.tab blk).next j; regions = more_0 (P.tab reg).next j; values = more_0 (P.tab val).next j; uses = more_0 (P.tab usg).next j }; ended = e });
        flags = ap (λ (N : Names). tabled (λ q. q.tag) (N.things op)) seen ∙ map_append (λ q. (q.num, q.tag)) ((view P).things op) (bare (P.tab op).next fl ∷ []);
        types = ap (λ (N : Names). tabled (λ q. q.tag) (N.things val)) seen ∙ sym (append-nil (tabled (λ q. q.tag) ((view P).things val)));
        orders = ap orders_of seen ∙ (λ j. record { ops_of = sym (append-nil (tabled (λ q. q.lists ops) ((view P).things blk))) j; blocks_of = sym (append-nil (tabled (λ q. q.lists blocks) ((view P).things reg))) j });
        caps = caps;
      }

  pub block_first : view Q ≡ n_birth blk 0 (view P) → Accepts P Q (new_block []) e e
  unfolding hist view n_birth upd remember bear carry_out births plus up number reorder order new_lists containers orders_of new_flags new_types with_blocks
  block_first seen =
      record {
        history = ap (hist e) seen ∙ (λ j. record { operations = tabled op_of ((view P).things op); blocks = map_append (λ q. (q.num, block_of q)) ((view P).things blk) (bare (P.tab blk).next 0 ∷ []) j; uses = tabled use_of ((view P).things usg); born = record { operations = more_0 (P.tab op).next j; blocks = more_1 (P.tab blk).next j; regions = more_0 (P.tab reg).next j; values = more_0 (P.tab val).next j; uses = more_0 (P.tab usg).next j }; ended = e });
        flags = ap (λ (N : Names). tabled (λ q. q.tag) (N.things op)) seen ∙ sym (append-nil (tabled (λ q. q.tag) ((view P).things op)));
        types = ap (λ (N : Names). tabled (λ q. q.tag) (N.things val)) seen ∙ sym (append-nil (tabled (λ q. q.tag) ((view P).things val)));
        orders = ap orders_of seen ∙ (λ j. record { ops_of = map_append (λ q. (q.num, q.lists ops)) ((view P).things blk) (bare (P.tab blk).next 0 ∷ []) j; blocks_of = sym (append-nil (tabled (λ q. q.lists blocks) ((view P).things reg))) j });
        caps = caps;
      }

use_types : (N : Names) (sl : Slot) (n i d : ℕ) → tabled (λ q. q.tag) ((n_birth_use (slot_role sl, (op, n)) i (def_role sl, (def_kind sl, d)) N).things val) ≡ tabled (λ q. q.tag) (N.things val)
unfolding n_hold n_enter amend n_birth upd
use_types N sl n i d = refl

-- one more thing in a list of the new operation or block
module _ {P : State} (Q Z : State) (S : Linked P) (e : ℕ) (caps : (j : Kind) → (Z.tab j).cap ≡ (Q.tab j).cap) where
  abbrev h : History
  h = hist e (view P)

  module _ (fl : ℕ) (ts vs bs : List ℕ) (g : ℕ) (A : Accepts P Q (new_operation fl ts vs bs g) e e) where
    next_value : (view Q).next val ≡ (P.tab val).next + length ts
    unfolding hist view remember bear births plus
    next_value = ap (λ (k : History). k.born.values) A.history

    next_region : (view Q).next reg ≡ (P.tab reg).next + g
    unfolding hist view remember bear births plus
    next_region = ap (λ (k : History). k.born.regions) A.history

    pub result_turn : (t i : ℕ) → length ts ≤ i → view Z ≡ n_enter (results, (op, (P.tab op).next)) i (val, (view Q).next val) (n_birth val t (view Q)) → Accepts P Z (new_operation fl (ts ++ t ∷ []) vs bs g) e e
    unfolding hist view reorder order new_lists containers births new_flags new_types
    result_turn t i le seen =
        record {
          history = ap (hist e) seen ∙ value_history (view Q) (P.tab op).next i t operation e ∙ ap (λ (k : History). bear (plus k.born (one_of val)) (change_values operation (P.tab op).next (seq_insert_at i k.born.values) k)) A.history ∙ result_more h (unborn S e) fl ts vs bs g t i le;
          flags = ap (λ (N : Names). tabled (λ q. q.tag) (N.things op)) seen ∙ value_flags (view Q) (P.tab op).next i t operation ∙ A.flags;
          types = ap (λ (N : Names). tabled (λ q. q.tag) (N.things val)) seen ∙ value_types (view Q) (P.tab op).next i t operation ∙ ap (λ l. l ++ ((view Q).next val, t) ∷ []) A.types ∙ number_next (tabled (λ q. q.tag) ((view P).things val)) (P.tab val).next ((view Q).next val) ts t next_value;
          orders = ap orders_of seen ∙ value_orders (view Q) (P.tab op).next i t operation ∙ A.orders;
          caps = λ j. caps j ∙ A.caps j;
        }

    pub region_turn : (i : ℕ) → g ≤ i → view Z ≡ n_enter (regions, (op, (P.tab op).next)) i (reg, (view Q).next reg) (n_birth reg 0 (view Q)) → Accepts P Z (new_operation fl ts vs bs (suc g)) e e
    unfolding hist view reorder order new_lists containers births new_flags new_types
    region_turn i le seen =
        record {
          history = ap (hist e) seen ∙ region_history (view Q) (P.tab op).next i e ∙ ap (λ (k : History). bear (plus k.born (one_of reg)) (with_operations k (change (P.tab op).next (change_regions (seq_insert_at i k.born.regions)) k.operations))) A.history ∙ region_more h (unborn S e) fl ts vs bs g 0 i le;
          flags = ap (λ (N : Names). tabled (λ q. q.tag) (N.things op)) seen ∙ region_flags (view Q) (P.tab op).next i ∙ A.flags;
          types = ap (λ (N : Names). tabled (λ q. q.tag) (N.things val)) seen ∙ region_types (view Q) (P.tab op).next i ∙ A.types;
          orders = ap orders_of seen ∙ region_orders (view Q) (P.tab op).next i
              ∙ ap (λ (o : Orders). record { ops_of = o.ops_of; blocks_of = o.blocks_of ++ ((view Q).next reg, []) ∷ [] }) A.orders
              ∙ (λ j. record { ops_of = new_lists operation (new_operation fl ts vs bs g) h (orders_of (view P)).ops_of; blocks_of = (number_next (orders_of (view P)).blocks_of (P.tab reg).next ((view Q).next reg) (replicate g []) [] (next_region ∙ ap (λ (k : ℕ). (P.tab reg).next + k) (sym (length-replicate g []))) ∙ ap (λ l. (orders_of (view P)).blocks_of ++ number (P.tab reg).next l) (replicate_more g [])) j });
          caps = λ j. caps j ∙ A.caps j;
        }

    pub successor_turn : (d i : ℕ) → length bs ≤ i → Linked Q → view Z ≡ n_birth_use (slot_role successor, (op, (P.tab op).next)) i (def_role successor, (def_kind successor, d)) (view Q) → Accepts P Z (new_operation fl ts vs (bs ++ d ∷ []) g) e e
    unfolding hist view reorder order new_lists containers births new_flags new_types
    successor_turn d i le L seen =
        record {
          history = ap (hist e) seen ∙ born_history (view Q) successor (P.tab op).next i d (next_new L usg) e (seq_insert_at i) refl ∙ ap (λ (k : History). bear (plus k.born (one_of usg)) (add_use successor (P.tab op).next d (seq_insert_at i) k)) A.history ∙ successor_more h (unborn S e) fl ts vs bs g d i le;
          flags = ap (λ (N : Names). tabled (λ q. q.tag) (N.things op)) seen ∙ born_flags (view Q) successor (P.tab op).next i d (next_new L usg) ∙ A.flags;
          types = ap (λ (N : Names). tabled (λ q. q.tag) (N.things val)) seen ∙ use_types (view Q) successor (P.tab op).next i d ∙ A.types;
          orders = ap orders_of seen ∙ born_rest (view Q) successor (P.tab op).next i d (next_new L usg) ∙ A.orders;
          caps = λ j. caps j ∙ A.caps j;
        }

  pub operand_turn : (fl : ℕ) (ts vs : List ℕ) (g : ℕ) → Accepts P Q (new_operation fl ts vs [] g) e e → (d i : ℕ) → length vs ≤ i → Linked Q → view Z ≡ n_birth_use (slot_role operand, (op, (P.tab op).next)) i (def_role operand, (def_kind operand, d)) (view Q) → Accepts P Z (new_operation fl ts (vs ++ d ∷ []) [] g) e e
  unfolding hist view reorder order new_lists containers births new_flags new_types
  operand_turn fl ts vs g A d i le L seen =
      record {
        history = ap (hist e) seen ∙ born_history (view Q) operand (P.tab op).next i d (next_new L usg) e (seq_insert_at i) refl ∙ ap (λ (k : History). bear (plus k.born (one_of usg)) (add_use operand (P.tab op).next d (seq_insert_at i) k)) A.history ∙ operand_more h (unborn S e) fl ts vs g d i le;
        flags = ap (λ (N : Names). tabled (λ q. q.tag) (N.things op)) seen ∙ born_flags (view Q) operand (P.tab op).next i d (next_new L usg) ∙ A.flags;
        types = ap (λ (N : Names). tabled (λ q. q.tag) (N.things val)) seen ∙ use_types (view Q) operand (P.tab op).next i d ∙ A.types;
        orders = ap orders_of seen ∙ born_rest (view Q) operand (P.tab op).next i d (next_new L usg) ∙ A.orders;
        caps = λ j. caps j ∙ A.caps j;
      }

  module _ (ts : List ℕ) (A : Accepts P Q (new_block ts) e e) where
    pub argument_turn : (t i : ℕ) → length ts ≤ i → view Z ≡ n_enter (arguments, (blk, (P.tab blk).next)) i (val, (view Q).next val) (n_birth val t (view Q)) → Accepts P Z (new_block (ts ++ t ∷ [])) e e
    unfolding hist view reorder order new_lists containers births new_flags new_types remember bear plus
    argument_turn t i le seen =
        record {
          history = ap (hist e) seen ∙ value_history (view Q) (P.tab blk).next i t block e ∙ ap (λ (k : History). bear (plus k.born (one_of val)) (change_values block (P.tab blk).next (seq_insert_at i k.born.values) k)) A.history ∙ argument_more h (unborn S e) ts t i le;
          flags = ap (λ (N : Names). tabled (λ q. q.tag) (N.things op)) seen ∙ value_flags (view Q) (P.tab blk).next i t block ∙ A.flags;
          types = ap (λ (N : Names). tabled (λ q. q.tag) (N.things val)) seen ∙ value_types (view Q) (P.tab blk).next i t block ∙ ap (λ l. l ++ ((view Q).next val, t) ∷ []) A.types ∙ number_next (tabled (λ q. q.tag) ((view P).things val)) (P.tab val).next ((view Q).next val) ts t (ap (λ (k : History). k.born.values) A.history);
          orders = ap orders_of seen ∙ value_orders (view Q) (P.tab blk).next i t block ∙ A.orders;
          caps = λ j. caps j ∙ A.caps j;
        }
