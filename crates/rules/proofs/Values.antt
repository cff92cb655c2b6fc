-- Each live value stands at one place of one owner: in the results of one operation or the arguments of one block. Assumes nothing.
use mathlib.Core.Path.{◌≡◌, refl, ap}
use mathlib.Core.Bool.{Bool, true, false, not, cond}
use mathlib.Core.List.{List, [], ◌∷◌, ◌++◌}
use mathlib.Core.Option.{Option, none, some}
use Prim.Native.Nat.{ℕ, ◌+◌, ◌-◌, ◌≤◌}
use native.Mathlib.Omega.{arith}
use borrow.Author.Tests.{leb-true, leb-false}
use lib.Dec.{eqb, leb}
use lib.ListN.{length}
use Rattle.rules.specs.Table.{Table, change, keep_keys, remove_at, swap_out, up, count}
use Rattle.edit.specs.Record.{Slot, operand, successor, Member, operation, block, Thing, the_operation, the_block, the_region, Definition, Edit, new_operation, new_block, push_use, insert_use, replace_use, remove_use, pop_use, push_value, insert_value, remove_value, pop_value, link_after, link_before, link_front, link_back, unlink, move_region, move_use, replace_some, retarget_some, drop_uses, erase_operation, erase_block, erase_region, verdict}
use Rattle.rules.specs.History.{Operation, Block, Five, History, births, bear, plus, zeros, begin, carry_out, remember, change_slot, change_results, change_regions, change_arguments, into_block, into_region, with_operations, with_blocks, with_uses, end_uses, add_use, take_use, change_values, put_in, emptied, region_index, drop_inside, end_inside, hand_over, place_some, operation_in, block_in, parent, defined}
use Rattle.rules.specs.State.{State, accept, start}
use Rattle.rules.proofs.Places.{count_append, count_insert, up_below, up_past, up_once}
use Rattle.rules.proofs.Regions.{count_remove_le}
use Rattle.rules.proofs.Laws.{spread, spread_same}
use Rattle.rules.proofs.Tables.{weigh_all, weigh_append, weigh_keep, weigh_more}
use Rattle.rules.proofs.Rising.{Sorted, Ordered}

abbrev pub results_in : Operation → List ℕ
results_in o = o.results

abbrev pub arguments_in : Block → List ℕ
arguments_in b = b.arguments

-- how often a value stands in results and arguments
abbrev pub owners : ℕ → History → ℕ
owners v h = spread results_in v h.operations + spread arguments_in v h.blocks

pub record Valued (b : ℕ) (h : History) : Type 0 where
  pub once : (v : ℕ) → owners v h ≤ 1
  pub fresh : (v : ℕ) → b ≤ v → owners v h ≡ 0

-- d new values, from b on, and no others
pub record Grown (b d : ℕ) (h k : History) : Type 0 where
  pub less : (v : ℕ) → owners v k ≤ count v (up b d) + owners v h

valued_le : (b d : ℕ) (h k : History) → Grown b d h k → Valued b h → Valued (b + d) k
valued_le b d h k g w = record { once = λ v. side v (leb b v) refl; fresh = λ v q. omega (arith, g.less v, w.fresh v (omega arith), up_past v b d q) }
  where
    side : (v : ℕ) (c : Bool) → leb b v ≡ c → owners v k ≤ 1
    side v true z = omega (arith, g.less v, w.fresh v (leb-true b v z), up_once v b d)
    side v false z = omega (arith, g.less v, w.once v, up_below v b d (leb-false b v z))

grows : {b d : ℕ} {h k : History} → ((v : ℕ) → owners v k ≤ count v (up b d) + owners v h) → Grown b d h k
grows f = record { less = f }

v_none : {b : ℕ} {h : History} (k : History) → ((v : ℕ) → owners v k ≤ owners v h) → Grown b 0 h k
unfolding up
v_none {b} {h} k f = grows (λ v. omega (arith, f v))

-- operations changed at one number, with the results kept
v_change : {b : ℕ} {h : History} (k : History) (n : ℕ) (f : Operation → Operation) → k.operations ≡ change n f h.operations → k.blocks ≡ h.blocks → ((o : Operation) → (f o).results ≡ o.results) → Grown b 0 h k
v_change {b} {h} k n f e g r = v_none k (λ v. omega (arith, ap (spread results_in v) e, ap (spread arguments_in v) g, spread_same results_in v n f h.operations r))

v_slot : {b : ℕ} {h : History} (k : History) (sl : Slot) (n : ℕ) (f : List ℕ → List ℕ) → k.operations ≡ change n (change_slot sl f) h.operations → k.blocks ≡ h.blocks → Grown b 0 h k
v_slot k sl n f e g = v_change k n (change_slot sl f) e g (at sl)
  where
    at : (l : Slot) (o : Operation) → (change_slot l f o).results ≡ o.results
    at operand o = unfold change_slot in refl
    at successor o = unfold change_slot in refl

-- values changed, with d new ones at most
v_values : {b x y : ℕ} {h : History} (m : Member) (n d : ℕ) (f : List ℕ → List ℕ) → Sorted x h.operations → Sorted y h.blocks → ((v : ℕ) (xs : List ℕ) → count v (f xs) ≤ count v (up b d) + count v xs) → Grown b d h (change_values m n f h)
unfolding change_values with_operations with_blocks change_results change_arguments
v_values {b} {x} {y} {h} operation n d f r q k = grows (λ v. omega (arith, weigh_more (λ a. count v (results_in a)) (count v (up b d)) n 0 x (change_results f) h.operations r.rising (λ o. k v o.results)))
v_values {b} {x} {y} {h} block n d f r q k = grows (λ v. omega (arith, weigh_more (λ a. count v (arguments_in a)) (count v (up b d)) n 0 y (change_arguments f) h.blocks q.rising (λ o. k v o.arguments)))

v_put_in : {b : ℕ} {h : History} (m : Member) (x : ℕ) (c : Option ℕ) → Grown b 0 h (put_in m x c h)
unfolding put_in with_operations with_blocks into_block into_region
v_put_in {b} {h} operation x c = v_change _ x (into_block c) refl refl (λ o. refl)
v_put_in {b} {h} block x c = v_none _ (λ v. omega (arith, spread_same arguments_in v x (into_region c) h.blocks (λ o. refl)))

v_hand_over : {b : ℕ} {h : History} (r : ℕ) (p : Option ℕ) (o : ℕ) → Grown b 0 h (hand_over r p o h)
unfolding hand_over with_operations change_regions
v_hand_over {b} {h} r none o = v_none h (λ v. omega arith)
v_hand_over {b} {h} r (some p) o = go (eqb p o)
  where
    away : Table Operation
    away = change p (change_regions (swap_out r)) h.operations

    go : (c : Bool) → Grown b 0 h (cond c h (with_operations h (change o (change_regions (λ xs. xs ++ (r ∷ []))) away)))
    go true = v_none h (λ v. omega arith)
    go false = v_none _ (λ v. omega (arith, spread_same results_in v o (change_regions (λ xs. xs ++ (r ∷ []))) away (λ q. refl), spread_same results_in v p (change_regions (swap_out r)) h.operations (λ q. refl)))

v_drop : {b : ℕ} {h : History} (t : Thing) → Grown b 0 h (drop_inside t h)
unfolding drop_inside end_uses with_operations
v_drop {b} {h} t = v_none _ (λ v. omega (arith, weigh_all (λ a. count v (results_in a)) (λ n. cond (operation_in h t n) emptied (λ o. o)) h.operations (λ n o. at v (operation_in h t n) o)))
  where
    at : (v : ℕ) (c : Bool) (o : Operation) → count v (cond c emptied (λ q. q) o).results ≤ count v o.results
    at v true o = unfold emptied change_slot in (omega arith)
    at v false o = omega arith

v_erase : {b : ℕ} {h : History} (t : Thing) → Grown b 0 h (end_inside t h)
unfolding end_inside
v_erase {b} {h} t = v_none _ (λ v. omega (arith, weigh_keep (λ a. count v (results_in a)) (λ n. not (operation_in h t n)) h.operations, weigh_keep (λ a. count v (arguments_in a)) (λ n. not (block_in h t n)) h.blocks))

v_erase_region : {b : ℕ} {h : History} (o i : ℕ) → Grown b 0 h (carry_out (erase_region o i) h)
unfolding carry_out end_inside with_operations change_regions
v_erase_region {b} {h} o i = v_none _ (λ v. omega (arith, spread_same results_in v o (change_regions (remove_at i)) (keep_keys (λ n. not (operation_in h t n)) h.operations) (λ q. refl), weigh_keep (λ a. count v (results_in a)) (λ n. not (operation_in h t n)) h.operations, weigh_keep (λ a. count v (arguments_in a)) (λ n. not (block_in h t n)) h.blocks))
  where
    t : Thing
    t = the_region (region_index o i h)

v_chosen : {b : ℕ} {h : History} (c : Bool) (us : Table Definition) → Grown b 0 h (cond c h (with_uses h us))
unfolding with_uses
v_chosen {b} {h} true us = v_none h (λ v. omega arith)
v_chosen {b} {h} false us = v_none _ (λ v. omega arith)

v_operation : {b : ℕ} {h : History} (k : History) (n d : ℕ) (o : Operation) → k.operations ≡ h.operations ++ ((n, o) ∷ []) → k.blocks ≡ h.blocks → o.results ≡ up b d → Grown b d h k
v_operation {b} {h} k n d o e g r = grows (λ v. omega (arith, ap (spread results_in v) e, ap (spread arguments_in v) g, ap (count v) r, weigh_append (λ a. count v (results_in a)) h.operations ((n, o) ∷ [])))

v_block : {b : ℕ} {h : History} (k : History) (n d : ℕ) (o : Block) → k.blocks ≡ h.blocks ++ ((n, o) ∷ []) → k.operations ≡ h.operations → o.arguments ≡ up b d → Grown b d h k
v_block {b} {h} k n d o e g r = grows (λ v. omega (arith, ap (spread arguments_in v) e, ap (spread results_in v) g, ap (count v) r, weigh_append (λ a. count v (arguments_in a)) h.blocks ((n, o) ∷ [])))

pub values_grown : (e : Edit) (h : History) {x y : ℕ} → Sorted x h.operations → Sorted y h.blocks → Grown h.born.values (births e).values h (carry_out e h)
unfolding carry_out births zeros add_use take_use end_uses with_operations with_blocks place_some with_uses up
values_grown (new_operation fl ts vs bs g) h r q = v_operation _ _ (length ts) _ refl refl refl
values_grown (new_block ts) h r q = v_block _ _ (length ts) _ refl refl refl
values_grown (push_use sl n d) h r q = v_slot _ sl n _ refl refl
values_grown (insert_use sl n i d) h r q = v_slot _ sl n _ refl refl
values_grown (replace_use sl n i d) h r q = v_slot _ sl n _ refl refl
values_grown (remove_use sl n i) h r q = v_slot _ sl n _ refl refl
values_grown (pop_use sl n) h r q = v_slot _ sl n _ refl refl
values_grown (push_value m n ty) h r q = v_values m n 1 _ r q (λ v xs. omega (arith, count_append v xs (h.born.values ∷ [])))
values_grown (insert_value m n i ty) h r q = v_values m n 1 _ r q (λ v xs. omega (arith, count_insert v i h.born.values xs))
values_grown (remove_value m n i) h r q = v_values m n 0 _ r q (λ v xs. omega (arith, count_remove_le v i xs))
values_grown (pop_value m n) h r q = v_values m n 0 _ r q (λ v xs. omega (arith, count_remove_le v (length xs - 1) xs))
values_grown (link_after m x c) h r q = v_put_in m x _
values_grown (link_before m x c) h r q = v_put_in m x _
values_grown (link_front m x c) h r q = v_put_in m x _
values_grown (link_back m x c) h r q = v_put_in m x _
values_grown (unlink m x) h r q = v_put_in m x _
values_grown (move_region z o) h r q = v_hand_over z (parent h z) o
values_grown (move_use sl x u y) h r q = v_chosen (eqb x y) (change u (λ _. defined sl y) h.uses)
values_grown (replace_some x y us) h r q = v_none _ (λ v. omega arith)
values_grown (retarget_some x y ps) h r q = v_none _ (λ v. omega arith)
values_grown (drop_uses th) h r q = v_drop th
values_grown (erase_operation n) h r q = v_erase (the_operation n)
values_grown (erase_block n) h r q = v_erase (the_block n)
values_grown (erase_region o i) h r q = v_erase_region o i
values_grown (verdict th) h r q = v_none h (λ v. omega arith)

pub valued_accept : (e : Edit) (s : State) → Ordered s → Valued s.history.born.values s.history → Valued (accept e s).history.born.values (accept e s).history
unfolding accept remember bear plus
valued_accept e s r w = let k : Valued (s.history.born.values + (births e).values) (carry_out e s.history) = valued_le s.history.born.values (births e).values s.history (carry_out e s.history) (values_grown e s.history r.ops r.blks) w in record { once = k.once; fresh = k.fresh }

pub valued_start : (k : Five) → Valued (start k).history.born.values (start k).history
unfolding start begin zeros
valued_start k = record { once = λ v. omega arith; fresh = λ v q. refl }
