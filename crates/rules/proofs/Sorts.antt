-- An operand's use is a use of a value, and a successor's of a block. Assumes nothing.
use mathlib.Core.Path.{◌≡◌, refl, sym, ap, ◌∙◌}
use mathlib.Core.Bool.{Bool, true, false, not, cond, ◌&&◌}
use mathlib.Core.List.{List, [], ◌∷◌, ◌++◌, map}
use mathlib.Core.Option.{Option, none, some}
use Prim.Native.Nat.{ℕ, zero, suc, ◌+◌, ◌-◌, ◌≤◌, ◌<◌}
use native.Mathlib.Omega.{arith}
use borrow.Author.Tests.{eqb-false, leb-true, leb-false}
use lib.Dec.{T, eqb, leb, eqb→eq}
use lib.ListN.{length, set}
use Rattle.rules.specs.Table.{Table, find, change, keep_keys, number, nth, member, insert_at, remove_at, swap_out, some_and, up, one, count}
use Rattle.edit.specs.Record.{Slot, operand, successor, Member, operation, block, Thing, the_operation, the_block, the_region, Definition, of_value, of_block, Edit, new_operation, new_block, push_use, insert_use, replace_use, remove_use, pop_use, push_value, insert_value, remove_value, pop_value, link_after, link_before, link_front, link_back, unlink, move_region, move_use, replace_some, retarget_some, drop_uses, erase_operation, erase_block, erase_region, verdict}
use Rattle.rules.specs.History.{Operation, Five, History, bear, carry_out, slot_of, uses_in, change_slot, change_results, change_regions, into_block, with_operations, with_blocks, with_uses, end_uses, add_use, take_use, change_values, put_in, container, emptied, region_index, drop_inside, end_inside, hand_over, place_some, operation_in, parent, user, block_at, same_definition, defined}
use Rattle.rules.specs.State.{State}
use Rattle.rules.specs.Refusal.{check, from_state}
use Rattle.rules.specs.Demand.{sort_of}
use Rattle.rules.proofs.Tables.{and_l, weigh_all, weigh_append, weigh_keep, weigh_less, weigh_more}
use Rattle.rules.proofs.Places.{total, Placed, count_append, count_insert, up_below, up_past}
use Rattle.rules.proofs.Rising.{Sorted, Ordered}
use Rattle.rules.proofs.Regions.{count_remove_le}
use Rattle.rules.proofs.Inside.{zero_then}
use Rattle.rules.proofs.Laws.{none_some, is_true, omap, find_keeps, find_changes, find_changes_all, find_more, spread}

pub record Sorts (h : History) : Type 0 where
  pub fits : (sl : Slot) (u : ℕ) (d : Definition) → find h.uses u ≡ some d → 1 ≤ spread (uses_in sl) u h.operations → sort_of d ≡ sl

-- both slots together
pub total_slots : (u : ℕ) (t : Table Operation) → total u t ≡ spread (uses_in operand) u t + spread (uses_in successor) u t
unfolding uses_in
total_slots u [] = refl
total_slots u (e ∷ t) = omega (arith, total_slots u t)

pub slot_total : (sl : Slot) (u : ℕ) (t : Table Operation) → spread (uses_in sl) u t ≤ total u t
slot_total operand u t = omega (arith, total_slots u t)
slot_total successor u t = omega (arith, total_slots u t)

unborn : (sl : Slot) (u : ℕ) (h : History) → Placed h → h.born.uses ≤ u → spread (uses_in sl) u h.operations ≡ 0
unborn sl u h w k = omega (arith, slot_total sl u h.operations, w.agree u, w.below u k)

-- what a use was before, of the same sort
record Was (t : Table Definition) (u : ℕ) (d : Definition) : Type 0 where
  before : Definition
  there : find t u ≡ some before
  alike : sort_of before ≡ sort_of d

sorts_less : (h k : History) → ((sl : Slot) (u : ℕ) → spread (uses_in sl) u k.operations ≤ spread (uses_in sl) u h.operations) → ((u : ℕ) (d : Definition) → find k.uses u ≡ some d → Was h.uses u d) → Sorts h → Sorts k
sorts_less h k f g w = record { fits = λ sl u d e q. let b : Was h.uses u d = g u d e in sym b.alike ∙ w.fits sl u b.before b.there (omega (arith, f sl u)) }

was_same : (t s : Table Definition) → s ≡ t → (u : ℕ) (d : Definition) → find s u ≡ some d → Was t u d
was_same t s z u d e = record { before = d; there = ap (λ (x : Table Definition). find x u) (sym z) ∙ e; alike = refl }

was_kept : (p : ℕ → Bool) (t : Table Definition) (u : ℕ) (d : Definition) → find (keep_keys p t) u ≡ some d → Was t u d
was_kept p t u d e = record { before = d; there = go (p u) (sym (find_keeps p t u) ∙ e); alike = refl }
  where
    go : (b : Bool) → cond b (find t u) none ≡ some d → find t u ≡ some d
    go true z = z
    go false z = absurd (none_some z)

-- ---- the slots after a change

slot_le : (q : Slot) (f : List ℕ → List ℕ) (n : ℕ) (t : Table Operation) → ((u : ℕ) (xs : List ℕ) → count u (f xs) ≤ count u xs) → (sl : Slot) (u : ℕ) → spread (uses_in sl) u (change n (change_slot q f) t) ≤ spread (uses_in sl) u t
slot_le q f n t k sl u = weigh_less (λ a. count u (uses_in sl a)) n (change_slot q f) t (λ a. at sl q a)
  where
    at : (x y : Slot) (a : Operation) → count u (uses_in x (change_slot y f a)) ≤ count u (uses_in x a)
    at operand operand a = unfold uses_in change_slot in (k u a.operands)
    at operand successor a = unfold uses_in change_slot in (omega arith)
    at successor operand a = unfold uses_in change_slot in (omega arith)
    at successor successor a = unfold uses_in change_slot in (k u a.successors)

kept_le : (f : Operation → Operation) (n : ℕ) (t : Table Operation) → ((sl : Slot) (a : Operation) → uses_in sl (f a) ≡ uses_in sl a) → (sl : Slot) (u : ℕ) → spread (uses_in sl) u (change n f t) ≤ spread (uses_in sl) u t
kept_le f n t k sl u = weigh_less (λ a. count u (uses_in sl a)) n f t (λ a. omega (arith, ap (count u) (k sl a)))

results_kept : (f : List ℕ → List ℕ) (sl : Slot) (a : Operation) → uses_in sl (change_results f a) ≡ uses_in sl a
unfolding uses_in change_results
results_kept f operand a = refl
results_kept f successor a = refl

regions_kept : (f : List ℕ → List ℕ) (sl : Slot) (a : Operation) → uses_in sl (change_regions f a) ≡ uses_in sl a
unfolding uses_in change_regions
regions_kept f operand a = refl
regions_kept f successor a = refl

block_kept_uses : (c : Option ℕ) (sl : Slot) (a : Operation) → uses_in sl (into_block c a) ≡ uses_in sl a
unfolding uses_in into_block
block_kept_uses c operand a = refl
block_kept_uses c successor a = refl

-- ---- the edits

sorts_values : (m : Member) (n : ℕ) (f : List ℕ → List ℕ) (h : History) → Sorts h → Sorts (change_values m n f h)
unfolding change_values with_operations with_blocks
sorts_values operation n f h w = sorts_less h _ (kept_le (change_results f) n h.operations (results_kept f)) (was_same h.uses _ refl) w
sorts_values block n f h w = sorts_less h _ (λ sl u. omega arith) (was_same h.uses _ refl) w

sorts_put : (m : Member) (x : ℕ) (c : Option ℕ) (h : History) → Sorts h → Sorts (put_in m x c h)
unfolding put_in with_operations with_blocks
sorts_put operation x c h w = sorts_less h _ (kept_le (into_block c) x h.operations (block_kept_uses c)) (was_same h.uses _ refl) w
sorts_put block x c h w = sorts_less h _ (λ sl u. omega arith) (was_same h.uses _ refl) w

sorts_hand : (q : ℕ) (p : Option ℕ) (o : ℕ) (h : History) → Sorts h → Sorts (hand_over q p o h)
unfolding hand_over with_operations
sorts_hand q none o h w = w
sorts_hand q (some p) o h w = go (eqb p o)
  where
    away : Table Operation
    away = change p (change_regions (swap_out q)) h.operations

    go : (c : Bool) → Sorts (cond c h (with_operations h (change o (change_regions (λ xs. xs ++ (q ∷ []))) away)))
    go true = w
    go false = sorts_less h _ (λ sl u. omega (arith, kept_le (change_regions (λ xs. xs ++ (q ∷ []))) o away (regions_kept (λ xs. xs ++ (q ∷ []))) sl u, kept_le (change_regions (swap_out q)) p h.operations (regions_kept (swap_out q)) sl u)) (was_same h.uses _ refl) w

sorts_take : (sl : Slot) (o i : ℕ) (h : History) → Sorts h → Sorts (take_use sl o i h)
unfolding take_use end_uses with_operations
sorts_take sl o i h w = sorts_less h _ (slot_le sl (remove_at i) o h.operations (λ u xs. count_remove_le u i xs)) (was_kept _ h.uses) w

sorts_end : (us : List ℕ) (h : History) → Sorts h → Sorts (end_uses us h)
unfolding end_uses
sorts_end us h w = sorts_less h _ (λ sl u. omega arith) (was_kept _ h.uses) w

sorts_drop : (t : Thing) (h : History) → Sorts h → Sorts (drop_inside t h)
unfolding drop_inside end_uses with_operations
sorts_drop t h w = sorts_less h _ (λ sl u. weigh_all (λ a. count u ((uses_in sl) a)) (λ n. cond (operation_in h t n) emptied (λ o. o)) h.operations (λ n o. at sl u (operation_in h t n) o)) (was_kept _ h.uses) w
  where
    at : (sl : Slot) (u : ℕ) (c : Bool) (o : Operation) → count u (uses_in sl (cond c emptied (λ q. q) o)) ≤ count u (uses_in sl o)
    at operand u true o = unfold emptied change_slot uses_in in (omega arith)
    at successor u true o = unfold emptied change_slot uses_in in (omega arith)
    at operand u false o = omega arith
    at successor u false o = omega arith

sorts_erase : (t : Thing) (h : History) → Sorts h → Sorts (end_inside t h)
unfolding end_inside drop_inside end_uses with_operations
sorts_erase t h w = sorts_less h _ (λ sl u. weigh_keep (λ a. count u ((uses_in sl) a)) (λ n. not (operation_in h t n)) h.operations) (was_kept _ h.uses) w

sorts_erase_region : (o i : ℕ) (h : History) → Sorts h → Sorts (carry_out (erase_region o i) h)
unfolding carry_out with_operations
sorts_erase_region o i h w = sorts_less E _ (kept_le (change_regions (remove_at i)) o E.operations (regions_kept (remove_at i))) (was_same E.uses _ refl) (sorts_erase (the_region (region_index o i h)) h w)
  where
    E : History
    E = end_inside (the_region (region_index o i h)) h

-- one use more
sorts_add : (q : Slot) (o d c : ℕ) (f : ℕ → List ℕ → List ℕ) (h : History) → Sorted c h.operations → ((u : ℕ) (xs : List ℕ) → count u (f h.born.uses xs) ≤ one (eqb h.born.uses u) + count u xs) → Sorted h.born.uses h.uses → Placed h → Sorts h → Sorts (add_use q o d f h)
unfolding add_use
sorts_add q o d c f h ro k r p w = record { fits = λ sl u e x y. go sl u e (eqb h.born.uses u) refl x y }
  where
    n : ℕ
    n = h.born.uses

    at : (x y : Slot) (u : ℕ) (a : Operation) → count u (uses_in x (change_slot y (f h.born.uses) a)) ≤ one (eqb h.born.uses u) + count u (uses_in x a)
    at operand operand u a = unfold uses_in change_slot in (k u a.operands)
    at operand successor u a = unfold uses_in change_slot in (omega arith)
    at successor operand u a = unfold uses_in change_slot in (omega arith)
    at successor successor u a = unfold uses_in change_slot in (k u a.successors)

    -- in the other slot nothing is new
    other : (x y : Slot) (u : ℕ) (a : Operation) → (x ≡ y → ⊥) → count u (uses_in x (change_slot y (f h.born.uses) a)) ≤ count u (uses_in x a)
    other operand operand u a z = absurd (z refl)
    other operand successor u a z = unfold uses_in change_slot in (omega arith)
    other successor operand u a z = unfold uses_in change_slot in (omega arith)
    other successor successor u a z = absurd (z refl)

    placed : (u : ℕ) → find (h.uses ++ ((h.born.uses, defined q d) ∷ [])) u ≡ cond (leb h.born.uses u) (nth (defined q d ∷ []) (u - h.born.uses)) (find h.uses u)
    placed u = unfold number in (find_more h.born.uses h.uses (defined q d ∷ []) u r.rising)

    sort_defined : (y : Slot) → sort_of (defined y d) ≡ y
    sort_defined operand = unfold sort_of defined in refl
    sort_defined successor = unfold sort_of defined in refl

    new_is : (e : Definition) (i : ℕ) → nth (defined q d ∷ []) i ≡ some e → e ≡ defined q d
    new_is e zero z = unfold nth in (let v : some (defined q d) ≡ some e = z in cc)
    new_is e (suc i) z = unfold nth in (absurd (none_some z))

    same_slot : (x y : Slot) → ((x ≡ y → ⊥) → ⊥) → y ≡ x
    same_slot operand operand z = refl
    same_slot operand successor z = absurd (z (λ v. let a : ◌≡◌ {A = ℕ} 0 1 = cc in omega arith))
    same_slot successor operand z = absurd (z (λ v. let a : ◌≡◌ {A = ℕ} 0 1 = cc in omega arith))
    same_slot successor successor z = refl

    go : (sl : Slot) (u : ℕ) (e : Definition) (b : Bool) → eqb h.born.uses u ≡ b → find (h.uses ++ ((h.born.uses, defined q d) ∷ [])) u ≡ some e → 1 ≤ spread (uses_in sl) u (change o (change_slot q (f h.born.uses)) h.operations) → sort_of e ≡ sl
    go sl u e true z x y =
        let z' : n ≡ u = eqb→eq n u (is_true z) in
        ap sort_of (new_is e (u - n) (first (leb n u) refl (sym (placed u) ∙ x))) ∙ sort_defined q ∙ same_slot sl q (λ v. let s : spread (uses_in sl) u (change o (change_slot q (f h.born.uses)) h.operations) ≤ spread (uses_in sl) u h.operations = weigh_less (λ a. count u (uses_in sl a)) o (change_slot q (f h.born.uses)) h.operations (λ a. other sl q u a v) in omega (arith, unborn sl u h p (omega arith)))
      where
        first : (v : Bool) → leb h.born.uses u ≡ v → cond (leb h.born.uses u) (nth (defined q d ∷ []) (u - h.born.uses)) (find h.uses u) ≡ some e → nth (defined q d ∷ []) (u - h.born.uses) ≡ some e
        first true w' v = rw w' at v
        first false w' v = absurd (omega (arith, leb-false h.born.uses u w', eqb→eq h.born.uses u (is_true z)))
    go sl u e false z x y = w.fits sl u e (old (leb h.born.uses u) refl (sym (placed u) ∙ x)) (omega (arith, weigh_more (λ a. count u (uses_in sl a)) (one (eqb h.born.uses u)) o 0 c (change_slot q (f h.born.uses)) h.operations ro.rising (at sl q u), ap one z))
      where
        far : (i : ℕ) → 1 ≤ i → nth (defined q d ∷ []) i ≡ none
        far zero v = absurd (omega arith)
        far (suc i) v = unfold nth in refl

        old : (v : Bool) → leb h.born.uses u ≡ v → cond (leb h.born.uses u) (nth (defined q d ∷ []) (u - h.born.uses)) (find h.uses u) ≡ some e → find h.uses u ≡ some e
        old true w' v = absurd (none_some (sym (far (u - h.born.uses) (apart (leb-true h.born.uses u w'))) ∙ (rw w' at v)))
          where
            apart : h.born.uses ≤ u → 1 ≤ u - h.born.uses
            apart m = one_more (u - h.born.uses) refl
              where
                one_more : (i : ℕ) → u - h.born.uses ≡ i → 1 ≤ i
                one_more zero a = absurd (eqb-false h.born.uses u z (omega arith))
                one_more (suc i) a = omega arith
        old false w' v = rw w' at v

sorts_replace : (q : Slot) (o i d c : ℕ) (h : History) → Sorted c h.operations → Sorted h.born.uses h.uses → Placed h → Sorts h → Sorts (carry_out (replace_use q o i d) h)
unfolding carry_out
sorts_replace q o i d c h ro r p w = sorts_end _ (add_use q o d (λ n xs. set xs i n) h) (sorts_add q o d c (λ n xs. set xs i n) h ro (λ u xs. setting u i xs) r p w)
  where
    setting : (u j : ℕ) (xs : List ℕ) → count u (set xs j h.born.uses) ≤ one (eqb h.born.uses u) + count u xs
    setting u j [] = omega arith
    setting u zero (x ∷ xs) = omega arith
    setting u (suc j) (x ∷ xs) = omega (arith, setting u j xs)

-- ---- uses placed elsewhere

sort_defined : (y : Slot) (d : ℕ) → sort_of (defined y d) ≡ y
unfolding sort_of defined
sort_defined operand d = refl
sort_defined successor d = refl

same_sort : (a b : Definition) → T (same_definition a b) → sort_of a ≡ sort_of b
unfolding same_definition sort_of
same_sort (of_value a) (of_value b) t = refl
same_sort (of_value a) (of_block b) t = absurd t
same_sort (of_block a) (of_value b) t = absurd t
same_sort (of_block a) (of_block b) t = refl

was_moved : (sl : Slot) (a x b : ℕ) (s : State) → T (eqb (from_state s (move_use sl a x b)) 0) → eqb a b ≡ false → (u : ℕ) (d : Definition) → find (change x (λ _. defined sl b) s.history.uses) u ≡ some d → Was s.history.uses u d
unfolding from_state
was_moved sl a x b s k z u d e = go (eqb x u) refl (sym (find_changes x (λ _. defined sl b) s.history.uses u) ∙ e)
  where
    tested : T (eqb (check (some_and (find s.history.uses x) (same_definition (defined sl a))) 0 11) 0)
    tested = zero_then (eqb a b) (check (some_and (find s.history.uses x) (same_definition (defined sl a))) 0 11) z k

    held : (o : Option Definition) → T (eqb (check (some_and o (same_definition (defined sl a))) 0 11) 0) → omap (λ _. defined sl b) o ≡ some d → (c : Definition) × (o ≡ some c) × (sort_of c ≡ sort_of d)
    held none q v = absurd (none_some v)
    held (some c) q v = (c, refl, sym (same_sort (defined sl a) c (passed (same_definition (defined sl a) c) (unfold some_and in q))) ∙ sort_defined sl a ∙ sym (sort_defined sl b) ∙ ap sort_of (let w : defined sl b ≡ d = cc in w))
      where
        passed : (t : Bool) → T (eqb (check t 0 11) 0) → T t
        passed true m = tt
        passed false m = unfold check in m

    go : (c : Bool) → eqb x u ≡ c → cond (eqb x u) (omap (λ _. defined sl b) (find s.history.uses u)) (find s.history.uses u) ≡ some d → Was s.history.uses u d
    go true w v =
        let same : x ≡ u = eqb→eq x u (is_true w) in
        let f = held (find s.history.uses x) tested (ap (λ (n : ℕ). omap (λ _. defined sl b) (find s.history.uses n)) same ∙ (rw w at v)) in
        record { before = f.0; there = ap (find s.history.uses) (sym same) ∙ f.1; alike = f.2 }
    go false w v = record { before = d; there = rw w at v; alike = refl }

sorts_move : (sl : Slot) (a x b : ℕ) (s : State) → T (eqb (from_state s (move_use sl a x b)) 0) → Sorts s.history → Sorts (carry_out (move_use sl a x b) s.history)
unfolding carry_out
sorts_move sl a x b s k w = go (eqb a b) refl
  where
    go : (c : Bool) → eqb a b ≡ c → Sorts (cond c s.history (with_uses s.history (change x (λ _. defined sl b) s.history.uses)))
    go true z = w
    go false z = sorts_less s.history _ (λ sl u. unfold with_uses in (omega arith)) (λ u d e. was_moved sl a x b s k z u d (unfold with_uses in e)) w

sorts_place : (a b : Definition) (p : ℕ → Bool) (h : History) → sort_of a ≡ sort_of b → Sorts h → Sorts (place_some a b p h)
unfolding place_some with_uses
sorts_place a b p h z w = sorts_less h _ (λ sl u. omega arith) (λ u d e. back u d (sym (find_changes_all (λ v c. cond (same_definition c a && p v) b c) h.uses u) ∙ e)) w
  where
    back : (u : ℕ) (d : Definition) → omap (λ c. cond (same_definition c a && p u) b c) (find h.uses u) ≡ some d → Was h.uses u d
    back u d e = go (find h.uses u) refl e
      where
        sort_at : (c : Definition) (t : Bool) → same_definition c a && p u ≡ t → cond t b c ≡ d → sort_of c ≡ sort_of d
        sort_at c true v q = same_sort c a (and_l (same_definition c a) (p u) (is_true v)) ∙ z ∙ ap sort_of q
        sort_at c false v q = ap sort_of q

        go : (o : Option Definition) → find h.uses u ≡ o → omap (λ c. cond (same_definition c a && p u) b c) o ≡ some d → Was h.uses u d
        go none v q = absurd (none_some q)
        go (some c) v q = record { before = c; there = v; alike = sort_at c (same_definition c a && p u) refl (let m : cond (same_definition c a && p u) b c ≡ d = cc in m) }

-- ---- a new operation

nth_values : (vs bs : List ℕ) (i : ℕ) (d : Definition) → nth (map of_value vs ++ map of_block bs) i ≡ some d → i < length vs → sort_of d ≡ operand
unfolding nth sort_of
nth_values [] bs i d e k = absurd (omega arith)
nth_values (v ∷ vs) bs zero d e k = let w : of_value v ≡ d = cc in sym (ap sort_of w)
nth_values (v ∷ vs) bs (suc i) d e k = nth_values vs bs i d e (omega arith)

nth_blocks : (vs bs : List ℕ) (i : ℕ) (d : Definition) → nth (map of_value vs ++ map of_block bs) i ≡ some d → length vs ≤ i → sort_of d ≡ successor
unfolding nth sort_of
nth_blocks [] [] i d e k = absurd (none_some e)
nth_blocks [] (b ∷ bs) zero d e k = let w : of_block b ≡ d = cc in sym (ap sort_of w)
nth_blocks [] (b ∷ bs) (suc i) d e k = nth_blocks [] bs i d e (omega arith)
nth_blocks (v ∷ vs) bs zero d e k = absurd (omega arith)
nth_blocks (v ∷ vs) bs (suc i) d e k = nth_blocks vs bs i d e (omega arith)

-- where a number stands in a run
run_low : (u n k : ℕ) → 1 ≤ count u (up n k) → n ≤ u
run_low u n k h = go (leb n u) refl
  where
    go : (c : Bool) → leb n u ≡ c → n ≤ u
    go true z = leb-true n u z
    go false z = absurd (omega (arith, up_below u n k (leb-false n u z)))

run_high : (u n k : ℕ) → 1 ≤ count u (up n k) → u < n + k
run_high u n k h = go (leb (n + k) u) refl
  where
    go : (c : Bool) → leb (n + k) u ≡ c → u < n + k
    go true z = absurd (omega (arith, up_past u n k (leb-true (n + k) u z)))
    go false z = leb-false (n + k) u z

sorts_new : (fl : ℕ) (ts vs bs : List ℕ) (g : ℕ) (h : History) → Sorted h.born.uses h.uses → Placed h → Sorts h → Sorts (carry_out (new_operation fl ts vs bs g) h)
unfolding carry_out
sorts_new fl ts vs bs g h r p w = record { fits = λ sl u d e q. go sl u d (leb h.born.uses u) refl (sym (find_more h.born.uses h.uses ds u r.rising) ∙ e) q }
  where
    ds : List Definition
    ds = map of_value vs ++ map of_block bs

    made : Operation
    made = record { results = up h.born.values (length ts); operands = up h.born.uses (length vs); successors = up (h.born.uses + length vs) (length bs); regions = up h.born.regions g; block = none }

    -- an old use stands where it stood
    past : (sl : Slot) (u : ℕ) → u < h.born.uses → count u (uses_in sl made) ≡ 0
    past operand u k = unfold uses_in in (up_below u h.born.uses (length vs) k)
    past successor u k = unfold uses_in in (up_below u (h.born.uses + length vs) (length bs) (omega arith))

    new : (sl : Slot) (u : ℕ) (d : Definition) → h.born.uses ≤ u → nth ds (u - h.born.uses) ≡ some d → 1 ≤ count u (uses_in sl made) → sort_of d ≡ sl
    new operand u d k e q = nth_values vs bs (u - h.born.uses) d e (let z : u < h.born.uses + length vs = run_high u h.born.uses (length vs) (unfold uses_in in q) in omega arith)
    new successor u d k e q = nth_blocks vs bs (u - h.born.uses) d e (let z : h.born.uses + length vs ≤ u = run_low u (h.born.uses + length vs) (length bs) (unfold uses_in in q) in omega arith)

    go : (sl : Slot) (u : ℕ) (d : Definition) (c : Bool) → leb h.born.uses u ≡ c → cond (leb h.born.uses u) (nth ds (u - h.born.uses)) (find h.uses u) ≡ some d → 1 ≤ spread (uses_in sl) u (h.operations ++ ((h.born.operations, made) ∷ [])) → sort_of d ≡ sl
    go sl u d true z e q = new sl u d (leb-true h.born.uses u z) (rw z at e) (omega (arith, weigh_append (λ a. count u ((uses_in sl) a)) h.operations ((h.born.operations, made) ∷ []), unborn sl u h p (leb-true h.born.uses u z)))
    go sl u d false z e q = w.fits sl u d (rw z at e) (omega (arith, weigh_append (λ a. count u ((uses_in sl) a)) h.operations ((h.born.operations, made) ∷ []), past sl u (leb-false h.born.uses u z)))

pub sorts_carry_out : (e : Edit) (s : State) → Ordered s → Placed s.history → T (eqb (from_state s e) 0) → Sorts s.history → Sorts (carry_out e s.history)
sorts_carry_out (new_operation fl ts vs bs g) s r p k w = sorts_new fl ts vs bs g s.history r.us p w
sorts_carry_out (new_block ts) s r p k w = unfold carry_out with_blocks in (sorts_less s.history _ (λ sl u. omega arith) (was_same s.history.uses _ refl) w)
sorts_carry_out (push_use sl o d) s r p k w = unfold carry_out in (sorts_add sl o d _ (λ n xs. xs ++ (n ∷ [])) s.history r.ops (λ u xs. omega (arith, count_append u xs (s.history.born.uses ∷ []))) r.us p w)
sorts_carry_out (insert_use sl o i d) s r p k w = unfold carry_out in (sorts_add sl o d _ (insert_at i) s.history r.ops (λ u xs. omega (arith, count_insert u i s.history.born.uses xs)) r.us p w)
sorts_carry_out (replace_use sl o i d) s r p k w = sorts_replace sl o i d _ s.history r.ops r.us p w
sorts_carry_out (remove_use sl o i) s r p k w = unfold carry_out in (sorts_take sl o i s.history w)
sorts_carry_out (pop_use sl o) s r p k w = unfold carry_out in (sorts_take sl o (length (slot_of sl (find s.history.operations o)) - 1) s.history w)
sorts_carry_out (push_value m o ty) s r p k w = unfold carry_out in (sorts_values m o (λ xs. xs ++ (s.history.born.values ∷ [])) s.history w)
sorts_carry_out (insert_value m o i ty) s r p k w = unfold carry_out in (sorts_values m o (insert_at i s.history.born.values) s.history w)
sorts_carry_out (remove_value m o i) s r p k w = unfold carry_out in (sorts_values m o (remove_at i) s.history w)
sorts_carry_out (pop_value m o) s r p k w = unfold carry_out in (sorts_values m o (λ xs. remove_at (length xs - 1) xs) s.history w)
sorts_carry_out (link_after m x c) s r p k w = unfold carry_out in (sorts_put m x (container m s.history c) s.history w)
sorts_carry_out (link_before m x c) s r p k w = unfold carry_out in (sorts_put m x (container m s.history c) s.history w)
sorts_carry_out (link_front m x c) s r p k w = unfold carry_out in (sorts_put m x (some c) s.history w)
sorts_carry_out (link_back m x c) s r p k w = unfold carry_out in (sorts_put m x (some c) s.history w)
sorts_carry_out (unlink m x) s r p k w = unfold carry_out in (sorts_put m x none s.history w)
sorts_carry_out (move_region q o) s r p k w = unfold carry_out in (sorts_hand q (parent s.history q) o s.history w)
sorts_carry_out (move_use sl a x b) s r p k w = sorts_move sl a x b s k w
sorts_carry_out (replace_some a b us) s r p k w = unfold carry_out in (sorts_place (of_value a) (of_value b) (λ u. member u us) s.history (unfold sort_of in refl) w)
sorts_carry_out (retarget_some a b ps) s r p k w = unfold carry_out in (sorts_place (of_block a) (of_block b) (λ u. some_and (user s.history u) (λ o. some_and (block_at s.history o) (λ c. member c ps))) s.history (unfold sort_of in refl) w)
sorts_carry_out (drop_uses th) s r p k w = unfold carry_out in (sorts_drop th s.history w)
sorts_carry_out (erase_operation x) s r p k w = unfold carry_out in (sorts_erase (the_operation x) s.history w)
sorts_carry_out (erase_block x) s r p k w = unfold carry_out in (sorts_erase (the_block x) s.history w)
sorts_carry_out (erase_region o i) s r p k w = sorts_erase_region o i s.history w
sorts_carry_out (verdict th) s r p k w = unfold carry_out in w

pub sorts_bear : (k : Five) (h : History) → Sorts h → Sorts (bear k h)
unfolding bear
sorts_bear k h w = record { fits = w.fits }
