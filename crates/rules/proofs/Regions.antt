-- Each live region stands at one place of one live operation. Assumes nothing.
use mathlib.Core.Path.{◌≡◌, refl, sym, ap, subst, ◌∙◌}
use mathlib.Core.Bool.{Bool, true, false, not, cond, ◌||◌}
use mathlib.Core.List.{List, [], ◌∷◌, ◌++◌}
use mathlib.Core.Option.{Option, none, some}
use Prim.Native.Nat.{ℕ, zero, suc, ◌+◌, ◌≤◌}
use native.Mathlib.Omega.{arith}
use native.Mathlib.Nat.{add-zero}
use borrow.Author.Tests.{leb-true, leb-false, eqb-false}
use lib.Dec.{T, eqb, leb, eqb→eq}
use Rattle.rules.specs.Table.{Table, find, find_key, change, change_all, keep_keys, member, remove_at, swap, swap_out, last_of, front_of, up, one, count}
use Rattle.edit.specs.Record.{Slot, operand, successor, operation, block, Edit, new_operation, new_block, push_use, insert_use, replace_use, remove_use, pop_use, push_value, insert_value, remove_value, pop_value, link_after, link_before, link_front, link_back, unlink, move_region, move_use, replace_some, retarget_some, drop_uses, erase_operation, erase_block, erase_region, verdict}
use Rattle.rules.specs.History.{Operation, Five, History, births, bear, plus, zeros, begin, carry_out, remember, change_slot, change_results, change_regions, into_block, with_operations, with_blocks, with_uses, end_uses, add_use, take_use, change_values, put_in, emptied, drop_inside, end_inside, hand_over, place_some, operation_in, parent, defined}
use Rattle.rules.specs.State.{State, accept, start}
use Rattle.rules.specs.Refusal.{refusal_of, operation_named, named, first_missing, from_state}
use Rattle.rules.proofs.Closure.{or_else_zero}
use Rattle.rules.proofs.Live.{IsFound, all_found}
use Rattle.rules.proofs.Tables.{All, weigh_append, weigh_change, weigh_less, weigh_keep, weigh_all_same}
use Rattle.rules.proofs.Places.{count_append, no_member, yes_member, up_below, up_past, up_once, found_operation}
use Rattle.rules.proofs.Laws.{spread, spread_same, find_other, none_some}
use Rattle.rules.proofs.Rising.{Rising, Ordered, ordered_accept, ordered_start, s_change}

-- how often a region stands in the operations' lists
abbrev pub regions_in : Operation → List ℕ
regions_in o = o.regions

abbrev pub owned : ℕ → Table Operation → ℕ
owned r t = spread regions_in r t

-- the list without one
pub count_remove_le : (r i : ℕ) (s : List ℕ) → count r (remove_at i s) ≤ count r s
unfolding remove_at
count_remove_le r i [] = omega arith
count_remove_le r zero (x ∷ s) = omega arith
count_remove_le r (suc i) (x ∷ s) = omega (arith, count_remove_le r i s)

pub count_ends : (r x : ℕ) (xs : List ℕ) → one (eqb (last_of x xs) r) + count r (front_of x xs) ≡ count r (x ∷ xs)
unfolding last_of front_of
count_ends r x [] = refl
count_ends r x (y ∷ ys) = omega (arith, count_ends r y ys)

count_swap : (r n a : ℕ) (xs : List ℕ) → T (member n xs) → one (eqb n r) + count r (swap n a xs) ≡ one (eqb a r) + count r xs
unfolding member swap
count_swap r n a [] m = absurd m
count_swap r n a (x ∷ xs) m = go (count_swap r n a xs) (eqb x n) refl m
  where
    go : (T (member n xs) → one (eqb n r) + count r (swap n a xs) ≡ one (eqb a r) + count r xs) → (b : Bool) → eqb x n ≡ b → T (b || member n xs) → one (eqb n r) + count r (cond b (a ∷ xs) (x ∷ swap n a xs)) ≡ one (eqb a r) + (one (eqb x r) + count r xs)
    go ih true z q = omega (arith, ap (λ (c : ℕ). one (eqb c r)) (eqb→eq x n (subst T (sym z) tt)))
    go ih false z q = omega (arith, ih q)

swap_none : (n a : ℕ) (xs : List ℕ) → member n xs ≡ false → swap n a xs ≡ xs
unfolding member swap
swap_none n a [] m = refl
swap_none n a (x ∷ xs) m = go (swap_none n a xs) (eqb x n) m
  where
    go : (member n xs ≡ false → swap n a xs ≡ xs) → (b : Bool) → (b || member n xs) ≡ false → cond b (a ∷ xs) (x ∷ swap n a xs) ≡ x ∷ xs
    go ih true q = absurd (subst T q tt)
    go ih false q = ap {B = List ℕ} (λ t. x ∷ t) (ih q)

-- n is taken out, whatever takes its place
pub count_swap_out : (r n : ℕ) (xs : List ℕ) → T (member n xs) → one (eqb n r) + count r (swap_out n xs) ≡ count r xs
unfolding swap_out member
count_swap_out r n [] m = absurd m
count_swap_out r n (x ∷ xs) m = go (member n (front_of x xs)) refl
  where
    go : (b : Bool) → member n (front_of x xs) ≡ b → one (eqb n r) + count r (swap n (last_of x xs) (front_of x xs)) ≡ count r (x ∷ xs)
    go true z = omega (arith, count_swap r n (last_of x xs) (front_of x xs) (subst T (sym z) tt), count_ends r x xs)
    go false z =
        omega (arith, count_ends r x xs, ap (count r) (swap_none n (last_of x xs) (front_of x xs) z), ap (λ (c : ℕ). one (eqb c r)) last_is)
      where
        last_is : n ≡ last_of x xs
        last_is = sym (at (eqb (last_of x xs) n) refl)
          where
            at : (c : Bool) → eqb (last_of x xs) n ≡ c → last_of x xs ≡ n
            at true w = eqb→eq (last_of x xs) n (subst T (sym w) tt)
            at false w = absurd (omega (arith, ap one w, count_ends n x xs, no_member n (front_of x xs) (subst (λ (q : Bool). T (not q)) (sym z) tt), yes_member n (x ∷ xs) m))

-- ---- the parent that is found has the region

pub rising_find : {A : Type 0} (lo b : ℕ) (t : Table A) (n : ℕ) (a : A) → Rising lo b t → find t n ≡ some a → lo ≤ n
unfolding find
rising_find lo b [] n a r e = absurd (none_some e)
rising_find lo b (e ∷ t) n a r w = go (rising_find (suc e.0) b t n a r.1) (eqb e.0 n) refl w
  where
    go : (find t n ≡ some a → suc e.0 ≤ n) → (c : Bool) → eqb e.0 n ≡ c → cond c (some e.1) (find t n) ≡ some a → lo ≤ n
    go ih true z q = omega (arith, r.0, eqb→eq e.0 n (subst T (sym z) tt))
    go ih false z q = omega (arith, r.0, ih q)

pub parent_found : (r lo b : ℕ) (t : Table Operation) (p : ℕ) → Rising lo b t → find_key (λ (o : Operation). member r o.regions) t ≡ some p → (a : Operation) × (find t p ≡ some a) × T (member r a.regions)
unfolding find find_key
parent_found r lo b [] p k e = absurd (none_some e)
parent_found r lo b (e ∷ t) p k w = go (parent_found r (suc e.0) b t p k.1) (member r e.1.regions) refl w
  where
    here : (c : Bool) → eqb e.0 p ≡ c → e.0 ≡ p → cond c (some e.1) (find t p) ≡ some e.1
    here true z q = refl
    here false z q = absurd (eqb-false e.0 p z q)

    later : (a : Operation) → find t p ≡ some a → (c : Bool) → eqb e.0 p ≡ c → cond c (some e.1) (find t p) ≡ some a
    later a q true z = absurd (omega (arith, rising_find (suc e.0) b t p a k.1 q, eqb→eq e.0 p (subst T (sym z) tt)))
    later a q false z = q

    go : (find_key (λ (o : Operation). member r o.regions) t ≡ some p → (a : Operation) × (find t p ≡ some a) × T (member r a.regions)) → (c : Bool) → member r e.1.regions ≡ c → cond c (some e.0) (find_key (λ (o : Operation). member r o.regions) t) ≡ some p → (a : Operation) × (cond (eqb e.0 p) (some e.1) (find t p) ≡ some a) × T (member r a.regions)
    go ih true z q = (e.1, here (eqb e.0 p) refl (cc), subst T (sym z) tt)
    go ih false z q = let f = ih q in (f.0, later f.0 f.1 (eqb e.0 p) refl, f.2)

-- ---- the invariant

pub record Owned (b : ℕ) (t : Table Operation) : Type 0 where
  pub once : (r : ℕ) → owned r t ≤ 1
  pub fresh : (r : ℕ) → b ≤ r → owned r t ≡ 0

owned_le : (b : ℕ) (s t : Table Operation) → ((r : ℕ) → owned r t ≤ owned r s) → Owned b s → Owned b t
owned_le b s t k w = record { once = λ r. omega (arith, k r, w.once r); fresh = λ r q. omega (arith, k r, w.fresh r q) }

-- a region handed over stands where it is now, and nowhere else
pub owned_hand_over : (q : ℕ) (p : Option ℕ) (o : ℕ) (h : History) (b c : ℕ) → parent h q ≡ p → Rising 0 c h.operations → IsFound h (operation_named o) → Owned b h.operations → Owned b (hand_over q p o h).operations
unfolding hand_over with_operations parent change_regions
owned_hand_over q none o h b c e k l w = w
owned_hand_over q (some p) o h b c e k l w = go (eqb p o) refl
  where
    a : (x : Operation) × (find h.operations p ≡ some x) × T (member q x.regions)
    a = parent_found q 0 c h.operations p k e

    d : (x : Operation) × (find h.operations o ≡ some x)
    d = found_operation h o l

    away : Table Operation
    away = change p (change_regions (swap_out q)) h.operations

    go : (x : Bool) → eqb p o ≡ x → Owned b (cond x h (with_operations h (change o (change_regions (λ xs. xs ++ (q ∷ []))) away))).operations
    go true z = w
    go false z =
        owned_le b h.operations (change o (change_regions (λ xs. xs ++ (q ∷ []))) away)
        (λ r. omega (
          arith,
          weigh_change (λ (x : Operation). count r x.regions) p 0 c (change_regions (swap_out q)) h.operations a.0 k a.1,
          count_swap_out r q a.0.regions a.2,
          weigh_change (λ (x : Operation). count r x.regions) o 0 c (change_regions (λ xs. xs ++ (q ∷ []))) away d.0 (s_change p (change_regions (swap_out q)) (record { rising = k })).rising (find_other p o (change_regions (swap_out q)) h.operations z ∙ d.1),
          count_append r d.0.regions (q ∷ []),
        ))
        w

o_more : {b : ℕ} {t : Table Operation} → Owned b t → Owned (b + 0) t
o_more {b} {t} w = subst (λ (n : ℕ). Owned n t) (sym (add-zero b)) w

o_same : {b : ℕ} {t : Table Operation} (n : ℕ) (f : Operation → Operation) → ((o : Operation) → (f o).regions ≡ o.regions) → Owned b t → Owned b (change n f t)
o_same {b} {t} n f k w = owned_le b t (change n f t) (λ r. omega (arith, spread_same regions_in r n f t k)) w

o_slot : {b : ℕ} {t : Table Operation} (sl : Slot) (n : ℕ) (f : List ℕ → List ℕ) → Owned b t → Owned b (change n (change_slot sl f) t)
o_slot {b} {t} sl n f w = o_same n (change_slot sl f) (at sl) w
  where
    at : (l : Slot) (o : Operation) → (change_slot l f o).regions ≡ o.regions
    at operand o = unfold change_slot in refl
    at successor o = unfold change_slot in refl

pub o_keep : {b : ℕ} {t : Table Operation} (p : ℕ → Bool) → Owned b t → Owned b (keep_keys p t)
o_keep {b} {t} p w = owned_le b t (keep_keys p t) (λ r. weigh_keep (λ (x : Operation). count r x.regions) p t) w

o_new : {b : ℕ} {t : Table Operation} (n g : ℕ) (o : Operation) → o.regions ≡ up b g → Owned b t → Owned (b + g) (t ++ ((n, o) ∷ []))
o_new {b} {t} n g o e w = record {
  once = λ r. side r (leb b r) refl;
  fresh = λ r q. omega (arith, weigh_append (λ (x : Operation). count r x.regions) t ((n, o) ∷ []), ap (count r) e, w.fresh r (omega arith), up_past r b g q);
}
  where
    side : (r : ℕ) (c : Bool) → leb b r ≡ c → owned r (t ++ ((n, o) ∷ [])) ≤ 1
    side r true z = omega (arith, weigh_append (λ (x : Operation). count r x.regions) t ((n, o) ∷ []), ap (count r) e, w.fresh r (leb-true b r z), up_once r b g)
    side r false z = omega (arith, weigh_append (λ (x : Operation). count r x.regions) t ((n, o) ∷ []), ap (count r) e, w.once r, up_below r b g (leb-false b r z))

o_emptied : {b : ℕ} {t : Table Operation} (p : ℕ → Bool) → Owned b t → Owned b (change_all (λ n. cond (p n) emptied (λ o. o)) t)
o_emptied {b} {t} p w = owned_le b t _ (λ r. omega (arith, weigh_all_same (λ (x : Operation). count r x.regions) (λ n. cond (p n) emptied (λ o. o)) t (λ n o. ap (count r) (at (p n) o)))) w
  where
    at : (c : Bool) (o : Operation) → (cond c emptied (λ q. q) o).regions ≡ o.regions
    at true o = unfold emptied change_slot in refl
    at false o = refl

chosen : {b : ℕ} (c : Bool) (h k : History) → Owned b h.operations → Owned b k.operations → Owned b (cond c h k).operations
chosen true h k w v = w
chosen false h k w v = v

owned_carry_out : (e : Edit) (h : History) (b : ℕ) → Rising 0 b h.operations → All (IsFound h) (named e) → Owned h.born.regions h.operations → Owned (h.born.regions + (births e).regions) (carry_out e h).operations
unfolding carry_out births zeros named with_operations with_blocks with_uses add_use take_use end_uses change_values put_in drop_inside end_inside place_some change_results into_block
owned_carry_out (new_operation fl ts vs bs g) h b k l w = o_new _ g _ refl w
owned_carry_out (new_block ts) h b k l w = o_more w
owned_carry_out (push_use sl n d) h b k l w = o_more (o_slot sl n _ w)
owned_carry_out (insert_use sl n i d) h b k l w = o_more (o_slot sl n _ w)
owned_carry_out (replace_use sl n i d) h b k l w = o_more (o_slot sl n _ w)
owned_carry_out (remove_use sl n i) h b k l w = o_more (o_slot sl n _ w)
owned_carry_out (pop_use sl n) h b k l w = o_more (o_slot sl n _ w)
owned_carry_out (push_value operation n ty) h b k l w = o_more (o_same n _ (λ o. refl) w)
owned_carry_out (push_value block n ty) h b k l w = o_more w
owned_carry_out (insert_value operation n i ty) h b k l w = o_more (o_same n _ (λ o. refl) w)
owned_carry_out (insert_value block n i ty) h b k l w = o_more w
owned_carry_out (remove_value operation n i) h b k l w = o_more (o_same n _ (λ o. refl) w)
owned_carry_out (remove_value block n i) h b k l w = o_more w
owned_carry_out (pop_value operation n) h b k l w = o_more (o_same n _ (λ o. refl) w)
owned_carry_out (pop_value block n) h b k l w = o_more w
owned_carry_out (link_after operation n c) h b k l w = o_more (o_same n _ (λ o. refl) w)
owned_carry_out (link_after block n c) h b k l w = o_more w
owned_carry_out (link_before operation n c) h b k l w = o_more (o_same n _ (λ o. refl) w)
owned_carry_out (link_before block n c) h b k l w = o_more w
owned_carry_out (link_front operation n c) h b k l w = o_more (o_same n _ (λ o. refl) w)
owned_carry_out (link_front block n c) h b k l w = o_more w
owned_carry_out (link_back operation n c) h b k l w = o_more (o_same n _ (λ o. refl) w)
owned_carry_out (link_back block n c) h b k l w = o_more w
owned_carry_out (unlink operation n) h b k l w = o_more (o_same n _ (λ o. refl) w)
owned_carry_out (unlink block n) h b k l w = o_more w
owned_carry_out (move_region q o) h b k l w = o_more (owned_hand_over q (parent h q) o h _ b refl k l.1.0 w)
owned_carry_out (move_use sl x u y) h b k l w = o_more (chosen (eqb x y) h (with_uses h (change u (λ _. defined sl y) h.uses)) w w)
owned_carry_out (replace_some x y us) h b k l w = o_more w
owned_carry_out (retarget_some x y ps) h b k l w = o_more w
owned_carry_out (drop_uses th) h b k l w = o_more (o_emptied (operation_in h th) w)
owned_carry_out (erase_operation n) h b k l w = o_more (o_keep _ w)
owned_carry_out (erase_block n) h b k l w = o_more (o_keep _ w)
owned_carry_out (erase_region o i) h b k l w = o_more (owned_le _ _ _ (λ r. weigh_less (λ (x : Operation). count r x.regions) o (change_regions (remove_at i)) _ (λ q. unfold change_regions in (count_remove_le r i q.regions))) (o_keep _ w))
owned_carry_out (verdict th) h b k l w = o_more w

-- tables in order, and each region owned once
pub record Owning (s : State) : Type 0 where
  pub ordered : Ordered s
  pub regions : Owned s.history.born.regions s.history.operations

pub owning_accept : (e : Edit) (s : State) → T (eqb (refusal_of s e) 0) → Owning s → Owning (accept e s)
owning_accept e s k w = record { ordered = ordered_accept e s k w.ordered; regions = after_edit }
  where
    after_edit : Owned (accept e s).history.born.regions (accept e s).history.operations
    after_edit = unfold accept remember bear plus refusal_of in (owned_carry_out e s.history _ w.ordered.ops.rising (all_found s.history (named e) (or_else_zero (first_missing s.history (named e)) (from_state s e) k).0) w.regions)

pub owning_start : (k : Five) → Owning (start k)
owning_start k = record { ordered = ordered_start k; regions = unfold start begin zeros in (record { once = λ r. omega arith; fresh = λ r q. refl }) }
