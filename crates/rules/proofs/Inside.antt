-- Nothing lies inside itself, after every list of calls. Assumes nothing.
use mathlib.Core.Path.{◌≡◌, refl, sym, ap, subst, ◌∙◌}
use mathlib.Core.Logic.{◌⊎◌, inl, inr}
use mathlib.Core.Bool.{Bool, true, false, not, cond, ◌||◌}
use mathlib.Core.List.{List, [], ◌∷◌, ◌++◌}
use mathlib.Core.Option.{Option, none, some}
use Prim.Native.Nat.{ℕ, suc, ◌+◌, ◌≤◌, ◌<◌}
use native.Mathlib.Omega.{arith}
use borrow.Author.Tests.{ne_eqb, leb-true, leb-false}
use lib.Dec.{T, eqb, leb, eqb→eq}
use Rattle.rules.specs.Table.{Table, keep, find, find_key, keys, change, change_all, keep_keys, member, remove_at, swap, swap_out, last_of, front_of, some_and, is_some, up, one, count}
use Rattle.edit.specs.Record.{Slot, operand, successor, Member, operation, block, Thing, the_operation, the_block, the_region, Definition, Edit, new_operation, new_block, push_use, insert_use, replace_use, remove_use, pop_use, push_value, insert_value, remove_value, pop_value, link_after, link_before, link_front, link_back, unlink, move_region, move_use, replace_some, retarget_some, drop_uses, erase_operation, erase_block, erase_region, verdict}
use Rattle.rules.specs.History.{Operation, Block, Five, History, births, bear, plus, zeros, begin, carry_out, remember, change_slot, change_results, change_regions, change_arguments, into_block, into_region, with_operations, with_blocks, with_uses, end_uses, add_use, take_use, change_values, put_in, container, emptied, region_index, drop_inside, end_inside, hand_over, place_some, region_climb, block_climb, operation_in, block_in, region_in, parent, block_of_op, region_of, block_at, region_at, is_operation, is_block, is_region, live_block, live_region}
use Rattle.rules.proofs.Tables.{All, or_l, against, not_or}
use Rattle.rules.specs.State.{State, accept, start}
use Rattle.rules.specs.Refusal.{operation_named, block_named, region_named, member_named, container_named, missing, check, mark_tests, contained_in, is_linked, from_state, named, refusal_of, first_missing}
use Rattle.rules.proofs.Live.{IsFound, zero_first, all_found}
use Rattle.rules.proofs.Places.{eqb_comm, found_operation, count_append, yes_member, keys_change, keys_change_all, keys_kept, keys_gone, keys_last, up_below}
use Rattle.rules.proofs.Rising.{Rising, Sorted, s_change, s_keep}
use Rattle.rules.proofs.Regions.{owned, Owned, parent_found, owned_hand_over, count_ends, Owning, owning_accept, owning_start, count_remove_le, o_keep}
use Rattle.rules.proofs.Closure.{or_else_zero}
use Rattle.rules.proofs.Nest.{next, over, Down, Nested, direct, inside_step, down_move, is_member, one_self, member_keep}
use Rattle.rules.proofs.Laws.{find_self, find_other, find_alike, find_changes, omap, none_some}

-- ---- what a number names has a key

pub found_key : {A : Type 0} (n : ℕ) (t : Table A) (a : A) → find t n ≡ some a → 1 ≤ count n (keys t)
unfolding find keys
found_key n [] a e = absurd (none_some e)
found_key n (e ∷ t) a w = go (found_key n t a) (eqb e.0 n) refl w
  where
    go : (find t n ≡ some a → 1 ≤ count n (keys t)) → (b : Bool) → eqb e.0 n ≡ b → cond b (some e.1) (find t n) ≡ some a → 1 ≤ one (eqb e.0 n) + count n (keys t)
    go ih true z q = omega (arith, ap one z)
    go ih false z q = omega (arith, ih q)

parent_member : (ns : List ℕ) (h : History) (b : ℕ) → Nested ns h → Rising 0 b h.operations → (r p : ℕ) → parent h r ≡ some p → T (member p ns)
unfolding parent
parent_member ns h b w k r p e = let f = parent_found r 0 b h.operations p k e in is_member p ns (omega (arith, found_key p h.operations f.0 f.1, w.same p))

-- ---- hung elsewhere

count_parts : (p : ℕ → Bool) (n : ℕ) (xs : List ℕ) → count n (keep p xs) + count n (keep (λ m. not (p m)) xs) ≡ count n xs
unfolding keep
count_parts p n [] = refl
count_parts p n (x ∷ xs) = go (count_parts p n xs) (p x)
  where
    go : count n (keep p xs) + count n (keep (λ m. not (p m)) xs) ≡ count n xs → (b : Bool) → count n (cond b (x ∷ keep p xs) (keep p xs)) + count n (cond (not b) (x ∷ keep (λ m. not (p m)) xs) (keep (λ m. not (p m)) xs)) ≡ one (eqb x n) + count n xs
    go ih true = omega arith
    go ih false = omega arith

-- a new parent that is not in t, for what hangs on t itself; the old one for all else
pub nest_move : (ns : List ℕ) (h k : History) (t : Thing) → Nested ns h → keys k.operations ≡ keys h.operations → ((n p : ℕ) → over k n ≡ some p → (T (direct h t n) × T (not (operation_in h t p)) × T (member p ns)) ⊎ (T (not (direct h t n)) × (over h n ≡ some p))) → Nested (keep (operation_in h t) ns ++ keep (λ n. not (operation_in h t n)) ns) k
nest_move ns h k t w e m = record {
  down = down_move h k (operation_in h t) ns inner outer w.down;
  same = λ n. omega (arith, count_append n (keep (operation_in h t) ns) (keep (λ x. not (operation_in h t x)) ns), count_parts (operation_in h t) n ns, w.same n, ap (count n) e);
}
  where
    step : (n p : ℕ) → T (member n ns) → over h n ≡ some p → operation_in h t n ≡ direct h t n || operation_in h t p
    step n p q z = inside_step ns h w t n q ∙ ap (λ (o : Option ℕ). direct h t n || some_and o (operation_in h t)) z ∙ unfold some_and in refl

    stays : (a b : Bool) → T (not a) → T (a || b) → T b
    stays true b x y = absurd x
    stays false b x y = y

    inner : (n p : ℕ) → T (member n ns) → T (operation_in h t n) → over k n ≡ some p → (T (operation_in h t p) × (over h n ≡ some p)) ⊎ (T (not (operation_in h t p)) × T (member p ns))
    inner n p q s z = pick (m n p z)
      where
        pick : (T (direct h t n) × T (not (operation_in h t p)) × T (member p ns)) ⊎ (T (not (direct h t n)) × (over h n ≡ some p)) → (T (operation_in h t p) × (over h n ≡ some p)) ⊎ (T (not (operation_in h t p)) × T (member p ns))
        pick (inl y) = inr (y.1, y.2)
        pick (inr y) = inl (stays (direct h t n) (operation_in h t p) y.0 (subst T (step n p q y.1) s), y.1)

    met : (n : ℕ) → T (member n ns) → T (direct h t n) → T (operation_in h t n)
    met n q y = subst T (sym (inside_step ns h w t n q)) (or_l (direct h t n) (some_and (over h n) (operation_in h t)) y)

    outer : (n p : ℕ) → T (member n ns) → T (not (operation_in h t n)) → over k n ≡ some p → T (not (operation_in h t p)) × (over h n ≡ some p)
    outer n p q s z = pick (m n p z)
      where
        pick : (T (direct h t n) × T (not (operation_in h t p)) × T (member p ns)) ⊎ (T (not (direct h t n)) × (over h n ≡ some p)) → T (not (operation_in h t p)) × (over h n ≡ some p)
        pick (inl y) = absurd (against (operation_in h t n) s (met n q y.0))
        pick (inr y) = ((not_or (direct h t n) (operation_in h t p) (subst (λ (c : Bool). T (not c)) (step n p q y.1) s)).1, y.1)

-- ---- an operation into a block

direct_operation : (h : History) (x n : ℕ) → direct h (the_operation x) n ≡ eqb x n
unfolding direct is_operation is_block is_region some_and
direct_operation h x n = at (block_at h n)
  where
    none_of : (o : Option ℕ) → some_and o (λ (r : ℕ). false) ≡ false
    none_of none = refl
    none_of (some r) = refl

    or_none : (a b : Bool) → b ≡ false → a || b ≡ a
    or_none true b z = refl
    or_none false b z = z

    at : (o : Option ℕ) → eqb x n || some_and o (λ b. false || some_and (region_at h b) (λ r. false)) ≡ eqb x n
    at none = or_none (eqb x n) false refl
    at (some b) = or_none (eqb x n) (some_and (region_at h b) (λ r. false)) (none_of (region_at h b))

-- the step from a block to the operation over it
over_block : (h : History) (n b : ℕ) → block_at h n ≡ some b → over h n ≡ next (region_at h b) (parent h)
unfolding over
over_block h n b e = ap (λ (o : Option ℕ). next o (λ c. next (region_at h c) (parent h))) e

pub block_other : (x n : ℕ) (c : Option ℕ) (h : History) → eqb x n ≡ false → block_at (put_in operation x c h) n ≡ block_at h n
unfolding put_in with_operations block_at
block_other x n c h z = ap block_of_op (find_other x n (into_block c) h.operations z)

key_same : {A : Type 0} (p : A → Bool) (n : ℕ) (f : A → A) (t : Table A) → ((a : A) → p (f a) ≡ p a) → find_key p (change n f t) ≡ find_key p t
unfolding find_key change
key_same p n f [] k = refl
key_same p n f (e ∷ t) k = go (key_same p n f t k) (eqb e.0 n)
  where
    go : find_key p (change n f t) ≡ find_key p t → (b : Bool) → find_key p (cond b ((e.0, f e.1) ∷ change n f t) (e ∷ change n f t)) ≡ cond (p e.1) (some e.0) (find_key p t)
    go ih true = ap (λ (c : Bool). cond c (some e.0) (find_key p (change n f t))) (k e.1) ∙ ap (λ (o : Option ℕ). cond (p e.1) (some e.0) o) ih
    go ih false = ap (λ (o : Option ℕ). cond (p e.1) (some e.0) o) ih

next_same : (o : Option ℕ) (f g : ℕ → Option ℕ) → ((r : ℕ) → f r ≡ g r) → next o f ≡ next o g
next_same none f g k = refl
next_same (some r) f g k = k r

-- the operation over a block or a region that does not lie in t does not lie in it
module _ (h : History) (t : Thing) where
  pub region_out : (r p : ℕ) → T (not (region_in h t r)) → parent h r ≡ some p → T (not (operation_in h t p))
  unfolding region_in region_climb some_and
  region_out r p k e = (not_or (is_region t r) (operation_in h t p) (subst (λ (o : Option ℕ). T (not (is_region t r || some_and o (operation_in h t)))) e k)).1

  pub block_out : (b p : ℕ) → T (not (block_in h t b)) → next (region_at h b) (parent h) ≡ some p → T (not (operation_in h t p))
  unfolding block_in block_climb some_and
  block_out b p k e = go (region_at h b) (not_or (is_block t b) (some_and (region_at h b) (region_climb h t (operation_in h t))) k).1 e
    where
      go : (o : Option ℕ) → T (not (some_and o (region_climb h t (operation_in h t)))) → next o (parent h) ≡ some p → T (not (operation_in h t p))
      go none x z = absurd (none_some z)
      go (some r) x z = region_out r p (unfold region_in in x) z

next_parent : (h : History) (p : ℕ) (o : Option ℕ) → next o (parent h) ≡ some p → (r : ℕ) × (parent h r ≡ some p)
next_parent h p none e = absurd (none_some e)
next_parent h p (some r) e = (r, e)

not_true : (b : Bool) → b ≡ false → T (not b)
not_true b z = subst (λ (c : Bool). T (not c)) (sym z) tt

put_parent : (x : ℕ) (c : Option ℕ) (h : History) (r : ℕ) → parent (put_in operation x c h) r ≡ parent h r
unfolding put_in with_operations parent into_block
put_parent x c h r = key_same (λ (o : Operation). member r o.regions) x (into_block c) h.operations (λ o. refl)

put_over : (x : ℕ) (c : Option ℕ) (h : History) (n : ℕ) → over (put_in operation x c h) n ≡ next (block_at (put_in operation x c h) n) (λ d. next (region_at h d) (parent h))
unfolding over put_in with_operations region_at
put_over x c h n =
    next_same (block_at (put_in operation x c h) n) (λ d. next (region_at (put_in operation x c h) d) (parent (put_in operation x c h))) (λ d. next (region_at h d) (parent h))
    (λ d. next_same (region_at h d) (parent (put_in operation x c h)) (parent h) (put_parent x c h))

pub put_block : (x : ℕ) (c : Option ℕ) (h : History) (a : Operation) → find h.operations x ≡ some a → block_at (put_in operation x c h) x ≡ c
unfolding block_at put_in with_operations into_block block_of_op
put_block x c h a e = ap block_of_op (find_self x (into_block c) h.operations a e)

-- an operation hung into a block that does not lie in it
nest_operation : (ns : List ℕ) (h : History) (x b m : ℕ) (a : Operation) → Nested ns h → Rising 0 m h.operations → find h.operations x ≡ some a → T (not (block_in h (the_operation x) b)) → Nested (keep (operation_in h (the_operation x)) ns ++ keep (λ n. not (operation_in h (the_operation x) n)) ns) (put_in operation x (some b) h)
nest_operation ns h x b m a w k found out = nest_move ns h (put_in operation x (some b) h) (the_operation x) w same_keys (λ n p e. go n p (eqb x n) refl e)
  where
    same_keys : keys (put_in operation x (some b) h).operations ≡ keys h.operations
    same_keys = unfold put_in with_operations in (keys_change x (into_block (some b)) h.operations)

    go : (n p : ℕ) (c : Bool) → eqb x n ≡ c → over (put_in operation x (some b) h) n ≡ some p → (T (direct h (the_operation x) n) × T (not (operation_in h (the_operation x) p)) × T (member p ns)) ⊎ (T (not (direct h (the_operation x) n)) × (over h n ≡ some p))
    go n p true z e =
        let self : block_at (put_in operation x (some b) h) x ≡ some b = put_block x (some b) h a found in
        let up_from : next (region_at h b) (parent h) ≡ some p = sym (put_over x (some b) h x ∙ ap (λ (o : Option ℕ). next o (λ c. next (region_at h c) (parent h))) self) ∙ ap (over (put_in operation x (some b) h)) (eqb→eq x n (subst T (sym z) tt)) ∙ e in
        let q = next_parent h p (region_at h b) up_from in
        inl (subst T (sym (direct_operation h x n ∙ z)) tt, block_out h (the_operation x) b p out up_from, parent_member ns h m w k q.0 p q.1)
    go n p false z e =
        inr (not_true _ (direct_operation h x n ∙ z), unfold over in (sym (ap (λ (o : Option ℕ). next o (λ c. next (region_at h c) (parent h))) (block_other x n (some b) h z))) ∙ sym (put_over x (some b) h n) ∙ e)

-- ---- a block into a region

direct_block : (h : History) (x n b : ℕ) → block_at h n ≡ some b → direct h (the_block x) n ≡ eqb x b
unfolding direct is_operation is_block is_region some_and
direct_block h x n b e = ap (λ (o : Option ℕ). some_and o (λ c. eqb x c || some_and (region_at h c) (λ r. false))) e ∙ or_none (eqb x b) (some_and (region_at h b) (λ r. false)) (none_of (region_at h b))
  where
    none_of : (o : Option ℕ) → some_and o (λ (r : ℕ). false) ≡ false
    none_of none = refl
    none_of (some r) = refl

    or_none : (y z : Bool) → z ≡ false → y || z ≡ y
    or_none true z q = refl
    or_none false z q = q

pub put_region : (x : ℕ) (c : Option ℕ) (h : History) (a : Block) → find h.blocks x ≡ some a → region_at (put_in block x c h) x ≡ c
unfolding region_at put_in with_blocks into_region region_of
put_region x c h a e = ap region_of (find_self x (into_region c) h.blocks a e)

pub region_other : (x n : ℕ) (c : Option ℕ) (h : History) → eqb x n ≡ false → region_at (put_in block x c h) n ≡ region_at h n
unfolding put_in with_blocks region_at
region_other x n c h z = ap region_of (find_other x n (into_region c) h.blocks z)

-- the operation over n, from its block on
block_over : (x : ℕ) (c : Option ℕ) (h : History) (n : ℕ) → over (put_in block x c h) n ≡ next (block_at h n) (λ d. next (region_at (put_in block x c h) d) (parent h))
unfolding over put_in with_blocks block_at parent
block_over x c h n = refl

nest_block : (ns : List ℕ) (h : History) (x r m : ℕ) (a : Block) → Nested ns h → Rising 0 m h.operations → find h.blocks x ≡ some a → T (not (region_in h (the_block x) r)) → Nested (keep (operation_in h (the_block x)) ns ++ keep (λ n. not (operation_in h (the_block x) n)) ns) (put_in block x (some r) h)
nest_block ns h x r m a w k found out = nest_move ns h (put_in block x (some r) h) (the_block x) w (unfold put_in with_blocks in refl) (λ n p e. at n p (block_at h n) refl (sym (block_over x (some r) h n) ∙ e))
  where
    new : History
    new = put_in block x (some r) h

    under : (n p b : ℕ) → block_at h n ≡ some b → (c : Bool) → eqb x b ≡ c → next (region_at new b) (parent h) ≡ some p → (T (direct h (the_block x) n) × T (not (operation_in h (the_block x) p)) × T (member p ns)) ⊎ (T (not (direct h (the_block x) n)) × (over h n ≡ some p))
    under n p b y true z e =
        let up_from : parent h r ≡ some p = sym (ap (λ (o : Option ℕ). next o (parent h)) (ap (region_at new) (sym (eqb→eq x b (subst T (sym z) tt))) ∙ put_region x (some r) h a found)) ∙ e in
        inl (subst T (sym (direct_block h x n b y ∙ z)) tt, region_out h (the_block x) r p out up_from, parent_member ns h m w k r p up_from)
    under n p b y false z e = inr (not_true _ (direct_block h x n b y ∙ z), over_block h n b y ∙ sym (ap (λ (o : Option ℕ). next o (parent h)) (region_other x b (some r) h z)) ∙ e)

    at : (n p : ℕ) (o : Option ℕ) → block_at h n ≡ o → next (block_at h n) (λ d. next (region_at new d) (parent h)) ≡ some p → (T (direct h (the_block x) n) × T (not (operation_in h (the_block x) p)) × T (member p ns)) ⊎ (T (not (direct h (the_block x) n)) × (over h n ≡ some p))
    at n p none y e = absurd (none_some (sym (ap (λ (o : Option ℕ). next o (λ d. next (region_at new d) (parent h))) y) ∙ e))
    at n p (some b) y e = under n p b y (eqb x b) refl (sym (ap (λ (o : Option ℕ). next o (λ d. next (region_at new d) (parent h))) y) ∙ e)

-- ---- the one owner of a region

abbrev has : ℕ → Operation → Bool
has r o = member r o.regions

someinj : (a b : ℕ) → some a ≡ some b → a ≡ b
someinj a b q = cc

no_some : (p : ℕ) → none ≡ some p → ⊥
no_some p q = let z : ◌≡◌ {A = ℕ} 0 1 = cc in omega arith

pub found_owned : (r p : ℕ) (t : Table Operation) (a : Operation) → find t p ≡ some a → T (has r a) → 1 ≤ owned r t
unfolding find
found_owned r p [] a e m = absurd (none_some e)
found_owned r p (e ∷ t) a w m = go (λ q. found_owned r p t a q m) (eqb e.0 p) w
  where
    go : (find t p ≡ some a → 1 ≤ owned r t) → (b : Bool) → cond b (some e.1) (find t p) ≡ some a → 1 ≤ count r e.1.regions + owned r t
    go ih true q = let same : a ≡ e.1 = cc in omega (arith, yes_member r e.1.regions (subst (λ (o : Operation). T (has r o)) same m))
    go ih false q = omega (arith, ih q)

owner_unique : (r p : ℕ) (t : Table Operation) (a : Operation) → owned r t ≤ 1 → find t p ≡ some a → T (has r a) → find_key (has r) t ≡ some p
unfolding find find_key
owner_unique r p [] a k e m = absurd (none_some e)
owner_unique r p (e ∷ t) a k w m = go (λ q. owner_unique r p t a (omega arith) q m) (has r e.1) refl (eqb e.0 p) refl w
  where
    go : (find t p ≡ some a → find_key (has r) t ≡ some p) → (c : Bool) → has r e.1 ≡ c → (b : Bool) → eqb e.0 p ≡ b → cond b (some e.1) (find t p) ≡ some a → cond c (some e.0) (find_key (has r) t) ≡ some p
    go ih true z true y q = ap some (eqb→eq e.0 p (subst T (sym y) tt))
    go ih true z false y q = absurd (omega (arith, k, yes_member r e.1.regions (subst T (sym z) tt), found_owned r p t a q m))
    go ih false z true y q = absurd (subst T (sym (ap (has r) (the_same q)) ∙ z) m)
      where
        the_same : some e.1 ≡ some a → e.1 ≡ a
        the_same x = cc
    go ih false z false y q = ih q

-- what a changed table holds comes from what stood there
change_back : (n : ℕ) (f : Operation → Operation) (t : Table Operation) (m : ℕ) (a : Operation) → find (change n f t) m ≡ some a → (x : Operation) × (find t m ≡ some x) × ((a ≡ x) ⊎ (a ≡ f x))
change_back n f t m a w = go (eqb n m) (find t m) refl (sym (find_changes n f t m) ∙ w)
  where
    go : (c : Bool) (o : Option Operation) → find t m ≡ o → cond c (omap f o) o ≡ some a → (x : Operation) × (find t m ≡ some x) × ((a ≡ x) ⊎ (a ≡ f x))
    go true none z q = absurd (none_some q)
    go true (some x) z q = (x, z, inr (cc))
    go false none z q = absurd (none_some q)
    go false (some x) z q = (x, z, inl (cc))

-- an owner in the changed table was one before, if the change brings no r
owner_back : (r n : ℕ) (f : Operation → Operation) → ((o : Operation) → T (has r (f o)) → T (has r o)) → (t : Table Operation) (p : ℕ) (a : Operation) → find (change n f t) p ≡ some a → T (has r a) → (x : Operation) × (find t p ≡ some x) × T (has r x)
owner_back r n f k t p a e m = let b = change_back n f t p a e in (b.0, b.1, at b.2)
  where
    at : (a ≡ (change_back n f t p a e).0) ⊎ (a ≡ f (change_back n f t p a e).0) → T (has r (change_back n f t p a e).0)
    at (inl y) = subst (λ (o : Operation). T (has r o)) y m
    at (inr y) = k _ (subst (λ (o : Operation). T (has r o)) y m)

count_swap_le : (r n a : ℕ) (xs : List ℕ) → count r (swap n a xs) ≤ one (eqb a r) + count r xs
unfolding swap
count_swap_le r n a [] = omega arith
count_swap_le r n a (x ∷ xs) = go (count_swap_le r n a xs) (eqb x n)
  where
    go : count r (swap n a xs) ≤ one (eqb a r) + count r xs → (b : Bool) → count r (cond b (a ∷ xs) (x ∷ swap n a xs)) ≤ one (eqb a r) + (one (eqb x r) + count r xs)
    go ih true = omega arith
    go ih false = omega arith

swap_out_back : (r q : ℕ) (xs : List ℕ) → T (member r (swap_out q xs)) → T (member r xs)
unfolding swap_out
swap_out_back r q [] m = m
swap_out_back r q (x ∷ xs) m = is_member r (x ∷ xs) (omega (arith, yes_member r (swap q (last_of x xs) (front_of x xs)) m, count_swap_le r q (last_of x xs) (front_of x xs), count_ends r x xs))

append_back : (r q : ℕ) (xs : List ℕ) → eqb q r ≡ false → T (member r (xs ++ (q ∷ []))) → T (member r xs)
append_back r q xs z m = is_member r xs (omega (arith, yes_member r (xs ++ (q ∷ [])) m, count_append r xs (q ∷ []), ap one z))

-- ---- a region into an operation

pub block_kept : (n : ℕ) (f : Operation → Operation) → ((o : Operation) → (f o).block ≡ o.block) → (t : Table Operation) (m : ℕ) → block_of_op (find (change n f t) m) ≡ block_of_op (find t m)
unfolding block_of_op
block_kept n f k t m = find_alike block_of_op n f t m k

module _ (ns : List ℕ) (h : History) (q p₁ o m b : ℕ) (w : Nested ns h) (k : Sorted m h.operations) (own : Owned b h.operations) (e₁ : parent h q ≡ some p₁) (live : IsFound h (operation_named o)) (z₁ : eqb p₁ o ≡ false) (out : T (not (operation_in h (the_region q) o))) where
  taken : Operation → Operation
  taken = change_regions (swap_out q)

  given : Operation → Operation
  given = change_regions (λ xs. xs ++ (q ∷ []))

  moved : Table Operation
  moved = change o given (change p₁ taken h.operations)

  now : History
  now = with_operations h moved

  owner : (x : Operation) × (find h.operations o ≡ some x)
  owner = found_operation h o live

  sorted : Sorted m moved
  unfolding moved
  sorted = s_change o given (s_change p₁ taken k)

  is_now : hand_over q (some p₁) o h ≡ now
  unfolding hand_over now moved taken given
  is_now = ap (λ (c : Bool). cond c h (with_operations h (change o (change_regions (λ xs. xs ++ (q ∷ []))) (change p₁ (change_regions (swap_out q)) h.operations)))) z₁

  owns : Owned b moved
  unfolding now with_operations
  owns = subst (λ (x : History). Owned b x.operations) is_now (owned_hand_over q (some p₁) o h b m e₁ k.rising live own)

  -- the region's new parent
  parent_new : parent now q ≡ some o
  unfolding parent now with_operations
  parent_new = owner_unique q o moved (given owner.0) (owns.once q) at_o has_q
    where
      at_o : find moved o ≡ some (given owner.0)
      at_o = unfold moved in (find_self o given (change p₁ taken h.operations) owner.0 (find_other p₁ o taken h.operations z₁ ∙ owner.1))

      has_q : T (has q (given owner.0))
      has_q = unfold given change_regions in (is_member q (owner.0.regions ++ (q ∷ [])) (omega (arith, count_append q owner.0.regions (q ∷ []), one_self q)))

  -- the others keep theirs
  parent_old : (r p : ℕ) → eqb q r ≡ false → parent now r ≡ some p → parent h r ≡ some p
  unfolding parent now with_operations moved
  parent_old r p z e =
      let f = parent_found r 0 m moved p sorted.rising e in
      let g = owner_back r o given (λ x y. unfold given change_regions in (append_back r q x.regions z y)) (change p₁ taken h.operations) p f.0 f.1 f.2 in
      let i = owner_back r p₁ taken (λ x y. unfold taken change_regions in (swap_out_back r q x.regions y)) h.operations p g.0 g.1 g.2 in
      owner_unique r p h.operations i.0 (own.once r) i.1 i.2

  block_now : (n : ℕ) → block_at now n ≡ block_at h n
  unfolding block_at now with_operations moved taken given change_regions
  block_now n = block_kept o given (λ x. refl) (change p₁ taken h.operations) n ∙ block_kept p₁ taken (λ x. refl) h.operations n

  over_now : (n : ℕ) → over now n ≡ next (block_at h n) (λ d. next (region_at h d) (parent now))
  unfolding over region_at now with_operations
  over_now n = ap (λ (x : Option ℕ). next x (λ d. next (region_at h d) (parent now))) (block_now n)

  direct_region : (n c r : ℕ) → block_at h n ≡ some c → region_at h c ≡ some r → direct h (the_region q) n ≡ eqb q r
  unfolding direct is_operation is_block is_region some_and
  direct_region n c r x y = ap (λ (v : Option ℕ). some_and v (λ d. some_and (region_at h d) (eqb q))) x ∙ ap (λ (v : Option ℕ). some_and v (eqb q)) y

  nest_region : Nested (keep (operation_in h (the_region q)) ns ++ keep (λ n. not (operation_in h (the_region q) n)) ns) now
  nest_region = nest_move ns h now (the_region q) w same_keys (λ n p e. at n p (block_at h n) refl (sym (over_now n) ∙ e))
    where
      same_keys : keys now.operations ≡ keys h.operations
      same_keys = unfold now with_operations moved in (keys_change o given (change p₁ taken h.operations) ∙ keys_change p₁ taken h.operations)

      Goal : ℕ → ℕ → Type 0
      Goal n p = (T (direct h (the_region q) n) × T (not (operation_in h (the_region q) p)) × T (member p ns)) ⊎ (T (not (direct h (the_region q) n)) × (over h n ≡ some p))

      in_region : (n p c r : ℕ) → block_at h n ≡ some c → region_at h c ≡ some r → (b' : Bool) → eqb q r ≡ b' → parent now r ≡ some p → Goal n p
      in_region n p c r x y true z e =
          let to-o : o ≡ p = someinj o p (sym parent_new ∙ ap (parent now) (eqb→eq q r (subst T (sym z) tt)) ∙ e) in
          inl (subst T (sym (direct_region n c r x y ∙ z)) tt, subst (λ (v : ℕ). T (not (operation_in h (the_region q) v))) to-o out, subst (λ (v : ℕ). T (member v ns)) to-o (is_member o ns (omega (arith, found_key o h.operations owner.0 owner.1, w.same o))))
      in_region n p c r x y false z e =
          inr (not_true _ (direct_region n c r x y ∙ z), over_block h n c x ∙ ap (λ (v : Option ℕ). next v (parent h)) y ∙ parent_old r p z e)

      in_block : (n p c : ℕ) → block_at h n ≡ some c → (v : Option ℕ) → region_at h c ≡ v → next v (parent now) ≡ some p → Goal n p
      in_block n p c x none y e = absurd (no_some p e)
      in_block n p c x (some r) y e = in_region n p c r x y (eqb q r) refl e

      at : (n p : ℕ) (v : Option ℕ) → block_at h n ≡ v → next (block_at h n) (λ d. next (region_at h d) (parent now)) ≡ some p → Goal n p
      at n p none x e = absurd (no_some p (sym (ap (λ (v : Option ℕ). next v (λ d. next (region_at h d) (parent now))) x) ∙ e))
      at n p (some c) x e = in_block n p c x (region_at h c) refl (sym (ap (λ (v : Option ℕ). next v (λ d. next (region_at h d) (parent now))) x) ∙ e)

-- ---- what hangs nothing elsewhere

down_map : (h k : History) → ((n p : ℕ) → over k n ≡ some p → over h n ≡ some p) → (ns : List ℕ) → Down h ns → Down k ns
down_map h k f [] d = tt
down_map h k f (n ∷ ns) d = ((λ p e. d.0 p (f n p e)), down_map h k f ns d.1)

-- each step of the way up in k is one in h
record Under (h k : History) : Type 0 where
  blk : (n b : ℕ) → block_at k n ≡ some b → block_at h n ≡ some b
  reg : (b r : ℕ) → region_at k b ≡ some r → region_at h b ≡ some r
  par : (b r p : ℕ) → region_at h b ≡ some r → parent k r ≡ some p → parent h r ≡ some p

over_under : (h k : History) → Under h k → (n p : ℕ) → over k n ≡ some p → over h n ≡ some p
unfolding over
over_under h k u n p e = at (block_at k n) refl e
  where
    in_block : (b : ℕ) → block_at k n ≡ some b → (v : Option ℕ) → region_at k b ≡ v → next v (parent k) ≡ some p → over h n ≡ some p
    in_block b x none y z = absurd (no_some p z)
    in_block b x (some r) y z = over_block h n b (u.blk n b x) ∙ ap (λ (v : Option ℕ). next v (parent h)) (u.reg b r y) ∙ u.par b r p (u.reg b r y) z

    at : (v : Option ℕ) → block_at k n ≡ v → next v (λ d. next (region_at k d) (parent k)) ≡ some p → over h n ≡ some p
    at none x z = absurd (no_some p z)
    at (some b) x z = in_block b x (region_at k b) refl z

nest_under : (ns : List ℕ) (h k : History) → Under h k → keys k.operations ≡ keys h.operations → Nested ns h → Nested ns k
nest_under ns h k u e w = record { down = down_map h k (over_under h k u) ns w.down; same = λ n. w.same n ∙ sym (ap (count n) e) }

nest_same : (ns : List ℕ) (h k : History) → ((n : ℕ) → block_at k n ≡ block_at h n) → ((b : ℕ) → region_at k b ≡ region_at h b) → ((r : ℕ) → parent k r ≡ parent h r) → keys k.operations ≡ keys h.operations → Nested ns h → Nested ns k
nest_same ns h k f g i e w = nest_under ns h k (record { blk = λ n b x. sym (f n) ∙ x; reg = λ b r x. sym (g b) ∙ x; par = λ b r p _ x. sym (i r) ∙ x }) e w

-- operations changed at one number, block and regions kept; blocks as they were
nest_change : (ns : List ℕ) (h k : History) (n : ℕ) (f : Operation → Operation) → k.operations ≡ change n f h.operations → k.blocks ≡ h.blocks → ((o : Operation) → (f o).block ≡ o.block) → ((o : Operation) → (f o).regions ≡ o.regions) → Nested ns h → Nested ns k
unfolding block_at region_at parent
nest_change ns h k n f e₁ e₂ f₁ f₂ w =
    nest_same ns h k (λ m. ap (λ (t : Table Operation). block_of_op (find t m)) e₁ ∙ block_kept n f f₁ h.operations m) (λ b. ap (λ (t : Table Block). region_of (find t b)) e₂)
    (λ r. ap (find_key (has r)) e₁ ∙ key_same (has r) n f h.operations (λ o. ap (member r) (f₂ o))) (ap keys e₁ ∙ keys_change n f h.operations) w

-- ---- dropping

pub block_kept_all : (f : ℕ → Operation → Operation) → ((n : ℕ) (o : Operation) → (f n o).block ≡ o.block) → (t : Table Operation) (m : ℕ) → block_of_op (find (change_all f t) m) ≡ block_of_op (find t m)
unfolding find change_all
block_kept_all f k [] m = refl
block_kept_all f k (e ∷ t) m = go (block_kept_all f k t m) (eqb e.0 m)
  where
    go : block_of_op (find (change_all f t) m) ≡ block_of_op (find t m) → (c : Bool) → block_of_op (cond c (some (f e.0 e.1)) (find (change_all f t) m)) ≡ block_of_op (cond c (some e.1) (find t m))
    go ih true = unfold block_of_op in (k e.0 e.1)
    go ih false = ih

key_same_all : (p : Operation → Bool) (f : ℕ → Operation → Operation) (t : Table Operation) → ((n : ℕ) (o : Operation) → p (f n o) ≡ p o) → find_key p (change_all f t) ≡ find_key p t
unfolding find_key change_all
key_same_all p f [] k = refl
key_same_all p f (e ∷ t) k = ap (λ (c : Bool). cond c (some e.0) (find_key p (change_all f t))) (k e.0 e.1) ∙ ap (λ (o : Option ℕ). cond (p e.1) (some e.0) o) (key_same_all p f t k)

nest_drop : (ns : List ℕ) (h : History) (t : Thing) → Nested ns h → Nested ns (drop_inside t h)
unfolding drop_inside end_uses with_operations block_at region_at parent
nest_drop ns h t w =
    nest_same ns h (drop_inside t h) (λ n. block_kept_all (λ m. cond (operation_in h t m) emptied (λ o. o)) (λ m o. at_block (operation_in h t m) o) h.operations n) (λ b. refl)
    (λ r. key_same_all (has r) (λ m. cond (operation_in h t m) emptied (λ o. o)) h.operations (λ m o. ap (member r) (at_regions (operation_in h t m) o)))
    (keys_change_all (λ m. cond (operation_in h t m) emptied (λ o. o)) h.operations) w
  where
    at_block : (c : Bool) (o : Operation) → (cond c emptied (λ q. q) o).block ≡ o.block
    at_block true o = unfold emptied change_slot in refl
    at_block false o = refl

    at_regions : (c : Bool) (o : Operation) → (cond c emptied (λ q. q) o).regions ≡ o.regions
    at_regions true o = unfold emptied change_slot in refl
    at_regions false o = refl

-- ---- erasing

keep_back : {A : Type 0} (f : ℕ → Bool) (t : Table A) (n : ℕ) (a : A) → find (keep_keys f t) n ≡ some a → T (f n) × (find t n ≡ some a)
unfolding find keep_keys
keep_back f [] n a e = absurd (nothing_there e)
  where
    nothing_there : none ≡ some a → ⊥
    nothing_there q = let z : ◌≡◌ {A = ℕ} 0 1 = cc in omega arith
keep_back {A} f (e ∷ t) n a w = go (keep_back f t n a) (f e.0) refl w
  where
    kept : (find (keep_keys f t) n ≡ some a → T (f n) × (find t n ≡ some a)) → f e.0 ≡ true → (c : Bool) → eqb e.0 n ≡ c → cond c (some e.1) (find (keep_keys f t) n) ≡ some a → T (f n) × (cond c (some e.1) (find t n) ≡ some a)
    kept ih z true y q = (subst T (sym z ∙ ap f (eqb→eq e.0 n (subst T (sym y) tt))) tt, q)
    kept ih z false y q = ih q

    gone : (find (keep_keys f t) n ≡ some a → T (f n) × (find t n ≡ some a)) → f e.0 ≡ false → (c : Bool) → eqb e.0 n ≡ c → find (keep_keys f t) n ≡ some a → T (f n) × (cond c (some e.1) (find t n) ≡ some a)
    gone ih z true y q = absurd (subst T (sym (ap f (eqb→eq e.0 n (subst T (sym y) tt))) ∙ z) (ih q).0)
    gone ih z false y q = ih q

    go : (find (keep_keys f t) n ≡ some a → T (f n) × (find t n ≡ some a)) → (b : Bool) → f e.0 ≡ b → find (cond b (e ∷ keep_keys f t) (keep_keys f t)) n ≡ some a → T (f n) × (cond (eqb e.0 n) (some e.1) (find t n) ≡ some a)
    go ih true z q = kept ih z (eqb e.0 n) refl q
    go ih false z q = gone ih z (eqb e.0 n) refl q

count_keep : (f : ℕ → Bool) (n : ℕ) (xs : List ℕ) → count n (keep f xs) ≡ cond (f n) (count n xs) 0
unfolding keep
count_keep f n [] = at (f n)
  where
    at : (c : Bool) → ◌≡◌ {A = ℕ} 0 (cond c 0 0)
    at true = refl
    at false = refl
count_keep f n (x ∷ xs) = go (count_keep f n xs) (f x) refl (f n) refl (eqb x n) refl
  where
    go : count n (keep f xs) ≡ cond (f n) (count n xs) 0 → (b : Bool) → f x ≡ b → (c : Bool) → f n ≡ c → (d : Bool) → eqb x n ≡ d → count n (cond b (x ∷ keep f xs) (keep f xs)) ≡ cond (f n) (one (eqb x n) + count n xs) 0
    go ih b z c y d v = subst (λ (q : Bool). count n (cond b (x ∷ keep f xs) (keep f xs)) ≡ cond q (one (eqb x n) + count n xs) 0) (sym y) (fin b z c y d v (subst (λ (q : Bool). count n (keep f xs) ≡ cond q (count n xs) 0) y ih))
      where
        fin : (b : Bool) → f x ≡ b → (c : Bool) → f n ≡ c → (d : Bool) → eqb x n ≡ d → count n (keep f xs) ≡ cond c (count n xs) 0 → count n (cond b (x ∷ keep f xs) (keep f xs)) ≡ cond c (one (eqb x n) + count n xs) 0
        fin true z true y d v i = omega arith
        fin true z false y true v i = absurd (subst T (sym z ∙ ap f (eqb→eq x n (subst T (sym v) tt)) ∙ y) tt)
        fin true z false y false v i = omega (arith, ap one v)
        fin false z true y true v i = absurd (subst T (sym y ∙ sym (ap f (eqb→eq x n (subst T (sym v) tt))) ∙ z) tt)
        fin false z true y false v i = omega (arith, ap one v)
        fin false z false y d v i = i

count_keep_keys : (f : ℕ → Bool) (n : ℕ) (t : Table Operation) → count n (keys (keep_keys f t)) ≡ cond (f n) (count n (keys t)) 0
count_keep_keys f n t = at (f n) refl
  where
    at : (c : Bool) → f n ≡ c → count n (keys (keep_keys f t)) ≡ cond (f n) (count n (keys t)) 0
    at true z = rw z (keys_kept n f t (subst T (sym z) tt))
    at false z = rw z (keys_gone n f t (not_true (f n) z))

down_keep : (h k : History) (f : ℕ → Bool) → ((n p : ℕ) → over k n ≡ some p → T (f p) × (over h n ≡ some p)) → (ns : List ℕ) → Down h ns → Down k (keep f ns)
unfolding keep
down_keep h k f g [] d = tt
down_keep h k f g (n ∷ ns) d = go (f n) (down_keep h k f g ns d.1)
  where
    go : (b : Bool) → Down k (keep f ns) → Down k (cond b (n ∷ keep f ns) (keep f ns))
    go true ih = ((λ p e. let r = g n p e in member_keep f p ns r.0 (d.0 p r.1)), ih)
    go false ih = ih

-- the operation over another is the parent of some region
over_parent : (h : History) (n p : ℕ) → over h n ≡ some p → (r : ℕ) × (parent h r ≡ some p)
unfolding over
over_parent h n p e = at (block_at h n) e
  where
    at : (v : Option ℕ) → next v (λ b. next (region_at h b) (parent h)) ≡ some p → (r : ℕ) × (parent h r ≡ some p)
    at none x = absurd (no_some p x)
    at (some b) x = next_parent h p (region_at h b) x

-- a history with some operations and blocks ended
module _ (ns : List ℕ) (h k : History) (f g : ℕ → Bool) (m b : ℕ) (w : Nested ns h) (so : Sorted m h.operations) (own : Owned b h.operations) (e₁ : k.operations ≡ keep_keys f h.operations) (e₂ : k.blocks ≡ keep_keys g h.blocks) where
  par_kept : (r p : ℕ) → parent k r ≡ some p → T (f p) × (parent h r ≡ some p)
  unfolding parent
  par_kept r p e =
      let x = parent_found r 0 m (keep_keys f h.operations) p (s_keep f so).rising (sym (ap (find_key (has r)) e₁) ∙ e) in
      let y = keep_back f h.operations p x.0 x.1 in
      (y.0, owner_unique r p h.operations x.0 (own.once r) y.1 x.2)

  blk_kept : (n c : ℕ) → block_at k n ≡ some c → block_at h n ≡ some c
  unfolding block_at block_of_op
  blk_kept n c e = at (find (keep_keys f h.operations) n) refl (sym (ap (λ (t : Table Operation). block_of_op (find t n)) e₁) ∙ e)
    where
      at : (v : Option Operation) → find (keep_keys f h.operations) n ≡ v → block_of_op v ≡ some c → block_of_op (find h.operations n) ≡ some c
      at none z q = absurd (no_some c q)
      at (some a) z q = ap block_of_op (keep_back f h.operations n a z).1 ∙ q

  reg_kept : (c r : ℕ) → region_at k c ≡ some r → region_at h c ≡ some r
  unfolding region_at region_of
  reg_kept c r e = at (find (keep_keys g h.blocks) c) refl (sym (ap (λ (t : Table Block). region_of (find t c)) e₂) ∙ e)
    where
      at : (v : Option Block) → find (keep_keys g h.blocks) c ≡ v → region_of v ≡ some r → region_of (find h.blocks c) ≡ some r
      at none z q = absurd (no_some r q)
      at (some a) z q = ap region_of (keep_back g h.blocks c a z).1 ∙ q

  nest_keep : Nested (keep f ns) k
  nest_keep = record {
    down = down_keep h k f (λ n p e. ((par_kept (over_parent k n p e).0 p (over_parent k n p e).1).0, over_under h k (record { blk = blk_kept; reg = reg_kept; par = λ c r p' _ x. (par_kept r p' x).1 }) n p e)) ns w.down;
    same = λ n. count_keep f n ns ∙ ap (λ (x : ℕ). cond (f n) x 0) (w.same n) ∙ sym (count_keep_keys f n h.operations) ∙ sym (ap (λ (t : Table Operation). count n (keys t)) e₁);
  }

-- one more operation or block
pub last_find : {A : Type 0} (π : Option A → Option ℕ) (n : ℕ) (x : A) → π none ≡ none → π (some x) ≡ none → (t : Table A) (m : ℕ) → π (find (t ++ ((n, x) ∷ [])) m) ≡ π (find t m)
unfolding find
last_find π n x k₀ k₁ [] m = at (eqb n m)
  where
    at : (c : Bool) → π (cond c (some x) none) ≡ π none
    at true = k₁ ∙ sym k₀
    at false = refl
last_find {A} π n x k₀ k₁ (e ∷ t) m = at (last_find π n x k₀ k₁ t m) (eqb e.0 m)
  where
    at : π (find (t ++ ((n, x) ∷ [])) m) ≡ π (find t m) → (c : Bool) → π (cond c (some e.1) (find (t ++ ((n, x) ∷ [])) m)) ≡ π (cond c (some e.1) (find t m))
    at ih true = refl
    at ih false = ih

last_key : (p : Operation → Bool) (n : ℕ) (x : Operation) → p x ≡ false → (t : Table Operation) → find_key p (t ++ ((n, x) ∷ [])) ≡ find_key p t
unfolding find_key
last_key p n x k [] = ap (λ (c : Bool). cond c (some n) none) k
last_key p n x k (e ∷ t) = ap (λ (o : Option ℕ). cond (p e.1) (some e.0) o) (last_key p n x k t)

nest_new : (ns : List ℕ) (h k : History) (n m b g : ℕ) (x : Operation) → Nested ns h → Sorted m h.operations → ((c r : ℕ) → region_at h c ≡ some r → r < b) → k.operations ≡ h.operations ++ ((n, x) ∷ []) → k.blocks ≡ h.blocks → x.block ≡ none → x.regions ≡ up b g → Nested (n ∷ ns) k
unfolding block_at region_at parent block_of_op
nest_new ns h k n m b g x w so within e₁ e₂ f₁ f₂ = record {
  down = ((λ p e. let q = over_parent h n p (over_under h k under n p e) in parent_member ns h m w so.rising q.0 p q.1), down_map h k (over_under h k under) ns w.down);
  same = λ y. omega (arith, w.same y, ap (λ (t : Table Operation). count y (keys t)) e₁, keys_last y n x h.operations);
}
  where
    under : Under h k
    under = record {
      blk = λ y c z. sym (ap (λ (t : Table Operation). block_of_op (find t y)) e₁ ∙ last_find block_of_op n x refl f₁ h.operations y) ∙ z;
      reg = λ c r z. sym (ap (λ (t : Table Block). region_of (find t c)) e₂) ∙ z;
      par = λ c r p v z. sym (ap (find_key (has r)) e₁ ∙ last_key (has r) n x (away r (within c r v)) h.operations) ∙ z;
    }
      where
        none_there : (r : ℕ) (d : Bool) → r < b → member r x.regions ≡ d → d ≡ false
        none_there r true v z = absurd (omega (arith, yes_member r x.regions (subst T (sym z) tt), ap (count r) f₂, up_below r b g v))
        none_there r false v z = refl

        away : (r : ℕ) → r < b → has r x ≡ false
        away r v = none_there r (has r x) v refl

-- ---- every edit

pub region_kept : (n : ℕ) (f : Block → Block) → ((o : Block) → (f o).region ≡ o.region) → (t : Table Block) (m : ℕ) → region_of (find (change n f t) m) ≡ region_of (find t m)
unfolding region_of
region_kept n f k t m = find_alike region_of n f t m k

-- nested, and no block hangs in a region still to be born
pub record Hung (b : ℕ) (h : History) : Type 0 where
  pub list : List ℕ
  pub nested : Nested list h
  pub within : (c r : ℕ) → region_at h c ≡ some r → r < b

hung_more : (b d : ℕ) (h : History) → Hung b h → Hung (b + d) h
hung_more b d h w = record { list = w.list; nested = w.nested; within = λ c r e. let z : r < b = w.within c r e in omega arith }

-- operations changed at one number, with block and regions kept
hung_change : (b : ℕ) (h k : History) (n : ℕ) (f : Operation → Operation) → k.operations ≡ change n f h.operations → k.blocks ≡ h.blocks → ((o : Operation) → (f o).block ≡ o.block) → ((o : Operation) → (f o).regions ≡ o.regions) → Hung b h → Hung b k
unfolding region_at
hung_change b h k n f e₁ e₂ f₁ f₂ w = record { list = w.list; nested = nest_change w.list h k n f e₁ e₂ f₁ f₂ w.nested; within = λ c r e. w.within c r (sym (ap (λ (t : Table Block). region_of (find t c)) e₂) ∙ e) }

hung_slot : (b : ℕ) (h k : History) (sl : Slot) (n : ℕ) (f : List ℕ → List ℕ) → k.operations ≡ change n (change_slot sl f) h.operations → k.blocks ≡ h.blocks → Hung b h → Hung b k
hung_slot b h k sl n f e₁ e₂ w = hung_change b h k n (change_slot sl f) e₁ e₂ (at_block sl) (at_regions sl) w
  where
    at_block : (l : Slot) (o : Operation) → (change_slot l f o).block ≡ o.block
    at_block operand o = unfold change_slot in refl
    at_block successor o = unfold change_slot in refl

    at_regions : (l : Slot) (o : Operation) → (change_slot l f o).regions ≡ o.regions
    at_regions operand o = unfold change_slot in refl
    at_regions successor o = unfold change_slot in refl

-- the same operations, and the same regions over blocks
hung_same : (b : ℕ) (h k : History) → k.operations ≡ h.operations → ((c : ℕ) → region_at k c ≡ region_at h c) → Hung b h → Hung b k
unfolding block_at parent
hung_same b h k e g w = record {
  list = w.list;
  nested = nest_same w.list h k (λ n. ap (λ (t : Table Operation). block_of_op (find t n)) e) g (λ r. ap (find_key (has r)) e) (ap keys e) w.nested;
  within = λ c r x. w.within c r (sym (g c) ∙ x);
}

hung_values : (m : Member) (b n : ℕ) (f : List ℕ → List ℕ) (h : History) → Hung b h → Hung b (change_values m n f h)
unfolding change_values with_operations with_blocks change_results change_arguments region_at
hung_values operation b n f h w = hung_change b h _ n (change_results f) refl refl (λ o. refl) (λ o. refl) w
hung_values block b n f h w = hung_same b h _ refl (λ c. region_kept n (change_arguments f) (λ o. refl) h.blocks c) w

pub found_block_entry : (h : History) (n : ℕ) → IsFound h (block_named n) → (a : Block) × (find h.blocks n ≡ some a)
unfolding IsFound missing check live_block is_some
found_block_entry h n t = go (find h.blocks n) t
  where
    go : (o : Option Block) → T (eqb (check (is_some o) 0 8) 0) → (a : Block) × (o ≡ some a)
    go none k = absurd k
    go (some a) k = (a, refl)

found_region : (h : History) (b d r : ℕ) → Sorted d h.operations → Owned b h.operations → IsFound h (region_named r) → r < b
unfolding IsFound missing check live_region is_some parent
found_region h b d r so own t = go (find_key (has r) h.operations) refl t
  where
    below : (c : Bool) → leb b r ≡ c → 1 ≤ owned r h.operations → r < b
    below true z q = absurd (omega (arith, own.fresh r (leb-true b r z)))
    below false z q = leb-false b r z

    go : (o : Option ℕ) → find_key (has r) h.operations ≡ o → T (eqb (check (is_some o) 0 9) 0) → r < b
    go none e k = absurd k
    go (some p) e k = let f = parent_found r 0 d h.operations p so.rising e in below (leb b r) refl (found_owned r p h.operations f.0 f.1 f.2)

hung_operation : (b d x c : ℕ) (h : History) → Sorted d h.operations → IsFound h (operation_named x) → T (not (block_in h (the_operation x) c)) → Hung b h → Hung b (put_in operation x (some c) h)
unfolding put_in with_operations region_at
hung_operation b d x c h so l k w =
    let a = found_operation h x l in
    record { list = _; nested = nest_operation w.list h x c d a.0 w.nested so.rising a.1 k; within = w.within }

hung_block : (b d x r : ℕ) (h : History) → Sorted d h.operations → IsFound h (block_named x) → T (not (region_in h (the_block x) r)) → r < b → Hung b h → Hung b (put_in block x (some r) h)
hung_block b d x r h so l k low w =
    let a = found_block_entry h x l in
    record { list = _; nested = nest_block w.list h x r d a.0 w.nested so.rising a.1 k; within = λ c q e. at c q (eqb x c) refl e }
  where
    at : (c q : ℕ) (y : Bool) → eqb x c ≡ y → region_at (put_in block x (some r) h) c ≡ some q → q < b
    at c q true z e =
        let a = found_block_entry h x l in
        let same : r ≡ q = someinj r q (sym (put_region x (some r) h a.0 a.1) ∙ ap (region_at (put_in block x (some r) h)) (eqb→eq x c (subst T (sym z) tt)) ∙ e) in
        omega arith
    at c q false z e = w.within c q (sym (region_other x c (some r) h z) ∙ e)

hung_unlink : (m : Member) (b x : ℕ) (h : History) → IsFound h (member_named m x) → Hung b h → Hung b (put_in m x none h)
unfolding member_named
hung_unlink operation b x h l w = record {
  list = w.list;
  nested = nest_under w.list h (put_in operation x none h) (record { blk = λ n c e. at n c (eqb x n) refl e; reg = λ c r e. unfold put_in with_operations region_at in e; par = λ c r p _ e. sym (put_parent x none h r) ∙ e }) (unfold put_in with_operations in (keys_change x (into_block none) h.operations)) w.nested;
  within = λ c r e. w.within c r (unfold put_in with_operations region_at in e);
}
  where
    at : (n c : ℕ) (y : Bool) → eqb x n ≡ y → block_at (put_in operation x none h) n ≡ some c → block_at h n ≡ some c
    at n c true z e = let a = found_operation h x l in absurd (no_some c (sym (put_block x none h a.0 a.1) ∙ ap (block_at (put_in operation x none h)) (eqb→eq x n (subst T (sym z) tt)) ∙ e))
    at n c false z e = sym (block_other x n none h z) ∙ e
hung_unlink block b x h l w = record {
  list = w.list;
  nested = nest_under w.list h (put_in block x none h) (record { blk = λ n c e. unfold put_in with_blocks block_at in e; reg = at'; par = λ c r p _ e. unfold put_in with_blocks parent in e }) (unfold put_in with_blocks in refl) w.nested;
  within = λ c r e. w.within c r (at' c r e);
}
  where
    at : (c r : ℕ) (y : Bool) → eqb x c ≡ y → region_at (put_in block x none h) c ≡ some r → region_at h c ≡ some r
    at c r true z e = let a = found_block_entry h x l in absurd (no_some r (sym (put_region x none h a.0 a.1) ∙ ap (region_at (put_in block x none h)) (eqb→eq x c (subst T (sym z) tt)) ∙ e))
    at c r false z e = sym (region_other x c none h z) ∙ e

    at' : (c r : ℕ) → region_at (put_in block x none h) c ≡ some r → region_at h c ≡ some r
    at' c r e = at c r (eqb x c) refl e

-- the mark's container, as the tests leave it
pub marked : (s : State) (m : Member) (x : ℕ) (v : Option ℕ) → T (eqb (mark_tests s m x v) 0) → (c : ℕ) × (v ≡ some c) × T (not (contained_in s.history m x c))
unfolding mark_tests
marked s m x none t = absurd t
marked s m x (some c) t = (c, refl, (zero_first (contained_in s.history m x c) 17 0 tt t).0)

more0 : (b : ℕ) (h : History) → Hung b h → Hung (b + 0) h
more0 b h w = hung_more b 0 h w

last_region : (ts : List ℕ) (h : History) (c : ℕ) → region_at (carry_out (new_block ts) h) c ≡ region_at h c
unfolding region_at carry_out with_blocks region_of
last_region ts h c = last_find region_of _ _ refl refl h.blocks c

chosen_operations : (c : Bool) (h : History) (us : Table Definition) → (cond c h (with_uses h us)).operations ≡ h.operations
unfolding with_uses
chosen_operations true h us = refl
chosen_operations false h us = refl

chosen_region : (c : Bool) (h : History) (us : Table Definition) (b : ℕ) → region_at (cond c h (with_uses h us)) b ≡ region_at h b
unfolding with_uses region_at
chosen_region true h us b = refl
chosen_region false h us b = refl

hung_drop : (b : ℕ) (t : Thing) (h : History) → Hung b h → Hung b (drop_inside t h)
unfolding region_at drop_inside end_uses with_operations
hung_drop b t h w = record { list = w.list; nested = nest_drop w.list h t w.nested; within = w.within }

hung_place : (b : ℕ) (x y : Definition) (p : ℕ → Bool) (h : History) → Hung b h → Hung b (place_some x y p h)
unfolding place_some with_uses region_at
hung_place b x y p h w = hung_same b h (place_some x y p h) refl (λ c. refl) w

hung_mark : (m : Member) (x c : ℕ) (s : State) → Owning s → IsFound s.history (member_named m x) → T (eqb (mark_tests s m x (container m s.history c)) 0) → Hung s.history.born.regions s.history → Hung s.history.born.regions (put_in m x (container m s.history c) s.history)
unfolding container contained_in member_named
hung_mark operation x c s o l k w =
    let q = marked s operation x (block_at s.history c) k in
    subst (λ (v : Option ℕ). Hung s.history.born.regions (put_in operation x v s.history)) (sym q.1) (hung_operation _ _ x q.0 s.history o.ordered.ops l q.2 w)
hung_mark block x c s o l k w =
    let q = marked s block x (region_at s.history c) k in
    subst (λ (v : Option ℕ). Hung s.history.born.regions (put_in block x v s.history)) (sym q.1) (hung_block _ _ x q.0 s.history o.ordered.ops l q.2 (w.within c q.0 q.1) w)

hung_into : (m : Member) (x c : ℕ) (s : State) → Owning s → IsFound s.history (member_named m x) → IsFound s.history (container_named m c) → T (not (contained_in s.history m x c)) → Hung s.history.born.regions s.history → Hung s.history.born.regions (put_in m x (some c) s.history)
unfolding contained_in member_named container_named
hung_into operation x c s o l d k w = hung_operation _ _ x c s.history o.ordered.ops l k w
hung_into block x c s o l d k w = hung_block _ _ x c s.history o.ordered.ops l k (found_region s.history _ _ c o.ordered.ops o.regions d) w

pub zero_then : (b : Bool) (r : ℕ) → b ≡ false → T (eqb (check b 0 r) 0) → T (eqb r 0)
unfolding check
zero_then true r z t = absurd (subst T z tt)
zero_then false r z t = t

hung_region : (q n : ℕ) (s : State) → Owning s → IsFound s.history (operation_named n) → T (eqb (from_state s (move_region q n)) 0) → Hung s.history.born.regions s.history → Hung s.history.born.regions (hand_over q (parent s.history q) n s.history)
unfolding from_state
hung_region q n s o l k w = at (parent s.history q) refl _ k
  where
    H : History
    H = s.history

    move : (p : ℕ) → parent H q ≡ some p → eqb p n ≡ false → T (not (operation_in H (the_region q) n)) → Hung H.born.regions (hand_over q (some p) n H)
    move p e z out =
        subst (Hung H.born.regions) (sym (is_now w.list H q p n _ _ w.nested o.ordered.ops o.regions e l z out))
        (record { list = _; nested = nest_region w.list H q p n _ _ w.nested o.ordered.ops o.regions e l z out; within = λ c r x. w.within c r (unfold region_at now with_operations in x) })

    pick : (p : ℕ) → parent H q ≡ some p → (c : Bool) → eqb p n ≡ c → (rest : ℕ) → T (eqb (check (eqb n p) 0 (check (operation_in H (the_region q) n) 17 rest)) 0) → Hung H.born.regions (hand_over q (some p) n H)
    pick p e true z rest t = stay
      where
        stay : Hung H.born.regions (hand_over q (some p) n H)
        stay = unfold hand_over in (subst (λ (c : Bool). Hung H.born.regions (cond c H (with_operations H (change n (change_regions (λ xs. xs ++ (q ∷ []))) (change p (change_regions (swap_out q)) H.operations))))) (sym z) w)
    pick p e false z rest t = move p e z (zero_first (operation_in H (the_region q) n) 17 rest tt ((zero_then (eqb n p) (check (operation_in H (the_region q) n) 17 rest) (eqb_comm n p ∙ z) t))).0

    at : (v : Option ℕ) → parent H q ≡ v → (rest : ℕ) → T (eqb (check (some_and v (eqb n)) 0 (check (operation_in H (the_region q) n) 17 rest)) 0) → Hung H.born.regions (hand_over q v n H)
    at none e rest t = unfold hand_over in w
    at (some p) e rest t = pick p e (eqb p n) refl rest (unfold some_and in t)

hung_erase : (t : Thing) (s : State) → Owning s → Hung s.history.born.regions s.history → Hung s.history.born.regions (end_inside t s.history)
hung_erase t s o w = record {
  list = _;
  nested = nest_keep w.list s.history (end_inside t s.history) (λ n. not (operation_in s.history t n)) (λ n. not (block_in s.history t n)) _ _ w.nested o.ordered.ops o.regions e₁ e₂;
  within = λ c r e. w.within c r (reg_kept w.list s.history (end_inside t s.history) (λ n. not (operation_in s.history t n)) (λ n. not (block_in s.history t n)) _ _ w.nested o.ordered.ops o.regions e₁ e₂ c r e);
}
  where
    e₁ : (end_inside t s.history).operations ≡ keep_keys (λ n. not (operation_in s.history t n)) s.history.operations
    e₁ = unfold end_inside in refl

    e₂ : (end_inside t s.history).blocks ≡ keep_keys (λ n. not (block_in s.history t n)) s.history.blocks
    e₂ = unfold end_inside in refl

hung_erase_region : (n i : ℕ) (s : State) → Owning s → Hung s.history.born.regions s.history → Hung s.history.born.regions (carry_out (erase_region n i) s.history)
unfolding carry_out with_operations
hung_erase_region n i s o w = record { list = e.list; nested = nest_under e.list E (carry_out (erase_region n i) s.history) under (keys_change n (change_regions (remove_at i)) E.operations) e.nested; within = λ c r x. e.within c r (unfold region_at in x) }
  where
    t : Thing
    t = the_region (region_index n i s.history)

    E : History
    E = end_inside t s.history

    e : Hung s.history.born.regions E
    e = hung_erase t s o w

    so : Sorted s.history.born.operations E.operations
    so = unfold end_inside in (s_keep (λ m. not (operation_in s.history t m)) o.ordered.ops)

    own : Owned s.history.born.regions E.operations
    own = unfold end_inside in (o_keep (λ m. not (operation_in s.history t m)) o.regions)

    less : (r : ℕ) (a : Operation) → T (has r (change_regions (remove_at i) a)) → T (has r a)
    less r a m = unfold change_regions in (is_member r a.regions (omega (arith, yes_member r (remove_at i a.regions) m, count_remove_le r i a.regions)))

    par : (r p : ℕ) → find_key (has r) (change n (change_regions (remove_at i)) E.operations) ≡ some p → find_key (has r) E.operations ≡ some p
    par r p x =
        let f = parent_found r 0 _ (change n (change_regions (remove_at i)) E.operations) p (s_change n (change_regions (remove_at i)) so).rising x in
        let g = owner_back r n (change_regions (remove_at i)) (less r) E.operations p f.0 f.1 f.2 in
        owner_unique r p E.operations g.0 (own.once r) g.1 g.2

    under : Under E (carry_out (erase_region n i) s.history)
    under = record {
      blk = λ m c x. unfold block_at change_regions in (sym (block_kept n (change_regions (remove_at i)) (λ a. refl) E.operations m) ∙ x);
      reg = λ c r x. unfold region_at in x;
      par = λ c r p _ x. unfold parent in (par r p x);
    }

pub hung_carry_out : (e : Edit) (s : State) → Owning s → All (IsFound s.history) (named e) → T (eqb (from_state s e) 0) → Hung s.history.born.regions s.history → Hung (s.history.born.regions + (births e).regions) (carry_out e s.history)
unfolding carry_out named from_state births zeros add_use take_use end_uses with_operations with_uses place_some
hung_carry_out (new_operation fl ts vs bs g) s o l k w = record { list = s.history.born.operations ∷ w.list; nested = nest_new w.list s.history _ s.history.born.operations s.history.born.operations s.history.born.regions g _ w.nested o.ordered.ops w.within refl refl refl refl; within = λ c r e. let z : r < s.history.born.regions = w.within c r (unfold region_at in e) in omega arith }
hung_carry_out (new_block ts) s o l k w = more0 _ _ (hung_same _ s.history (carry_out (new_block ts) s.history) (unfold with_blocks in refl) (λ c. last_region ts s.history c) w)
hung_carry_out (push_use sl n d) s o l k w = more0 _ _ (hung_slot _ s.history _ sl n _ refl refl w)
hung_carry_out (insert_use sl n i d) s o l k w = more0 _ _ (hung_slot _ s.history _ sl n _ refl refl w)
hung_carry_out (replace_use sl n i d) s o l k w = more0 _ _ (hung_slot _ s.history _ sl n _ refl refl w)
hung_carry_out (remove_use sl n i) s o l k w = more0 _ _ (hung_slot _ s.history _ sl n _ refl refl w)
hung_carry_out (pop_use sl n) s o l k w = more0 _ _ (hung_slot _ s.history _ sl n _ refl refl w)
hung_carry_out (push_value m n ty) s o l k w = more0 _ _ (hung_values m _ n _ s.history w)
hung_carry_out (insert_value m n i ty) s o l k w = more0 _ _ (hung_values m _ n _ s.history w)
hung_carry_out (remove_value m n i) s o l k w = more0 _ _ (hung_values m _ n _ s.history w)
hung_carry_out (pop_value m n) s o l k w = more0 _ _ (hung_values m _ n _ s.history w)
hung_carry_out (link_after m x c) s o l k w = more0 _ _ (hung_mark m x c s o l.0 (zero_first (is_linked s.history m x) 15 _ tt k).1 w)
hung_carry_out (link_before m x c) s o l k w = more0 _ _ (hung_mark m x c s o l.0 (zero_first (is_linked s.history m x) 15 _ tt k).1 w)
hung_carry_out (link_front m x c) s o l k w = more0 _ _ (hung_into m x c s o l.0 l.1.0 (zero_first (contained_in s.history m x c) 17 0 tt (zero_first (is_linked s.history m x) 15 _ tt k).1).0 w)
hung_carry_out (link_back m x c) s o l k w = more0 _ _ (hung_into m x c s o l.0 l.1.0 (zero_first (contained_in s.history m x c) 17 0 tt (zero_first (is_linked s.history m x) 15 _ tt k).1).0 w)
hung_carry_out (unlink m x) s o l k w = more0 _ _ (hung_unlink m _ x s.history l.0 w)
hung_carry_out (move_region q n) s o l k w = more0 _ _ (hung_region q n s o l.1.0 k w)
hung_carry_out (move_use sl x u y) s o l k w = more0 _ _ (hung_same _ s.history _ (chosen_operations (eqb x y) s.history _) (λ c. chosen_region (eqb x y) s.history _ c) w)
hung_carry_out (replace_some x y us) s o l k w = more0 _ _ (hung_place _ _ _ _ s.history w)
hung_carry_out (retarget_some x y ps) s o l k w = more0 _ _ (hung_place _ _ _ _ s.history w)
hung_carry_out (drop_uses th) s o l k w = more0 _ _ (hung_drop _ th s.history w)
hung_carry_out (erase_operation n) s o l k w = more0 _ _ (hung_erase (the_operation n) s o w)
hung_carry_out (erase_block n) s o l k w = more0 _ _ (hung_erase (the_block n) s o w)
hung_carry_out (erase_region n i) s o l k w = more0 _ _ (hung_erase_region n i s o w)
hung_carry_out (verdict th) s o l k w = more0 _ _ w

pub record Nesting (s : State) : Type 0 where
  pub owning : Owning s
  pub hung : Hung s.history.born.regions s.history

hung_bear : (b : ℕ) (k : Five) (h : History) → Hung b h → Hung b (bear k h)
unfolding bear region_at
hung_bear b k h w = hung_same b h (bear k h) refl (λ c. refl) w

pub nesting_accept : (e : Edit) (s : State) → T (eqb (refusal_of s e) 0) → Nesting s → Nesting (accept e s)
unfolding accept remember bear plus refusal_of
nesting_accept e s k w = record { owning = owning_accept e s k w.owning; hung = hung_bear _ (plus s.history.born (births e)) (carry_out e s.history) done }
  where
    p : T (eqb (first_missing s.history (named e)) 0) × T (eqb (from_state s e) 0)
    p = or_else_zero (first_missing s.history (named e)) (from_state s e) k

    done : Hung (s.history.born.regions + (births e).regions) (carry_out e s.history)
    done = hung_carry_out e s w.owning (all_found s.history (named e) p.0) p.1 w.hung

pub nesting_start : (k : Five) → Nesting (start k)
nesting_start k = record { owning = owning_start k; hung = record { list = []; nested = record { down = tt; same = λ n. unfold start begin keys in refl }; within = λ c r e. absurd (no_some r (unfold start begin region_at region_of find in e)) } }

-- ---- numbers that rise

-- numbers that rise stand once
pub rising_none : {A : Type 0} (lo b n : ℕ) (t : Table A) → Rising lo b t → n < lo → count n (keys t) ≡ 0
unfolding keys
rising_none lo b n [] r h = refl
rising_none lo b n (e ∷ t) r h = omega (arith, ap one (ne_eqb e.0 n (λ z. omega (arith, r.0))), rising_none (suc e.0) b n t r.1 (omega (arith, r.0)))

pub rising_once : {A : Type 0} (lo b n : ℕ) (t : Table A) → Rising lo b t → count n (keys t) ≤ 1
unfolding keys
rising_once lo b n [] r = omega arith
rising_once lo b n (e ∷ t) r = go (eqb e.0 n) refl (rising_once (suc e.0) b n t r.1)
  where
    go : (c : Bool) → eqb e.0 n ≡ c → count n (keys t) ≤ 1 → one (eqb e.0 n) + count n (keys t) ≤ 1
    go true z ih = omega (arith, ap one z, rising_none (suc e.0) b n t r.1 (omega (arith, eqb→eq e.0 n (subst T (sym z) tt))))
    go false z ih = omega (arith, ap one z)
