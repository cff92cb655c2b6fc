-- Operations stand in the list of their block and blocks in the list of their region, once and nowhere else; and there is a list for every
-- live block and region. Assumes nothing.
use mathlib.Core.Path.{◌≡◌, refl, sym, ap, subst, ◌∙◌}
use mathlib.Core.Logic.{◌⊎◌, inl, inr}
use mathlib.Core.Bool.{Bool, true, false, not, cond, ◌||◌}
use mathlib.Core.List.{List, [], ◌∷◌, ◌++◌}
use mathlib.Core.Option.{Option, none, some}
use Prim.Native.Nat.{ℕ, zero, suc, ◌+◌, ◌-◌, ◌≤◌}
use native.Mathlib.Omega.{arith}
use borrow.Author.Tests.{leb-true}
use lib.Dec.{T, eqb, leb, eqb→eq}
use lib.ListN.{length, get_or, replicate, length-replicate}
use Rattle.rules.specs.Table.{Table, keep, any, find, find_key, items, keys, change, change_all, keep_keys, number, nth, member, remove_at, swap_out, without, put_after, put_before, some_and, is_some, up, one, count}
use Rattle.edit.specs.Record.{Slot, operand, successor, Member, operation, block, Thing, the_operation, the_block, the_region, Definition, Edit, new_operation, new_block, push_use, insert_use, replace_use, remove_use, pop_use, push_value, insert_value, remove_value, pop_value, link_after, link_before, link_front, link_back, unlink, move_region, move_use, replace_some, retarget_some, drop_uses, erase_operation, erase_block, erase_region, verdict}
use Rattle.rules.specs.History.{Operation, Block, Five, History, births, bear, begin, carry_out, remember, change_slot, change_results, change_regions, change_arguments, into_block, into_region, with_operations, with_blocks, with_uses, end_uses, add_use, take_use, change_values, put_in, container, emptied, region_index, drop_inside, end_inside, hand_over, place_some, region_climb, block_climb, operation_in, block_in, region_in, parent, block_of_op, region_of, regions_of, block_at, region_at, is_operation, is_block, is_region, defined, live_operation, live_block, live_region}
use Rattle.rules.specs.Orders.{no_orders, lists, or_empty, list_at, containers, live_member, live_container, if_same, still_live, new_lists, order, reorder}
use Rattle.rules.specs.State.{State, accept, start}
use Rattle.rules.specs.Refusal.{operation_named, member_named, container_named, missing, check, mark_tests, contained_in, is_linked, from_state, named, refusal_of, first_missing}
use Rattle.rules.proofs.Tables.{All, or_l, or_r, or_split, against, not_or, member_remove, weigh_append, weigh_change, weigh_less, weigh_keep, weigh_all_same}
use Rattle.rules.proofs.Closure.{or_else_zero}
use Rattle.rules.proofs.Live.{IsFound, zero_first, all_found}
use Rattle.rules.proofs.Places.{found_operation, count_append, no_member, yes_member, keys_append, keys_change, keys_change_all, keys_kept, keys_gone, keys_last, keys_number, eqb_comm}
use Rattle.rules.proofs.Rising.{Rising, Sorted, Ordered, s_change}
use Rattle.rules.proofs.Laws.{none_some, yes, is_true, eqb_same, omap, find_keeps, find_changes, find_changes_all, find_more, find_below, spread_same, any_spread, spread_any, find_other, find_alike}
use Rattle.rules.proofs.Regions.{regions_in, owned, Owned, parent_found, count_swap_out, count_remove_le}
use Rattle.rules.proofs.Nest.{next, over, Nested, direct, inside_step, is_member}
use Rattle.rules.proofs.Inside.{found_key, Hung, Nesting, last_find, block_kept, block_kept_all, region_kept, put_block, put_region, block_other, region_other, region_out, found_owned, found_block_entry, marked}

-- does the thing hang at c?
abbrev pub at_home : Option ℕ → ℕ → Bool
at_home o c = some_and o (λ d. eqb d c)

-- how often c is a live block, or a region that an operation has
abbrev pub homes : Member → ℕ → History → ℕ
homes operation c h = count c (keys h.blocks)
homes block c h = owned c h.operations

pub record Listed (m : Member) (h : History) (t : Table (List ℕ)) : Type 0 where
  pub agree : (x c : ℕ) → count x (list_at t c) ≡ one (at_home (container m h x) c)
  pub same : (c : ℕ) → count c (keys t) ≡ homes m c h

-- ---- lists of a table

list_all : (f : List ℕ → List ℕ) → f [] ≡ [] → (t : Table (List ℕ)) (c : ℕ) → list_at (change_all (λ _. f) t) c ≡ f (list_at t c)
unfolding list_at or_empty
list_all f e t c = ap or_empty (find_changes_all (λ _. f) t c) ∙ at (find t c)
  where
    at : (o : Option (List ℕ)) → or_empty (omap f o) ≡ f (or_empty o)
    at none = sym e
    at (some xs) = refl

list_kept : (p : ℕ → Bool) (t : Table (List ℕ)) (c : ℕ) → list_at (keep_keys p t) c ≡ cond (p c) (list_at t c) []
unfolding list_at or_empty
list_kept p t c = ap or_empty (find_keeps p t c) ∙ at (p c)
  where
    at : (b : Bool) → or_empty (cond b (find t c) none) ≡ cond b (or_empty (find t c)) []
    at true = refl
    at false = refl

list_change : (n : ℕ) (f : List ℕ → List ℕ) (t : Table (List ℕ)) (c : ℕ) → T (is_some (find t n)) → list_at (change n f t) c ≡ cond (eqb n c) (f (list_at t c)) (list_at t c)
unfolding list_at or_empty is_some
list_change n f t c k = ap or_empty (find_changes n f t c) ∙ go (eqb n c) refl
  where
    at : (o : Option (List ℕ)) → T (is_some o) → or_empty (omap f o) ≡ f (or_empty o)
    at none q = absurd q
    at (some xs) q = refl

    go : (b : Bool) → eqb n c ≡ b → or_empty (cond (eqb n c) (omap f (find t c)) (find t c)) ≡ cond (eqb n c) (f (or_empty (find t c))) (or_empty (find t c))
    go true z = rw z (at (find t c) (subst (λ (q : ℕ). T (is_some (find t q))) (eqb→eq n c (is_true z)) k))
    go false z = rw z refl

nothing_new : (g i : ℕ) → or_empty (nth (replicate g []) i) ≡ []
unfolding or_empty nth
nothing_new zero i = refl
nothing_new (suc g) zero = refl
nothing_new (suc g) (suc i) = nothing_new g i

list_more : (b g : ℕ) (t : Table (List ℕ)) (c : ℕ) → Sorted b t → list_at (t ++ number b (replicate g [])) c ≡ list_at t c
unfolding list_at or_empty
list_more b g t c r = ap or_empty (find_more b t (replicate g []) c r.rising) ∙ go (leb b c) refl
  where
    go : (q : Bool) → leb b c ≡ q → or_empty (cond (leb b c) (nth (replicate g []) (c - b)) (find t c)) ≡ or_empty (find t c)
    go true z = rw z (nothing_new g (c - b) ∙ ap or_empty (sym (find_below 0 b t c r.rising (leb-true b c z))))
    go false z = rw z refl

-- ---- counts in the changed lists

count_after : (y k x : ℕ) (xs : List ℕ) → count y (put_after k x xs) ≡ cond (member k xs) (one (eqb x y)) 0 + count y xs
unfolding put_after member
count_after y k x [] = refl
count_after y k x (e ∷ xs) = go (eqb e k) (count_after y k x xs)
  where
    go : (b : Bool) → count y (put_after k x xs) ≡ cond (member k xs) (one (eqb x y)) 0 + count y xs → count y (cond b (e ∷ x ∷ xs) (e ∷ put_after k x xs)) ≡ cond (b || member k xs) (one (eqb x y)) 0 + (one (eqb e y) + count y xs)
    go true ih = omega arith
    go false ih = omega arith

count_before : (y k x : ℕ) (xs : List ℕ) → count y (put_before k x xs) ≡ cond (member k xs) (one (eqb x y)) 0 + count y xs
unfolding put_before member
count_before y k x [] = refl
count_before y k x (e ∷ xs) = go (eqb e k) (count_before y k x xs)
  where
    go : (b : Bool) → count y (put_before k x xs) ≡ cond (member k xs) (one (eqb x y)) 0 + count y xs → count y (cond b (x ∷ e ∷ xs) (e ∷ put_before k x xs)) ≡ cond (b || member k xs) (one (eqb x y)) 0 + (one (eqb e y) + count y xs)
    go true ih = omega arith
    go false ih = omega arith

pub count_keep : (y : ℕ) (p : ℕ → Bool) (xs : List ℕ) → count y (keep p xs) ≡ cond (p y) (count y xs) 0
unfolding keep
count_keep y p [] = at (p y)
  where
    at : (b : Bool) → ◌≡◌ {A = ℕ} 0 (cond b 0 0)
    at true = refl
    at false = refl
count_keep y p (e ∷ xs) = go (p e) refl (eqb e y) refl (count_keep y p xs)
  where
    both : (c : Bool) (n k : ℕ) → k ≡ cond c n 0 → k ≡ cond c (0 + n) 0
    both c n k z = omega (arith, ap (λ (q : ℕ). cond c q 0) (let w : n ≡ 0 + n = omega arith in w))

    go : (b : Bool) → p e ≡ b → (c : Bool) → eqb e y ≡ c → count y (keep p xs) ≡ cond (p y) (count y xs) 0 → count y (cond b (e ∷ keep p xs) (keep p xs)) ≡ cond (p y) (one (eqb e y) + count y xs) 0
    go true z true w ih = let q : p y ≡ true = sym (ap p (eqb→eq e y (is_true w))) ∙ z in rw q (omega (arith, rw q at ih))
    go true z false w ih = rw w (both (p y) (count y xs) _ (omega (arith, ih)))
    go false z true w ih = let q : p y ≡ false = sym (ap p (eqb→eq e y (is_true w))) ∙ z in rw q (rw q at ih)
    go false z false w ih = rw w (both (p y) (count y xs) _ ih)

-- ---- what hangs somewhere has a list there, and what has a list is live

pub key_none : {A : Type 0} (t : Table A) (c : ℕ) → find t c ≡ none → count c (keys t) ≡ 0
unfolding find keys
key_none [] c e = refl
key_none (e ∷ t) c w = go (eqb e.0 c) refl w (key_none t c)
  where
    go : (b : Bool) → eqb e.0 c ≡ b → cond b (some e.1) (find t c) ≡ none → (find t c ≡ none → count c (keys t) ≡ 0) → one (eqb e.0 c) + count c (keys t) ≡ 0
    go true z q ih = absurd (none_some (sym q))
    go false z q ih = omega (arith, ap one z, ih q)

pub key_found : {A : Type 0} (t : Table A) (c : ℕ) → 1 ≤ count c (keys t) → T (is_some (find t c))
unfolding is_some
key_found {A} t c h = go (find t c) refl
  where
    go : (o : Option A) → find t c ≡ o → T (is_some o)
    go none z = absurd (omega (arith, key_none t c z))
    go (some a) z = tt

pub found_count : {A : Type 0} (t : Table A) (c : ℕ) → T (is_some (find t c)) → 1 ≤ count c (keys t)
unfolding is_some
found_count {A} t c h = go (find t c) refl h
  where
    go : (o : Option A) → find t c ≡ o → T (is_some o) → 1 ≤ count c (keys t)
    go none z q = absurd q
    go (some a) z q = found_key c t a z

-- a region is live where an operation has it
key_any : (p : Operation → Bool) (t : Table Operation) → is_some (find_key p t) ≡ any p (items t)
unfolding is_some find_key any items
key_any p [] = refl
key_any p (e ∷ t) = go (p e.1) (key_any p t)
  where
    go : (b : Bool) → is_some (find_key p t) ≡ any p (items t) → is_some (cond b (some e.0) (find_key p t)) ≡ b || any p (items t)
    go true ih = refl
    go false ih = ih

pub owned_live : (h : History) (r : ℕ) → 1 ≤ owned r h.operations → T (live_region h r)
unfolding live_region parent
owned_live h r k = subst T (sym (key_any (λ (o : Operation). member r o.regions) h.operations)) (any_spread regions_in r h.operations k)

pub live_owned : (h : History) (r : ℕ) → T (live_region h r) → 1 ≤ owned r h.operations
unfolding live_region parent
live_owned h r k = spread_any regions_in r h.operations (subst T (key_any (λ (o : Operation). member r o.regions) h.operations) k)

pub home_live : (m : Member) (h : History) (c : ℕ) → 1 ≤ homes m c h → T (live_container m h c)
unfolding live_container live_block
home_live operation h c k = key_found h.blocks c k
home_live block h c k = owned_live h c k

pub live_home : (m : Member) (h : History) (c : ℕ) → T (live_container m h c) → 1 ≤ homes m c h
unfolding live_container live_block
live_home operation h c k = found_count h.blocks c k
live_home block h c k = live_owned h c k

module _ (m : Member) (h : History) (t : Table (List ℕ)) (w : Listed m h t) where
  has_list : (c : ℕ) → T (live_container m h c) → T (is_some (find t c))
  has_list c k = key_found t c (omega (arith, live_home m h c k, w.same c))

  listed_once : (x c : ℕ) → container m h x ≡ some c → count x (list_at t c) ≡ 1
  unfolding some_and
  listed_once x c e = w.agree x c ∙ ap (λ (o : Option ℕ). one (at_home o c)) e ∙ ap one (eqb_same c)

  pub container_live : (x c : ℕ) → container m h x ≡ some c → T (live_container m h c)
  unfolding list_at or_empty
  container_live x c e = go (find t c) refl (listed_once x c e)
    where
      go : (o : Option (List ℕ)) → find t c ≡ o → count x (or_empty o) ≡ 1 → T (live_container m h c)
      go none z q = absurd (omega arith)
      go (some xs) z q = home_live m h c (omega (arith, found_key c t xs z, w.same c))

-- ---- nothing that the lists show has changed

pub record Alike (h k : History) : Type 0 where
  pub blk : (x : ℕ) → block_at k x ≡ block_at h x
  pub reg : (x : ℕ) → region_at k x ≡ region_at h x
  pub bks : (c : ℕ) → count c (keys k.blocks) ≡ count c (keys h.blocks)
  pub own : (c : ℕ) → owned c k.operations ≡ owned c h.operations

listed_alike : (m : Member) (h k : History) (t : Table (List ℕ)) → Alike h k → Listed m h t → Listed m k t
unfolding container
listed_alike operation h k t a w = record { agree = λ x c. w.agree x c ∙ ap (λ (o : Option ℕ). one (at_home o c)) (sym (a.blk x)); same = λ c. w.same c ∙ sym (a.bks c) }
listed_alike block h k t a w = record { agree = λ x c. w.agree x c ∙ ap (λ (o : Option ℕ). one (at_home o c)) (sym (a.reg x)); same = λ c. w.same c ∙ sym (a.own c) }

alike_change : (h k : History) (n : ℕ) (f : Operation → Operation) → k.operations ≡ change n f h.operations → k.blocks ≡ h.blocks → ((o : Operation) → (f o).block ≡ o.block) → ((o : Operation) → (f o).regions ≡ o.regions) → Alike h k
unfolding block_at region_at
alike_change h k n f e g f₁ f₂ = record {
  blk = λ x. ap (λ (t : Table Operation). block_of_op (find t x)) e ∙ block_kept n f f₁ h.operations x;
  reg = λ x. ap (λ (t : Table Block). region_of (find t x)) g;
  bks = λ c. ap (λ (t : Table Block). count c (keys t)) g;
  own = λ c. ap (owned c) e ∙ spread_same regions_in c n f h.operations f₂;
}

alike_slot : (h k : History) (sl : Slot) (n : ℕ) (f : List ℕ → List ℕ) → k.operations ≡ change n (change_slot sl f) h.operations → k.blocks ≡ h.blocks → Alike h k
alike_slot h k sl n f e g = alike_change h k n (change_slot sl f) e g (at_block sl) (at_regions sl)
  where
    at_block : (l : Slot) (o : Operation) → (change_slot l f o).block ≡ o.block
    at_block operand o = unfold change_slot in refl
    at_block successor o = unfold change_slot in refl

    at_regions : (l : Slot) (o : Operation) → (change_slot l f o).regions ≡ o.regions
    at_regions operand o = unfold change_slot in refl
    at_regions successor o = unfold change_slot in refl

alike_blocks : (h k : History) (n : ℕ) (f : Block → Block) → k.blocks ≡ change n f h.blocks → k.operations ≡ h.operations → ((b : Block) → (f b).region ≡ b.region) → Alike h k
unfolding block_at region_at
alike_blocks h k n f e g f₁ = record {
  blk = λ x. ap (λ (t : Table Operation). block_of_op (find t x)) g;
  reg = λ x. ap (λ (t : Table Block). region_of (find t x)) e ∙ region_kept n f f₁ h.blocks x;
  bks = λ c. ap (λ (t : Table Block). count c (keys t)) e ∙ ap (count c) (keys_change n f h.blocks);
  own = λ c. ap (owned c) g;
}

alike_values : (m : Member) (n : ℕ) (f : List ℕ → List ℕ) (h : History) → Alike h (change_values m n f h)
unfolding change_values with_operations with_blocks change_results change_arguments
alike_values operation n f h = alike_change h _ n (change_results f) refl refl (λ o. refl) (λ o. refl)
alike_values block n f h = alike_blocks h _ n (change_arguments f) refl refl (λ o. refl)

alike_same : (h k : History) → k.operations ≡ h.operations → k.blocks ≡ h.blocks → Alike h k
unfolding block_at region_at
alike_same h k e g = record {
  blk = λ x. ap (λ (t : Table Operation). block_of_op (find t x)) e;
  reg = λ x. ap (λ (t : Table Block). region_of (find t x)) g;
  bks = λ c. ap (λ (t : Table Block). count c (keys t)) g;
  own = λ c. ap (owned c) e;
}

alike_chosen : (c : Bool) (h : History) (us : Table Definition) → Alike h (cond c h (with_uses h us))
unfolding with_uses
alike_chosen true h us = alike_same h h refl refl
alike_chosen false h us = alike_same h _ refl refl

alike_drop : (t : Thing) (h : History) → Alike h (drop_inside t h)
unfolding drop_inside end_uses with_operations block_at region_at
alike_drop t h = record {
  blk = λ x. block_kept_all (λ n. cond (operation_in h t n) emptied (λ o. o)) (λ n o. at_block (operation_in h t n) o) h.operations x;
  reg = λ x. refl;
  bks = λ c. refl;
  own = λ c. weigh_all_same (λ (x : Operation). count c x.regions) (λ n. cond (operation_in h t n) emptied (λ o. o)) h.operations (λ n o. ap (count c) (at_regions (operation_in h t n) o));
}
  where
    at_block : (c : Bool) (o : Operation) → (cond c emptied (λ q. q) o).block ≡ o.block
    at_block true o = unfold emptied change_slot in refl
    at_block false o = refl

    at_regions : (c : Bool) (o : Operation) → (cond c emptied (λ q. q) o).regions ≡ o.regions
    at_regions true o = unfold emptied change_slot in refl
    at_regions false o = refl

-- a region handed over is still owned once
alike_hand_over : (q o c : ℕ) (h : History) (p : Option ℕ) → parent h q ≡ p → Rising 0 c h.operations → IsFound h (operation_named o) → Alike h (hand_over q p o h)
unfolding hand_over with_operations parent change_regions
alike_hand_over q o c h none e k l = alike_same h h refl refl
alike_hand_over q o c h (some p) e k l = go (eqb p o) refl
  where
    a : (x : Operation) × (find h.operations p ≡ some x) × T (member q x.regions)
    a = parent_found q 0 c h.operations p k e

    d : (x : Operation) × (find h.operations o ≡ some x)
    d = found_operation h o l

    out : Operation → Operation
    out = change_regions (swap_out q)

    into : Operation → Operation
    into = change_regions (λ xs. xs ++ (q ∷ []))

    away : Table Operation
    away = change p (change_regions (swap_out q)) h.operations

    go : (x : Bool) → eqb p o ≡ x → Alike h (cond x h (with_operations h (change o (change_regions (λ xs. xs ++ (q ∷ []))) away)))
    go true z = alike_same h h refl refl
    go false z = record {
      blk = λ x. unfold block_at in (block_kept o (change_regions (λ xs. xs ++ (q ∷ []))) (λ y. refl) away x ∙ block_kept p (change_regions (swap_out q)) (λ y. refl) h.operations x);
      reg = λ x. unfold region_at in refl;
      bks = λ x. refl;
      own = λ r. omega (
        arith,
        weigh_change (λ (x : Operation). count r x.regions) p 0 c (change_regions (swap_out q)) h.operations a.0 k a.1,
        count_swap_out r q a.0.regions a.2,
        weigh_change (λ (x : Operation). count r x.regions) o 0 c (change_regions (λ xs. xs ++ (q ∷ []))) away d.0 (s_change p (change_regions (swap_out q)) (record { rising = k })).rising (find_other p o (change_regions (swap_out q)) h.operations z ∙ d.1),
        count_append r d.0.regions (q ∷ []),
      );
    }

-- ---- linked and unlinked

-- the block or region of each thing after one was put elsewhere
put_home : (m : Member) (x : ℕ) (v : Option ℕ) (h : History) → IsFound h (member_named m x) → (y : ℕ) → container m (put_in m x v h) y ≡ cond (eqb x y) v (container m h y)
unfolding container member_named
put_home operation x v h l y = go (eqb x y) refl
  where
    a : (o : Operation) × (find h.operations x ≡ some o)
    a = found_operation h x l

    go : (b : Bool) → eqb x y ≡ b → block_at (put_in operation x v h) y ≡ cond (eqb x y) v (block_at h y)
    go true z = rw z (ap (block_at (put_in operation x v h)) (sym (eqb→eq x y (is_true z))) ∙ put_block x v h a.0 a.1)
    go false z = rw z (block_other x y v h z)
put_home block x v h l y = go (eqb x y) refl
  where
    a : (o : Block) × (find h.blocks x ≡ some o)
    a = found_block_entry h x l

    go : (b : Bool) → eqb x y ≡ b → region_at (put_in block x v h) y ≡ cond (eqb x y) v (region_at h y)
    go true z = rw z (ap (region_at (put_in block x v h)) (sym (eqb→eq x y (is_true z))) ∙ put_region x v h a.0 a.1)
    go false z = rw z (region_other x y v h z)

put_homes : (m w : Member) (x : ℕ) (v : Option ℕ) (h : History) (c : ℕ) → homes m c (put_in w x v h) ≡ homes m c h
unfolding put_in with_operations with_blocks into_block
put_homes operation operation x v h c = refl
put_homes operation block x v h c = ap (count c) (keys_change x (into_region v) h.blocks)
put_homes block operation x v h c = spread_same regions_in c x (into_block v) h.operations (λ o. refl)
put_homes block block x v h c = refl

-- a list in which x is new at c, and all else is as it was
put_listed : (m : Member) (x c : ℕ) (h : History) (t u : Table (List ℕ)) → IsFound h (member_named m x) → container m h x ≡ none → keys u ≡ keys t → ((y d : ℕ) → count y (list_at u d) ≡ cond (eqb c d) (one (eqb x y)) 0 + count y (list_at t d)) → Listed m h t → Listed m (put_in m x (some c) h) u
unfolding some_and
put_listed m x c h t u l free ks k w = record { agree = λ y d. k y d ∙ go y d (eqb x y) refl; same = λ d. ap (count d) ks ∙ w.same d ∙ sym (put_homes m m x (some c) h d) }
  where
    new : (y d : ℕ) → eqb x y ≡ true → count y (list_at t d) ≡ 0
    new y d z = w.agree y d ∙ ap (λ (o : Option ℕ). one (at_home o d)) (ap (container m h) (sym (eqb→eq x y (is_true z))) ∙ free)

    at : (b : Bool) (n : ℕ) → n ≡ 0 → cond b 1 0 + n ≡ one b
    at true n z = omega arith
    at false n z = omega arith

    zeros_only : (b : Bool) (n : ℕ) → cond b 0 0 + n ≡ n
    zeros_only true n = omega arith
    zeros_only false n = omega arith

    go : (y d : ℕ) (b : Bool) → eqb x y ≡ b → cond (eqb c d) (one (eqb x y)) 0 + count y (list_at t d) ≡ one (at_home (container m (put_in m x (some c) h) y) d)
    go y d true z = rw (put_home m x (some c) h l y) (rw z (at (eqb c d) (count y (list_at t d)) (new y d z)))
    go y d false z = rw (put_home m x (some c) h l y) (rw z (zeros_only (eqb c d) (count y (list_at t d)) ∙ w.agree y d))

member_home : (m : Member) (h : History) (t : Table (List ℕ)) → Listed m h t → (k c d : ℕ) → container m h k ≡ some c → member k (list_at t d) ≡ eqb c d
unfolding some_and
member_home m h t w k c d e = go (member k (list_at t d)) refl (eqb c d) refl
  where
    n : count k (list_at t d) ≡ one (eqb c d)
    n = w.agree k d ∙ ap (λ (o : Option ℕ). one (at_home o d)) e

    go : (a : Bool) → member k (list_at t d) ≡ a → (b : Bool) → eqb c d ≡ b → a ≡ b
    go true z true q = refl
    go true z false q = absurd (omega (arith, yes_member k (list_at t d) (is_true z), n, ap one q))
    go false z true q = absurd (omega (arith, no_member k (list_at t d) (subst (λ (x : Bool). T (not x)) (sym z) tt), n, ap one q))
    go false z false q = refl

-- after or before a mark
mark_listed : (m : Member) (x k c : ℕ) (h : History) (t : Table (List ℕ)) (f : List ℕ → List ℕ) → f [] ≡ [] → ((y : ℕ) (xs : List ℕ) → count y (f xs) ≡ cond (member k xs) (one (eqb x y)) 0 + count y xs) → IsFound h (member_named m x) → container m h x ≡ none → container m h k ≡ some c → Listed m h t → Listed m (put_in m x (container m h k) h) (change_all (λ _. f) t)
mark_listed m x k c h t f f₀ fc l free e w =
    subst (λ (o : Option ℕ). Listed m (put_in m x o h) (change_all (λ _. f) t)) (sym e)
    (put_listed m x c h t (change_all (λ _. f) t) l free (keys_change_all (λ _. f) t) (λ y d. ap (count y) (list_all f f₀ t d) ∙ fc y (list_at t d) ∙ ap (λ (b : Bool). cond b (one (eqb x y)) 0 + count y (list_at t d)) (member_home m h t w k c d e)) w)

-- at the front or the back of a container
end_listed : (m : Member) (x c : ℕ) (h : History) (t : Table (List ℕ)) (f : List ℕ → List ℕ) → ((y : ℕ) (xs : List ℕ) → count y (f xs) ≡ one (eqb x y) + count y xs) → IsFound h (member_named m x) → container m h x ≡ none → T (live_container m h c) → Listed m h t → Listed m (put_in m x (some c) h) (change c f t)
end_listed m x c h t f fc l free k w =
    put_listed m x c h t (change c f t) l free (keys_change c f t) (λ y d. ap (count y) (list_change c f t d (has_list m h t w c k)) ∙ go y d (eqb c d)) w
  where
    go : (y d : ℕ) (b : Bool) → count y (cond b (f (list_at t d)) (list_at t d)) ≡ cond b (one (eqb x y)) 0 + count y (list_at t d)
    go y d true = fc y (list_at t d)
    go y d false = omega arith

off_listed : (m : Member) (x : ℕ) (h : History) (t : Table (List ℕ)) → IsFound h (member_named m x) → Listed m h t → Listed m (put_in m x none h) (change_all (λ _. without x) t)
unfolding some_and
off_listed m x h t l w = record { agree = λ y d. ap (count y) (list_all (without x) nil t d) ∙ out y (list_at t d) ∙ go y d (eqb x y) refl; same = λ d. ap (count d) (keys_change_all (λ _. without x) t) ∙ w.same d ∙ sym (put_homes m m x none h d) }
  where
    nil : without x [] ≡ []
    nil = unfold without keep in refl

    turned : (b : Bool) (n : ℕ) → cond (not b) n 0 ≡ cond b 0 n
    turned true n = refl
    turned false n = refl

    out : (y : ℕ) (xs : List ℕ) → count y (without x xs) ≡ cond (eqb x y) 0 (count y xs)
    out y xs = unfold without in (count_keep y (λ z. not (eqb z x)) xs) ∙ turned (eqb y x) (count y xs) ∙ ap (λ (b : Bool). cond b 0 (count y xs)) (eqb_comm y x)

    go : (y d : ℕ) (b : Bool) → eqb x y ≡ b → cond (eqb x y) 0 (count y (list_at t d)) ≡ one (at_home (container m (put_in m x none h) y) d)
    go y d true z = rw (put_home m x none h l y) (rw z refl)
    go y d false z = rw (put_home m x none h l y) (rw z (w.agree y d))

-- the other sort's lists stay
put_alike : (m w : Member) (x : ℕ) (v : Option ℕ) (h : History) (t : Table (List ℕ)) → (m ≡ w → ⊥) → Listed m h t → Listed m (put_in w x v h) t
unfolding container put_in with_operations with_blocks
put_alike operation operation x v h t k w = absurd (k refl)
put_alike operation block x v h t k w = record { agree = λ y d. unfold block_at in (w.agree y d); same = λ d. w.same d ∙ sym (put_homes operation block x v h d) }
put_alike block operation x v h t k w = record { agree = λ y d. unfold region_at in (w.agree y d); same = λ d. w.same d ∙ sym (put_homes block operation x v h d) }
put_alike block block x v h t k w = absurd (k refl)

-- the edit's own sort, or the other one
for_sort : (m w : Member) (x : ℕ) (v : Option ℕ) (h : History) (t u : Table (List ℕ)) → (Listed w h t → Listed w (put_in w x v h) u) → Listed m h t → Listed m (put_in w x v h) (if_same m w u t)
unfolding if_same
for_sort operation operation x v h t u f w = f w
for_sort operation block x v h t u f w = put_alike operation block x v h t (λ e. let z : ◌≡◌ {A = ℕ} 0 1 = cc in omega arith) w
for_sort block operation x v h t u f w = put_alike block operation x v h t (λ e. let z : ◌≡◌ {A = ℕ} 0 1 = cc in omega arith) w
for_sort block block x v h t u f w = f w

-- ---- new things

new_home : (m : Member) (e : Edit) (h : History) → ((x : ℕ) → container m (carry_out e h) x ≡ container m h x) → ((c : ℕ) → homes m c (carry_out e h) ≡ homes m c h + count c (up (containers m h.born) (containers m (births e)))) → (t : Table (List ℕ)) → Sorted (containers m h.born) t → Listed m h t → Listed m (carry_out e h) (new_lists m e h t)
unfolding new_lists
new_home m e h f g t r w = record {
  agree = λ x c. ap (count x) (list_more (containers m h.born) (containers m (births e)) t c r) ∙ w.agree x c ∙ ap (λ (o : Option ℕ). one (at_home o c)) (sym (f x));
  same = λ c. omega (arith, w.same c, g c, keys_append c t (number (containers m h.born) empties), ap (count c) (keys_number (containers m h.born) empties ∙ ap (up (containers m h.born)) sizes));
}
  where
    empties : List (List ℕ)
    empties = replicate (containers m (births e)) []

    sizes : length empties ≡ containers m (births e)
    sizes = length-replicate (containers m (births e)) []

new_operation_listed : (m : Member) (fl : ℕ) (ts vs bs : List ℕ) (g : ℕ) (h : History) (t : Table (List ℕ)) → Sorted (containers m h.born) t → Listed m h t → Listed m (carry_out (new_operation fl ts vs bs g) h) (new_lists m (new_operation fl ts vs bs g) h t)
unfolding carry_out container births containers up
new_operation_listed operation fl ts vs bs g h t r w = new_home operation (new_operation fl ts vs bs g) h (λ x. unfold block_at block_of_op in (last_find block_of_op _ _ refl refl h.operations x)) (λ c. omega arith) t r w
new_operation_listed block fl ts vs bs g h t r w = new_home block (new_operation fl ts vs bs g) h (λ x. unfold region_at in refl) (λ c. spread_last c) t r w
  where
    made : Operation
    made = record { results = up h.born.values (length ts); operands = up h.born.uses (length vs); successors = up (h.born.uses + length vs) (length bs); regions = up h.born.regions g; block = none }

    spread_last : (c : ℕ) → owned c (h.operations ++ ((h.born.operations, made) ∷ [])) ≡ owned c h.operations + count c (up h.born.regions g)
    spread_last c = omega (arith, weigh_append (λ a. count c (regions_in a)) h.operations ((h.born.operations, made) ∷ []))

new_block_listed : (m : Member) (ts : List ℕ) (h : History) (t : Table (List ℕ)) → Sorted (containers m h.born) t → Listed m h t → Listed m (carry_out (new_block ts) h) (new_lists m (new_block ts) h t)
unfolding carry_out container births containers up with_blocks
new_block_listed operation ts h t r w = new_home operation (new_block ts) h (λ x. unfold block_at in refl) (λ c. omega (arith, keys_last c h.born.blocks (record { arguments = up h.born.values (length ts); region = none }) h.blocks)) t r w
new_block_listed block ts h t r w = new_home block (new_block ts) h (λ x. unfold region_at region_of in (last_find region_of _ _ refl refl h.blocks x)) (λ c. omega arith) t r w

-- ---- what has ended

still_listed : (m : Member) (h k : History) (t : Table (List ℕ)) → ((y : ℕ) → T (live_member m k y) → container m k y ≡ container m h y) → ((y : ℕ) → T (not (live_member m k y)) → container m k y ≡ none) → ((y c : ℕ) → T (live_member m k y) → container m h y ≡ some c → T (live_container m k c)) → ((c : ℕ) → T (live_container m k c) → homes m c k ≡ homes m c h) → Listed m h t → Listed m k (still_live m k t)
unfolding still_live some_and
still_listed m h k t cont gone stays kept w = record { agree = λ y d. counted y d ∙ go y d (live_member m k y) refl; same = λ c. ap (count c) (keys_change_all (λ _. keep (live_member m k)) (keep_keys (live_container m k) t)) ∙ homed c (live_container m k c) refl }
  where
    counted : (y d : ℕ) → count y (list_at (change_all (λ _. keep (live_member m k)) (keep_keys (live_container m k) t)) d) ≡ cond (live_member m k y) (count y (cond (live_container m k d) (list_at t d) [])) 0
    counted y d = ap (count y) (list_all (keep (live_member m k)) (unfold keep in refl) (keep_keys (live_container m k) t) d) ∙ count_keep y (live_member m k) (list_at (keep_keys (live_container m k) t) d) ∙ ap (λ (xs : List ℕ). cond (live_member m k y) (count y xs) 0) (list_kept (live_container m k) t d)

    holds : (y d : ℕ) → T (live_member m k y) → (o : Option ℕ) → container m h y ≡ o → (b : Bool) → live_container m k d ≡ b → count y (cond b (list_at t d) []) ≡ one (at_home o d)
    holds y d q none z true u = w.agree y d ∙ ap (λ (o : Option ℕ). one (at_home o d)) z
    holds y d q none z false u = refl
    holds y d q (some c) z true u = w.agree y d ∙ ap (λ (o : Option ℕ). one (at_home o d)) z
    holds y d q (some c) z false u = elsewhere (eqb c d) refl
      where
        elsewhere : (b : Bool) → eqb c d ≡ b → ◌≡◌ {A = ℕ} 0 (one (eqb c d))
        elsewhere true v = absurd (subst T (sym (ap (live_container m k) (sym (eqb→eq c d (is_true v)))) ∙ u) (stays y c q z))
        elsewhere false v = ap one (sym v)

    go : (y d : ℕ) (b : Bool) → live_member m k y ≡ b → cond (live_member m k y) (count y (cond (live_container m k d) (list_at t d) [])) 0 ≡ one (at_home (container m k y) d)
    go y d true z = rw (cont y (is_true z)) (rw z (holds y d (is_true z) (container m h y) refl (live_container m k d) refl))
    go y d false z = rw (gone y (subst (λ (b : Bool). T (not b)) (sym z) tt)) (rw z refl)

    homed : (c : ℕ) (b : Bool) → live_container m k c ≡ b → count c (keys (keep_keys (live_container m k) t)) ≡ homes m c k
    homed c true z = keys_kept c (live_container m k) t (is_true z) ∙ w.same c ∙ sym (kept c (is_true z))
    homed c false z = keys_gone c (live_container m k) t (subst (λ (b : Bool). T (not b)) (sym z) tt) ∙ none_left (homes m c k) refl
      where
        none_left : (n : ℕ) → homes m c k ≡ n → 0 ≡ n
        none_left zero q = refl
        none_left (suc n) q = absurd (subst T z (home_live m k c (omega arith)))

-- what an erasure of t leaves
record Erased (t : Thing) (h k : History) : Type 0 where
  out : (y : ℕ) → T (live_operation k y) → T (not (operation_in h t y))
  old : (y : ℕ) → T (live_operation k y) → T (live_operation h y)
  blk : (y : ℕ) → T (live_operation k y) → block_at k y ≡ block_at h y
  bks : k.blocks ≡ keep_keys (λ n. not (block_in h t n)) h.blocks
  less : (r : ℕ) → owned r k.operations ≤ owned r h.operations
  kept : (r p : ℕ) → parent h r ≡ some p → T (not (region_in h t r)) → 1 ≤ owned r k.operations

-- a number that is kept passes, and names what it named
kept_find : {A : Type 0} (p : ℕ → Bool) (t : Table A) (y : ℕ) → T (is_some (find (keep_keys p t) y)) → T (p y) × (find (keep_keys p t) y ≡ find t y)
unfolding is_some
kept_find p t y k = go (p y) refl (subst (λ (o : Option _). T (is_some o)) (find_keeps p t y) k)
  where
    go : (b : Bool) → p y ≡ b → T (is_some (cond (p y) (find t y) none)) → T (p y) × (find (keep_keys p t) y ≡ find t y)
    go true z q = (is_true z, find_keeps p t y ∙ rw z refl)
    go false z q = absurd (rw z at q)

block_gone : (k : History) (y : ℕ) → T (not (live_operation k y)) → block_at k y ≡ none
unfolding live_operation block_at block_of_op is_some
block_gone k y q = go (find k.operations y) q
  where
    go : (o : Option Operation) → T (not (is_some o)) → block_of_op o ≡ none
    go none z = refl
    go (some a) z = absurd z

region_gone : (k : History) (y : ℕ) → T (not (live_block k y)) → region_at k y ≡ none
unfolding live_block region_at region_of is_some
region_gone k y q = go (find k.blocks y) q
  where
    go : (o : Option Block) → T (not (is_some o)) → region_of o ≡ none
    go none z = refl
    go (some a) z = absurd z

-- the block of an operation outside t is outside t
up_out : (ns : List ℕ) (h : History) → Nested ns h → (t : Thing) (y c : ℕ) → T (member y ns) → block_at h y ≡ some c → T (not (operation_in h t y)) → T (not (block_in h t c))
unfolding block_in block_climb region_climb some_and
up_out ns h n t y c q e k = go (is_block t c || some_and (region_at h c) (region_climb h t (operation_in h t))) refl
  where
    step : operation_in h t y ≡ direct h t y || some_and (over h y) (operation_in h t)
    step = inside_step ns h n t y q

    inside : T (is_block t c) ⊎ T (some_and (region_at h c) (region_climb h t (operation_in h t))) → T (operation_in h t y)
    inside (inl x) = subst T (sym step) (or_l (direct h t y) (some_and (over h y) (operation_in h t)) (unfold direct in (or_r (is_operation t y) (some_and (block_at h y) (λ b. is_block t b || some_and (region_at h b) (is_region t))) (subst (λ (o : Option ℕ). T (some_and o (λ b. is_block t b || some_and (region_at h b) (is_region t)))) (sym e) (or_l (is_block t c) (some_and (region_at h c) (is_region t)) x)))))
    inside (inr x) = at (region_at h c) refl x
      where
        at : (o : Option ℕ) → region_at h c ≡ o → T (some_and o (region_climb h t (operation_in h t))) → T (operation_in h t y)
        at none z v = absurd v
        at (some r) z v = pick (or_split (is_region t r) (some_and (parent h r) (operation_in h t)) v)
          where
            pick : T (is_region t r) ⊎ T (some_and (parent h r) (operation_in h t)) → T (operation_in h t y)
            pick (inl u) = subst T (sym step) (or_l (direct h t y) (some_and (over h y) (operation_in h t)) (unfold direct in (or_r (is_operation t y) (some_and (block_at h y) (λ b. is_block t b || some_and (region_at h b) (is_region t))) (subst (λ (o : Option ℕ). T (some_and o (λ b. is_block t b || some_and (region_at h b) (is_region t)))) (sym e) (or_r (is_block t c) (some_and (region_at h c) (is_region t)) (subst (λ (o : Option ℕ). T (some_and o (is_region t))) (sym z) u))))))
            pick (inr u) = subst T (sym step) (or_r (direct h t y) (some_and (over h y) (operation_in h t)) (unfold over in (subst (λ (o : Option ℕ). T (some_and (next o (λ b. next (region_at h b) (parent h))) (operation_in h t))) (sym e) (subst (λ (o : Option ℕ). T (some_and (next o (parent h)) (operation_in h t))) (sym z) u))))

    go : (b : Bool) → is_block t c || some_and (region_at h c) (region_climb h t (operation_in h t)) ≡ b → T (not b)
    go true z = absurd (against (operation_in h t y) k (inside (or_split (is_block t c) (some_and (region_at h c) (region_climb h t (operation_in h t))) (is_true z))))
    go false z = tt

-- the region of a block outside t is outside t
region_up_out : (h : History) (t : Thing) (b r : ℕ) → region_at h b ≡ some r → T (not (block_in h t b)) → T (not (region_in h t r))
unfolding block_in block_climb region_in some_and
region_up_out h t b r e k = subst (λ (o : Option ℕ). T (not (some_and o (region_climb h t (operation_in h t))))) e (not_or (is_block t b) (some_and (region_at h b) (region_climb h t (operation_in h t))) k).1

erased_listed : (m : Member) (b d : ℕ) (t : Thing) (h k : History) (u : Table (List ℕ)) → Hung b h → Sorted d h.operations → Owned b h.operations → Erased t h k → Listed m h u → Listed m k (still_live m k u)
unfolding container live_member live_container
erased_listed operation b d t h k u hu so ow e w = still_listed operation h k u e.blk (block_gone k) stays homed w
  where
    stays : (y c : ℕ) → T (live_operation k y) → block_at h y ≡ some c → T (live_block k c)
    stays y c q z =
        let inn : T (member y hu.list) = is_member y hu.list (omega (arith, hu.nested.same y, found_count h.operations y (unfold live_operation in (e.old y q)))) in
        let live : T (live_block h c) = unfold live_container in (container_live operation h u w y c z) in
        keep_live c (up_out hu.list h hu.nested t y c inn z (e.out y q)) live
      where
        keep_live : (n : ℕ) → T (not (block_in h t n)) → T (live_block h n) → T (live_block k n)
        keep_live n x v = unfold live_block in (subst (λ (bs : Table Block). T (is_some (find bs n))) (sym e.bks) (subst (λ (o : Option Block). T (is_some o)) (sym (find_keeps (λ a. not (block_in h t a)) h.blocks n ∙ rw (yes (not (block_in h t n)) x) refl)) (unfold live_block in v)))

    homed : (c : ℕ) → T (live_block k c) → count c (keys k.blocks) ≡ count c (keys h.blocks)
    homed c q = ap (λ (bs : Table Block). count c (keys bs)) e.bks ∙ keys_kept c (λ a. not (block_in h t a)) h.blocks (kept_find (λ a. not (block_in h t a)) h.blocks c (subst (λ (bs : Table Block). T (is_some (find bs c))) e.bks (unfold live_block in q))).0
erased_listed block b d t h k u hu so ow e w = still_listed block h k u same (region_gone k) stays homed w
  where
    found : (y : ℕ) → T (live_block k y) → T (not (block_in h t y)) × (find k.blocks y ≡ find h.blocks y)
    found y q = let f = kept_find (λ a. not (block_in h t a)) h.blocks y (subst (λ (bs : Table Block). T (is_some (find bs y))) e.bks (unfold live_block in q)) in (f.0, ap (λ (bs : Table Block). find bs y) e.bks ∙ f.1)

    same : (y : ℕ) → T (live_block k y) → region_at k y ≡ region_at h y
    same y q = unfold region_at in (ap region_of (found y q).1)

    stays : (y r : ℕ) → T (live_block k y) → region_at h y ≡ some r → T (live_region k r)
    stays y r q z = go (parent h r) refl (unfold live_container live_region in (container_live block h u w y r z))
      where
        go : (o : Option ℕ) → parent h r ≡ o → T (is_some o) → T (live_region k r)
        go none v x = unfold is_some in (absurd x)
        go (some p) v x = owned_live k r (e.kept r p v (region_up_out h t y r z (found y q).0))

    homed : (c : ℕ) → T (live_region k c) → owned c k.operations ≡ owned c h.operations
    homed c q = omega (arith, live_owned k c q, e.less c, ow.once c)

erased_thing : (t : Thing) (d : ℕ) (h k : History) → Sorted d h.operations → k.operations ≡ keep_keys (λ n. not (operation_in h t n)) h.operations → k.blocks ≡ keep_keys (λ n. not (block_in h t n)) h.blocks → Erased t h k
unfolding live_operation block_at
erased_thing t d h k so e g = record {
  out = λ y q. (found y q).0;
  old = λ y q. subst (λ (o : Option Operation). T (is_some o)) (found y q).1 q;
  blk = λ y q. ap block_of_op (found y q).1;
  bks = g;
  less = λ r. omega (arith, ap (owned r) e, weigh_keep (λ (x : Operation). count r x.regions) (λ n. not (operation_in h t n)) h.operations);
  kept = λ r p z x. let a = parent_found r 0 d h.operations p so.rising (unfold parent in z) in found_owned r p k.operations a.0 (stays r p a.0 z x a.1) a.2;
}
  where
    found : (y : ℕ) → T (is_some (find k.operations y)) → T (not (operation_in h t y)) × (find k.operations y ≡ find h.operations y)
    found y q = let f = kept_find (λ n. not (operation_in h t n)) h.operations y (subst (λ (os : Table Operation). T (is_some (find os y))) e q) in (f.0, ap (λ (os : Table Operation). find os y) e ∙ f.1)

    stays : (r p : ℕ) (a : Operation) → parent h r ≡ some p → T (not (region_in h t r)) → find h.operations p ≡ some a → find k.operations p ≡ some a
    stays r p a z x f = ap (λ (os : Table Operation). find os p) e ∙ find_keeps (λ n. not (operation_in h t n)) h.operations p ∙ rw (yes (not (operation_in h t p)) (region_out h t r p x z)) f

pub is_some_change : {A : Type 0} (n : ℕ) (f : A → A) (t : Table A) (y : ℕ) → is_some (find (change n f t) y) ≡ is_some (find t y)
unfolding is_some
is_some_change n f t y = find_alike is_some n f t y (λ a. refl)

erased_region : (n i d : ℕ) (h k : History) → Sorted d h.operations → k.operations ≡ change n (change_regions (remove_at i)) (keep_keys (λ y. not (operation_in h (the_region (region_index n i h)) y)) h.operations) → k.blocks ≡ keep_keys (λ y. not (block_in h (the_region (region_index n i h)) y)) h.blocks → Erased (the_region (region_index n i h)) h k
unfolding live_operation block_at end_inside
erased_region n i d h k so e g = record {
  out = λ y q. E.out y (back y q);
  old = λ y q. E.old y (back y q);
  blk = λ y q. ap (λ (os : Table Operation). block_of_op (find os y)) e ∙ block_kept n (change_regions (remove_at i)) (λ o. unfold change_regions in refl) M.operations y ∙ E.blk y (back y q);
  bks = g;
  less = λ r. omega (arith, ap (owned r) e, weigh_less (λ (x : Operation). count r x.regions) n (change_regions (remove_at i)) M.operations (λ o. unfold change_regions in (count_remove_le r i o.regions)), E.less r);
  kept = λ r p z x. let a = parent_found r 0 d h.operations p so.rising (unfold parent in z) in found_owned r p k.operations (after p a.0) (stays r p a.0 z x a.1) (still r p a.0 a.1 a.2 x);
}
  where
    t : Thing
    t = the_region (region_index n i h)

    M : History
    M = end_inside t h

    E : Erased t h M
    E = erased_thing t d h M so (unfold end_inside in refl) (unfold end_inside in refl)

    now : k.operations ≡ change n (change_regions (remove_at i)) M.operations
    now = unfold end_inside in e

    back : (y : ℕ) → T (is_some (find k.operations y)) → T (is_some (find M.operations y))
    back y q = subst T (is_some_change n (change_regions (remove_at i)) M.operations y) (subst (λ (os : Table Operation). T (is_some (find os y))) now q)

    after : ℕ → Operation → Operation
    after p a = cond (eqb n p) (change_regions (remove_at i) a) a

    at : (b : Bool) (a : Operation) → cond b (omap (change_regions (remove_at i)) (some a)) (some a) ≡ some (cond b (change_regions (remove_at i) a) a)
    at true a = refl
    at false a = refl

    stays : (r p : ℕ) (a : Operation) → parent h r ≡ some p → T (not (region_in h t r)) → find h.operations p ≡ some a → find k.operations p ≡ some (after p a)
    stays r p a z x f =
        let m : find M.operations p ≡ some a = unfold end_inside in (find_keeps (λ y. not (operation_in h t y)) h.operations p ∙ rw (yes (not (operation_in h t p)) (region_out h t r p x z)) f) in
        ap (λ (os : Table Operation). find os p) now ∙ find_changes n (change_regions (remove_at i)) M.operations p ∙ rw m (at (eqb n p) a)

    still : (r p : ℕ) (a : Operation) → find h.operations p ≡ some a → T (member r a.regions) → T (not (region_in h t r)) → T (member r (after p a).regions)
    still r p a f q x = go (eqb n p) refl
      where
        other : T (not (eqb (region_index n i h) r))
        other = unfold is_region in (not_or (is_region t r) (some_and (parent h r) (operation_in h t)) (unfold region_in region_climb in x)).0

        there : n ≡ p → region_index n i h ≡ get_or a.regions i 0
        there z = unfold region_index regions_of in (ap (λ (o : Option Operation). get_or (regions_of o) i 0) (ap (find h.operations) z ∙ f))

        left : n ≡ p → T (member r (change_regions (remove_at i) a).regions)
        left z = unfold change_regions in (member_remove r i a.regions (subst (λ (v : ℕ). T (not (eqb v r))) (there z) other) q)

        go : (b : Bool) → eqb n p ≡ b → T (member r (cond (eqb n p) (change_regions (remove_at i) a) a).regions)
        go true z = rw z (left (eqb→eq n p (is_true z)))
        go false z = rw z q

-- ---- every edit

found_container : (m : Member) (h : History) (c : ℕ) → IsFound h (container_named m c) → T (live_container m h c)
unfolding IsFound container_named live_container missing check
found_container operation h c = go (live_block h c)
  where
    go : (b : Bool) → T (eqb (check b 0 8) 0) → T b
    go true t = tt
    go false t = t
found_container block h c = go (live_region h c)
  where
    go : (b : Bool) → T (eqb (check b 0 9) 0) → T b
    go true t = tt
    go false t = t

unlinked : (m : Member) (h : History) (x : ℕ) → T (not (is_linked h m x)) → container m h x ≡ none
unfolding is_linked is_some
unlinked m h x = go (container m h x)
  where
    go : (o : Option ℕ) → T (not (is_some o)) → o ≡ none
    go none k = refl
    go (some c) k = absurd k

born_listed : (m : Member) (e : Edit) (h : History) (u : Table (List ℕ)) → Listed m (carry_out e h) u → Listed m (remember e h) u
unfolding remember bear
born_listed m e h u w = listed_alike m (carry_out e h) (remember e h) u (alike_same (carry_out e h) (remember e h) refl refl) w

link_mark : (m q : Member) (x c : ℕ) (s : State) (t : Table (List ℕ)) (f : List ℕ → List ℕ) → f [] ≡ [] → ((y : ℕ) (xs : List ℕ) → count y (f xs) ≡ cond (member c xs) (one (eqb x y)) 0 + count y xs) → IsFound s.history (member_named q x) → T (eqb (check (is_linked s.history q x) 15 (mark_tests s q x (container q s.history c))) 0) → Listed m s.history t → Listed m (put_in q x (container q s.history c) s.history) (if_same m q (change_all (λ _. f) t) t)
link_mark m q x c s t f f₀ fc l k w =
    let z = zero_first (is_linked s.history q x) 15 (mark_tests s q x (container q s.history c)) tt k in
    let d = marked s q x (container q s.history c) z.1 in
    for_sort m q x (container q s.history c) s.history t (change_all (λ _. f) t) (mark_listed q x c d.0 s.history t f f₀ fc l (unlinked q s.history x z.0) d.1) w

link_end : (m q : Member) (x c : ℕ) (s : State) (t : Table (List ℕ)) (f : List ℕ → List ℕ) → ((y : ℕ) (xs : List ℕ) → count y (f xs) ≡ one (eqb x y) + count y xs) → IsFound s.history (member_named q x) → IsFound s.history (container_named q c) → T (eqb (check (is_linked s.history q x) 15 (check (contained_in s.history q x c) 17 0)) 0) → Listed m s.history t → Listed m (put_in q x (some c) s.history) (if_same m q (change c f t) t)
link_end m q x c s t f fc l d k w =
    for_sort m q x (some c) s.history t (change c f t) (end_listed q x c s.history t f fc l (unlinked q s.history x (zero_first (is_linked s.history q x) 15 (check (contained_in s.history q x c) 17 0) tt k).0) (found_container q s.history c d)) w

listed_edit : (m : Member) (e : Edit) (s : State) (t : Table (List ℕ)) → Nesting s → Sorted (containers m s.history.born) t → All (IsFound s.history) (named e) → T (eqb (from_state s e) 0) → Listed m s.history t → Listed m (remember e s.history) (order m e s.history (remember e s.history) t)
unfolding order named from_state
listed_edit m (new_operation fl ts vs bs g) s t n r l k w = born_listed m (new_operation fl ts vs bs g) s.history _ (new_operation_listed m fl ts vs bs g s.history t r w)
listed_edit m (new_block ts) s t n r l k w = born_listed m (new_block ts) s.history _ (new_block_listed m ts s.history t r w)
listed_edit m (push_use sl o d) s t n r l k w = listed_alike m s.history _ t (unfold remember bear carry_out add_use in (alike_slot s.history _ sl o _ refl refl)) w
listed_edit m (insert_use sl o i d) s t n r l k w = listed_alike m s.history _ t (unfold remember bear carry_out add_use in (alike_slot s.history _ sl o _ refl refl)) w
listed_edit m (replace_use sl o i d) s t n r l k w = listed_alike m s.history _ t (unfold remember bear carry_out add_use end_uses in (alike_slot s.history _ sl o _ refl refl)) w
listed_edit m (remove_use sl o i) s t n r l k w = listed_alike m s.history _ t (unfold remember bear carry_out take_use end_uses with_operations in (alike_slot s.history _ sl o _ refl refl)) w
listed_edit m (pop_use sl o) s t n r l k w = listed_alike m s.history _ t (unfold remember bear carry_out take_use end_uses with_operations in (alike_slot s.history _ sl o _ refl refl)) w
listed_edit m (push_value q o ty) s t n r l k w = born_listed m (push_value q o ty) s.history t (unfold carry_out in (listed_alike m s.history _ t (alike_values q o _ s.history) w))
listed_edit m (insert_value q o i ty) s t n r l k w = born_listed m (insert_value q o i ty) s.history t (unfold carry_out in (listed_alike m s.history _ t (alike_values q o _ s.history) w))
listed_edit m (remove_value q o i) s t n r l k w = born_listed m (remove_value q o i) s.history t (unfold carry_out in (listed_alike m s.history _ t (alike_values q o _ s.history) w))
listed_edit m (pop_value q o) s t n r l k w = born_listed m (pop_value q o) s.history t (unfold carry_out in (listed_alike m s.history _ t (alike_values q o _ s.history) w))
listed_edit m (link_after q x c) s t n r l k w = born_listed m (link_after q x c) s.history _ (unfold carry_out in (link_mark m q x c s t (put_after c x) (unfold put_after in refl) (λ y xs. count_after y c x xs) l.0 k w))
listed_edit m (link_before q x c) s t n r l k w = born_listed m (link_before q x c) s.history _ (unfold carry_out in (link_mark m q x c s t (put_before c x) (unfold put_before in refl) (λ y xs. count_before y c x xs) l.0 k w))
listed_edit m (link_front q x c) s t n r l k w = born_listed m (link_front q x c) s.history _ (unfold carry_out in (link_end m q x c s t (λ xs. x ∷ xs) (λ y xs. refl) l.0 l.1.0 k w))
listed_edit m (link_back q x c) s t n r l k w = born_listed m (link_back q x c) s.history _ (unfold carry_out in (link_end m q x c s t (λ xs. xs ++ (x ∷ [])) (λ y xs. omega (arith, count_append y xs (x ∷ []))) l.0 l.1.0 k w))
listed_edit m (unlink q x) s t n r l k w = born_listed m (unlink q x) s.history _ (unfold carry_out in (for_sort m q x none s.history t _ (off_listed q x s.history t l.0) w))
listed_edit m (move_region q o) s t n r l k w = born_listed m (move_region q o) s.history t (unfold carry_out in (listed_alike m s.history _ t (alike_hand_over q o _ s.history (parent s.history q) refl n.owning.ordered.ops.rising l.1.0) w))
listed_edit m (move_use sl a u b) s t n r l k w = born_listed m (move_use sl a u b) s.history t (unfold carry_out in (listed_alike m s.history _ t (alike_chosen (eqb a b) s.history (change u (λ _. defined sl b) s.history.uses)) w))
listed_edit m (replace_some a b us) s t n r l k w = listed_alike m s.history _ t (unfold remember bear carry_out place_some with_uses in (alike_same s.history _ refl refl)) w
listed_edit m (retarget_some a b ps) s t n r l k w = listed_alike m s.history _ t (unfold remember bear carry_out place_some with_uses in (alike_same s.history _ refl refl)) w
listed_edit m (drop_uses th) s t n r l k w = born_listed m (drop_uses th) s.history t (unfold carry_out in (listed_alike m s.history _ t (alike_drop th s.history) w))
listed_edit m (erase_operation x) s t n r l k w = erased_listed m _ _ (the_operation x) s.history _ t n.hung n.owning.ordered.ops n.owning.regions (unfold remember bear carry_out end_inside in (erased_thing (the_operation x) _ s.history _ n.owning.ordered.ops refl refl)) w
listed_edit m (erase_block x) s t n r l k w = erased_listed m _ _ (the_block x) s.history _ t n.hung n.owning.ordered.ops n.owning.regions (unfold remember bear carry_out end_inside in (erased_thing (the_block x) _ s.history _ n.owning.ordered.ops refl refl)) w
listed_edit m (erase_region o i) s t n r l k w = erased_listed m _ _ (the_region (region_index o i s.history)) s.history _ t n.hung n.owning.ordered.ops n.owning.regions (unfold remember bear carry_out end_inside with_operations in (erased_region o i _ s.history _ n.owning.ordered.ops refl refl)) w
listed_edit m (verdict th) s t n r l k w = listed_alike m s.history _ t (unfold remember bear carry_out in (alike_same s.history _ refl refl)) w

lists_sorted : (m : Member) (s : State) → Ordered s → Sorted (containers m s.history.born) (lists m s.orders)
unfolding containers lists
lists_sorted operation s o = o.lists
lists_sorted block s o = o.blists

lists_after : (m : Member) (e : Edit) (s : State) → lists m (accept e s).orders ≡ order m e s.history (remember e s.history) (lists m s.orders)
unfolding lists accept reorder
lists_after operation e s = refl
lists_after block e s = refl

pub listed_accept : (m : Member) (e : Edit) (s : State) → T (eqb (refusal_of s e) 0) → Nesting s → Listed m s.history (lists m s.orders) → Listed m (accept e s).history (lists m (accept e s).orders)
listed_accept m e s k n w = subst (Listed m (accept e s).history) (sym (lists_after m e s)) (unfold accept refusal_of in (listed_edit m e s (lists m s.orders) n (lists_sorted m s n.owning.ordered) (all_found s.history (named e) (or_else_zero (first_missing s.history (named e)) (from_state s e) k).0) (or_else_zero (first_missing s.history (named e)) (from_state s e) k).1 w))

pub listed_start : (m : Member) (k : Five) → Listed m (start k).history (lists m (start k).orders)
unfolding start begin lists no_orders list_at or_empty find keys container block_at region_at block_of_op region_of some_and
listed_start operation k = record { agree = λ x c. refl; same = λ c. refl }
listed_start block k = record { agree = λ x c. refl; same = λ c. refl }
