-- No list of an operation or block grows past 64 entries, in every sound state and for every edit that was read from a record. Assumes nothing.
use mathlib.Core.Path.{◌≡◌, refl, sym, ap, subst, ◌∙◌}
use mathlib.Core.Logic.{◌⊎◌, inl, inr}
use mathlib.Core.Bool.{Bool, true, false, not, cond}
use mathlib.Core.List.{List, [], ◌∷◌, ◌++◌}
use mathlib.Core.Option.{Option, none, some}
use Prim.Native.Nat.{ℕ, zero, suc, ◌+◌, ◌-◌, ◌≤◌, ◌<◌}
use native.Mathlib.Omega.{arith}
use borrow.Author.Tests.{eqb-false}
use lib.Dec.{T, eqb, leb, ltb, eqb→eq, nleb→lt}
use lib.ListN.{length, set, length-append, length-set}
use Rattle.rules.specs.Table.{Table, find, change, insert_at, remove_at, swap, swap_out, last_of, front_of, some_and}
use Rattle.edit.specs.Record.{Slot, operand, successor, Member, operation, block, Thing, the_operation, the_block, the_region, Edit, new_operation, new_block, push_use, insert_use, replace_use, remove_use, pop_use, push_value, insert_value, remove_value, pop_value, link_after, link_before, link_front, link_back, unlink, move_region, move_use, replace_some, retarget_some, drop_uses, erase_operation, erase_block, erase_region, verdict}
use Rattle.rules.proofs.Read.{Small}
use Rattle.rules.specs.History.{Operation, Block, History, carry_out, slot_of, uses_in, change_slot, change_results, change_regions, change_arguments, into_block, into_region, with_operations, with_blocks, with_uses, end_uses, add_use, take_use, change_values, values_at, results_of, arguments_of, regions_of, put_in, container, emptied, region_index, drop_inside, end_inside, hand_over, place_some, operation_in, block_in, parent, defined}
use Rattle.rules.specs.State.{State}
use Rattle.rules.specs.Refusal.{check, from_state, slot_length, values_length, no_room}
use Rattle.rules.proofs.Tables.{Every, Every-append, Every-keep, Every-change_all, Every-at, Every-change}
use Rattle.rules.proofs.Live.{zero_first}
use Rattle.rules.proofs.Places.{length_up}
use Rattle.rules.proofs.Laws.{is_true, find_other}
use Rattle.rules.proofs.Rising.{Sorted, Ordered, s_change}

pub record Short (o : Operation) : Type 0 where
  pub res : length o.results ≤ 64
  pub opd : length o.operands ≤ 64
  pub suc' : length o.successors ≤ 64
  pub reg : length o.regions ≤ 64

pub record ShortBlock (b : Block) : Type 0 where
  pub arg : length b.arguments ≤ 64

pub record Within (h : History) : Type 0 where
  pub ops : Every Short h.operations
  pub blks : Every ShortBlock h.blocks

-- ---- lengths

insert_length : (i a : ℕ) (xs : List ℕ) → length (insert_at i a xs) ≡ suc (length xs)
unfolding insert_at
insert_length zero a xs = refl
insert_length (suc i) a [] = refl
insert_length (suc i) a (x ∷ xs) = ap suc (insert_length i a xs)

remove_length : (i : ℕ) (xs : List ℕ) → length (remove_at i xs) ≤ length xs
unfolding remove_at
remove_length i [] = omega arith
remove_length zero (x ∷ xs) = omega arith
remove_length (suc i) (x ∷ xs) = omega (arith, remove_length i xs)

swap_length : (n a : ℕ) (xs : List ℕ) → length (swap n a xs) ≡ length xs
unfolding swap
swap_length n a [] = refl
swap_length n a (x ∷ xs) = go (eqb x n) (swap_length n a xs)
  where
    go : (b : Bool) → length (swap n a xs) ≡ length xs → length (cond b (a ∷ xs) (x ∷ swap n a xs)) ≡ suc (length xs)
    go true ih = refl
    go false ih = ap suc ih

front_length : (x : ℕ) (xs : List ℕ) → length (front_of x xs) ≡ length xs
unfolding front_of
front_length x [] = refl
front_length x (y ∷ ys) = ap suc (front_length y ys)

swap_out_length : (n : ℕ) (xs : List ℕ) → length (swap_out n xs) ≤ length xs
unfolding swap_out
swap_out_length n [] = omega arith
swap_out_length n (x ∷ xs) = omega (arith, swap_length n (last_of x xs) (front_of x xs), front_length x xs)

-- ---- the edits

slot_short : (sl : Slot) (f : List ℕ → List ℕ) (a : Operation) → length (f (uses_in sl a)) ≤ 64 → Short a → Short (change_slot sl f a)
unfolding change_slot uses_in
slot_short operand f a k w = record { res = w.res; opd = k; suc' = w.suc'; reg = w.reg }
slot_short successor f a k w = record { res = w.res; opd = w.opd; suc' = k; reg = w.reg }

slot_now : (sl : Slot) (a : Operation) → Short a → length (uses_in sl a) ≤ 64
unfolding uses_in
slot_now operand a w = w.opd
slot_now successor a w = w.suc'

-- operations changed in one slot at one number
within_slot : (sl : Slot) (o c : ℕ) (f : List ℕ → List ℕ) (h k : History) → Sorted c h.operations → k.operations ≡ change o (change_slot sl f) h.operations → k.blocks ≡ h.blocks → ((a : Operation) → find h.operations o ≡ some a → length (uses_in sl a) ≤ 64 → length (f (uses_in sl a)) ≤ 64) → Within h → Within k
within_slot sl o c f h k r e g p w = record {
  ops = subst (Every Short) (sym e) (Every-at Short o 0 c (change_slot sl f) h.operations r.rising (λ a z s. slot_short sl f a (p a z (slot_now sl a s)) s) w.ops);
  blks = subst (Every ShortBlock) (sym g) w.blks;
}

room_left : (sl : Slot) (o : ℕ) (h : History) → T (not (leb 64 (slot_length h sl o))) → (a : Operation) → find h.operations o ≡ some a → length (uses_in sl a) < 64
unfolding slot_length slot_of
room_left sl o h k a e = nleb→lt 64 (length (uses_in sl a)) (subst (λ (q : Option Operation). T (not (leb 64 (length (slot_of sl q))))) e k)

within_values : (m : Member) (n c d : ℕ) (f : List ℕ → List ℕ) (h : History) → Sorted c h.operations → Sorted d h.blocks → (length (values_at m n h) ≤ 64 → length (f (values_at m n h)) ≤ 64) → Within h → Within (change_values m n f h)
unfolding change_values values_at results_of arguments_of with_operations with_blocks change_results change_arguments
within_values operation n c d f h r q' k w = record { ops = Every-at Short n 0 c (change_results f) h.operations r.rising (λ a e s. record { res = subst (λ (q : Option Operation). length (results_of q) ≤ 64 → length (f (results_of q)) ≤ 64) e k s.res; opd = s.opd; suc' = s.suc'; reg = s.reg }) w.ops; blks = w.blks }
within_values block n c d f h r q' k w = record { ops = w.ops; blks = Every-at ShortBlock n 0 d (change_arguments f) h.blocks q'.rising (λ a e s. record { arg = subst (λ (q : Option Block). length (arguments_of q) ≤ 64 → length (f (arguments_of q)) ≤ 64) e k s.arg }) w.blks }

within_put : (m : Member) (x : ℕ) (c : Option ℕ) (h : History) → Within h → Within (put_in m x c h)
unfolding put_in with_operations with_blocks into_block into_region
within_put operation x c h w = record { ops = Every-change Short x (into_block c) h.operations (λ a s. record { res = s.res; opd = s.opd; suc' = s.suc'; reg = s.reg }) w.ops; blks = w.blks }
within_put block x c h w = record { ops = w.ops; blks = Every-change ShortBlock x (into_region c) h.blocks (λ a s. record { arg = s.arg }) w.blks }

regions_short : (f : List ℕ → List ℕ) (a : Operation) → length (f a.regions) ≤ 64 → Short a → Short (change_regions f a)
unfolding change_regions
regions_short f a k w = record { res = w.res; opd = w.opd; suc' = w.suc'; reg = k }

within_hand : (q : ℕ) (p : Option ℕ) (o c : ℕ) (h : History) → Sorted c h.operations → (p ≡ some o ⊎ T (not (leb 64 (length (regions_of (find h.operations o)))))) → Within h → Within (hand_over q p o h)
unfolding hand_over with_operations regions_of
within_hand q none o c h r k w = w
within_hand q (some p) o c h r k w = go (eqb p o) refl
  where
    away : Table Operation
    away = change p (change_regions (swap_out q)) h.operations

    less : Every Short away
    less = Every-change Short p (change_regions (swap_out q)) h.operations (λ a s. regions_short (swap_out q) a (omega (arith, swap_out_length q a.regions, s.reg)) s) w.ops

    few : eqb p o ≡ false → (some p ≡ some o ⊎ T (not (leb 64 (length (regions_of (find h.operations o)))))) → (a : Operation) → find away o ≡ some a → length a.regions < 64
    few z (inl e) a f = absurd (eqb-false p o z (let v : p ≡ o = cc in v))
    few z (inr t) a f = nleb→lt 64 (length a.regions) (subst (λ (x : Option Operation). T (not (leb 64 (length (regions_of x))))) (sym (find_other p o (change_regions (swap_out q)) h.operations z) ∙ f) t)

    go : (x : Bool) → eqb p o ≡ x → Within (cond x h (with_operations h (change o (change_regions (λ xs. xs ++ (q ∷ []))) away)))
    go true z = w
    go false z = record { ops = Every-at Short o 0 c (change_regions (λ xs. xs ++ (q ∷ []))) away (s_change p (change_regions (swap_out q)) r).rising (λ a e s. regions_short (λ xs. xs ++ (q ∷ [])) a (omega (arith, length-append a.regions (q ∷ []), few z k a e)) s) less; blks = w.blks }

pub within_same : (h k : History) → k.operations ≡ h.operations → k.blocks ≡ h.blocks → Within h → Within k
within_same h k e g w = record { ops = subst (Every Short) (sym e) w.ops; blks = subst (Every ShortBlock) (sym g) w.blks }

within_drop : (t : Thing) (h : History) → Within h → Within (drop_inside t h)
unfolding drop_inside end_uses with_operations
within_drop t h w = record { ops = Every-change_all Short (λ n. cond (operation_in h t n) emptied (λ o. o)) h.operations (λ n a s. at (operation_in h t n) a s) w.ops; blks = w.blks }
  where
    at : (c : Bool) (a : Operation) → Short a → Short (cond c emptied (λ o. o) a)
    at true a s = unfold emptied change_slot in (record { res = s.res; opd = omega arith; suc' = omega arith; reg = s.reg })
    at false a s = s

within_erase : (t : Thing) (h : History) → Within h → Within (end_inside t h)
unfolding end_inside
within_erase t h w = record { ops = Every-keep Short (λ n. not (operation_in h t n)) h.operations w.ops; blks = Every-keep ShortBlock (λ n. not (block_in h t n)) h.blocks w.blks }

within_add : (sl : Slot) (o d c : ℕ) (f : ℕ → List ℕ → List ℕ) (h : History) → Sorted c h.operations → ((a : Operation) → find h.operations o ≡ some a → length (uses_in sl a) ≤ 64 → length (f h.born.uses (uses_in sl a)) ≤ 64) → Within h → Within (add_use sl o d f h)
unfolding add_use
within_add sl o d c f h r k w = within_slot sl o c (f h.born.uses) h _ r refl refl k w

within_take : (sl : Slot) (o i c : ℕ) (h : History) → Sorted c h.operations → Within h → Within (take_use sl o i h)
unfolding take_use end_uses with_operations
within_take sl o i c h r w = within_slot sl o c (remove_at i) h _ r refl refl (λ a e q. omega (arith, remove_length i (uses_in sl a))) w

moved : (q o : ℕ) (s : State) → T (eqb (from_state s (move_region q o)) 0) → parent s.history q ≡ some o ⊎ T (not (leb 64 (length (regions_of (find s.history.operations o)))))
unfolding from_state
moved q o s k = go (parent s.history q) k
  where
    at : (p : ℕ) (c : Bool) → eqb o p ≡ c → T (eqb (check c 0 (check (operation_in s.history (the_region q) o) 17 (check (leb 64 (length (regions_of (find s.history.operations o)))) 19 0))) 0) → some p ≡ some o ⊎ T (not (leb 64 (length (regions_of (find s.history.operations o)))))
    at p true z t = inl (ap some (sym (eqb→eq o p (is_true z))))
    at p false z t = inr (zero_first (leb 64 (length (regions_of (find s.history.operations o)))) 19 0 tt (zero_first (operation_in s.history (the_region q) o) 17 (check (leb 64 (length (regions_of (find s.history.operations o)))) 19 0) tt (unfold check in t)).1).0

    go : (v : Option ℕ) → T (eqb (check (some_and v (eqb o)) 0 (check (operation_in s.history (the_region q) o) 17 (check (leb 64 (length (regions_of (find s.history.operations o)))) 19 0))) 0) → v ≡ some o ⊎ T (not (leb 64 (length (regions_of (find s.history.operations o)))))
    go none t = inr (zero_first (leb 64 (length (regions_of (find s.history.operations o)))) 19 0 tt (zero_first (operation_in s.history (the_region q) o) 17 (check (leb 64 (length (regions_of (find s.history.operations o)))) 19 0) tt (unfold check some_and in t)).1).0
    go (some p) t = at p (eqb o p) refl (unfold some_and in t)

within_new : (fl : ℕ) (ts vs bs : List ℕ) (g : ℕ) (h : History) → Small (new_operation fl ts vs bs g) → Within h → Within (carry_out (new_operation fl ts vs bs g) h)
unfolding carry_out
within_new fl ts vs bs g h k w = record {
  ops = Every-append Short h.operations _ w.ops (record { res = omega (arith, length_up h.born.values (length ts), k.1); opd = omega (arith, length_up h.born.uses (length vs), k.2); suc' = omega (arith, length_up (h.born.uses + length vs) (length bs), k.3); reg = omega (arith, length_up h.born.regions g, k.4) }, tt);
  blks = w.blks;
}

within_new_block : (ts : List ℕ) (h : History) → length ts ≤ 64 → Within h → Within (carry_out (new_block ts) h)
unfolding carry_out with_blocks
within_new_block ts h k w = record { ops = w.ops; blks = Every-append ShortBlock h.blocks _ w.blks (record { arg = omega (arith, length_up h.born.values (length ts)) }, tt) }

within_replace : (sl : Slot) (o i d c : ℕ) (h : History) → Sorted c h.operations → Within h → Within (carry_out (replace_use sl o i d) h)
unfolding carry_out end_uses
within_replace sl o i d c h r w = within_same (add_use sl o d (λ n xs. set xs i n) h) _ refl refl (within_add sl o d c (λ n xs. set xs i n) h r (λ a e q. omega (arith, length-set (uses_in sl a) i h.born.uses)) w)

within_erase_region : (o i : ℕ) (h : History) → Within h → Within (carry_out (erase_region o i) h)
unfolding carry_out with_operations
within_erase_region o i h w =
    let e : Within (end_inside (the_region (region_index o i h)) h) = within_erase (the_region (region_index o i h)) h w in
    record { ops = Every-change Short o (change_regions (remove_at i)) (end_inside (the_region (region_index o i h)) h).operations (λ a s. regions_short (remove_at i) a (omega (arith, remove_length i a.regions, s.reg)) s) e.ops; blks = e.blks }

grow_test : (n i : ℕ) (r : ℕ) → T (eqb (check (ltb n i) 12 (check (leb 64 n) 19 r)) 0) → T (not (leb 64 n))
grow_test n i r k = (zero_first (leb 64 n) 19 r tt (zero_first (ltb n i) 12 (check (leb 64 n) 19 r) tt k).1).0

values_room : (m : Member) (o : ℕ) (h : History) → T (not (leb 64 (values_length h m o))) → length (values_at m o h) < 64
unfolding values_length
values_room m o h k = nleb→lt 64 (length (values_at m o h)) k

pub within_carry_out : (e : Edit) (s : State) → Ordered s → Small e → T (eqb (from_state s e) 0) → Within s.history → Within (carry_out e s.history)
unfolding from_state carry_out
within_carry_out (new_operation fl ts vs bs g) s r z k w = within_new fl ts vs bs g s.history z w
within_carry_out (new_block ts) s r z k w = within_new_block ts s.history z w
within_carry_out (push_use sl o d) s r z k w =
    let q : T (not (leb 64 (slot_length s.history sl o))) = (zero_first (leb 64 (slot_length s.history sl o)) 19 (no_room s (push_use sl o d)) tt k).0 in
    within_add sl o d _ (λ n xs. xs ++ (n ∷ [])) s.history r.ops (λ a e l. omega (arith, length-append (uses_in sl a) (s.history.born.uses ∷ []), room_left sl o s.history q a e)) w
within_carry_out (insert_use sl o i d) s r z k w =
    let q : T (not (leb 64 (slot_length s.history sl o))) = grow_test (slot_length s.history sl o) i (no_room s (insert_use sl o i d)) k in
    within_add sl o d _ (insert_at i) s.history r.ops (λ a e l. omega (arith, insert_length i s.history.born.uses (uses_in sl a), room_left sl o s.history q a e)) w
within_carry_out (replace_use sl o i d) s r z k w = within_replace sl o i d _ s.history r.ops w
within_carry_out (remove_use sl o i) s r z k w = within_take sl o i _ s.history r.ops w
within_carry_out (pop_use sl o) s r z k w = within_take sl o (length (slot_of sl (find s.history.operations o)) - 1) _ s.history r.ops w
within_carry_out (push_value m o ty) s r z k w =
    let q : length (values_at m o s.history) < 64 = values_room m o s.history (zero_first (leb 64 (values_length s.history m o)) 19 (no_room s (push_value m o ty)) tt k).0 in
    within_values m o _ _ (λ xs. xs ++ (s.history.born.values ∷ [])) s.history r.ops r.blks (λ l. omega (arith, length-append (values_at m o s.history) (s.history.born.values ∷ []))) w
within_carry_out (insert_value m o i ty) s r z k w =
    let q : length (values_at m o s.history) < 64 = values_room m o s.history (grow_test (values_length s.history m o) i (no_room s (insert_value m o i ty)) k) in
    within_values m o _ _ (insert_at i s.history.born.values) s.history r.ops r.blks (λ l. omega (arith, insert_length i s.history.born.values (values_at m o s.history))) w
within_carry_out (remove_value m o i) s r z k w = within_values m o _ _ (remove_at i) s.history r.ops r.blks (λ l. omega (arith, remove_length i (values_at m o s.history))) w
within_carry_out (pop_value m o) s r z k w = within_values m o _ _ (λ xs. remove_at (length xs - 1) xs) s.history r.ops r.blks (λ l. omega (arith, remove_length (length (values_at m o s.history) - 1) (values_at m o s.history))) w
within_carry_out (link_after m x c) s r z k w = within_put m x (container m s.history c) s.history w
within_carry_out (link_before m x c) s r z k w = within_put m x (container m s.history c) s.history w
within_carry_out (link_front m x c) s r z k w = within_put m x (some c) s.history w
within_carry_out (link_back m x c) s r z k w = within_put m x (some c) s.history w
within_carry_out (unlink m x) s r z k w = within_put m x none s.history w
within_carry_out (move_region q o) s r z k w = within_hand q (parent s.history q) o _ s.history r.ops (moved q o s k) w
within_carry_out (move_use sl a u b) s r z k w = go (eqb a b)
  where
    go : (c : Bool) → Within (cond c s.history (with_uses s.history (change u (λ _. defined sl b) s.history.uses)))
    go true = w
    go false = within_same s.history _ (unfold with_uses in refl) (unfold with_uses in refl) w
within_carry_out (replace_some a b us) s r z k w = within_same s.history _ (unfold place_some with_uses in refl) (unfold place_some with_uses in refl) w
within_carry_out (retarget_some a b ps) s r z k w = within_same s.history _ (unfold place_some with_uses in refl) (unfold place_some with_uses in refl) w
within_carry_out (drop_uses th) s r z k w = within_drop th s.history w
within_carry_out (erase_operation x) s r z k w = within_erase (the_operation x) s.history w
within_carry_out (erase_block x) s r z k w = within_erase (the_block x) s.history w
within_carry_out (erase_region o i) s r z k w = within_erase_region o i s.history w
within_carry_out (verdict th) s r z k w = unfold carry_out in w
