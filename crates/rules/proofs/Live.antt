-- Every use's definition is live, after every list of edits. Assumes nothing.
use mathlib.Core.Path.{◌≡◌, refl, sym, subst}
use mathlib.Core.Bool.{Bool, true, false, not, cond, ◌&&◌, ◌||◌}
use mathlib.Core.List.{List, [], ◌∷◌, ◌++◌, map}
use mathlib.Core.Option.{Option, none, some}
use Prim.Native.Nat.{ℕ, ◌-◌}
use lib.Dec.{T, eqb, leb, eqb_refl}
use lib.ListN.{length, get_or, set}
use Rattle.rules.specs.Table.{Table, any, find, items, change, change_all, keep_keys, gather, number, member, remove_at, swap_out, is_some}
use Rattle.edit.specs.Record.{Slot, operand, successor, Member, operation, block, Thing, the_operation, the_block, the_region, Definition, of_value, of_block, Edit, new_operation, new_block, push_use, insert_use, replace_use, remove_use, pop_use, push_value, insert_value, remove_value, pop_value, link_after, link_before, link_front, link_back, unlink, move_region, move_use, replace_some, retarget_some, drop_uses, erase_operation, erase_block, erase_region, verdict}
use Rattle.rules.specs.History.{Operation, Block, Five, History, births, plus, bear, carry_out, remember, live_value, live_block, live_definition, same_definition, defined, change_slot, change_results, change_regions, change_arguments, into_block, into_region, with_operations, with_blocks, with_uses, end_uses, add_use, take_use, change_values, values_at, results_of, arguments_of, put_in, emptied, drop_inside, end_inside, hand_over, place_some, uses_of, operation_in, block_in, parent, region_index}
use Rattle.rules.specs.State.{State, accept}
use Rattle.rules.specs.Refusal.{Name, block_named, value_named, definition_named, named, check, missing, first_missing, from_state, refusal_of, value_used, values_length, used_outside, definitions_in, meets}
use Rattle.rules.proofs.Closure.{or_else_zero}
use Rattle.rules.proofs.Tables.{or_l, or_map, not_or, Every, All, All-append, All-append_l, All-append_r, Every-append, Every-number, Every-keep, Every-change, Every-change_all, Every-map, Every-both, any_append, any_change, any_change_all, find_append, find_change, member_append, member_insert, member_remove, none_where, All-items, none_any, any_append_l, any_append_r, against, any_kept, find_kept, any_at}
use Rattle.rules.proofs.Rising.{Sorted, Ordered}

abbrev pub IsLive : History → Definition → Type 0
IsLive h d = T (live_definition h d)

-- each use's definition is live
abbrev pub Held : History → Type 0
Held h = Every (IsLive h) h.uses

abbrev has_result : ℕ → Operation → Bool
has_result v o = member v o.results

abbrev has_argument : ℕ → Block → Bool
has_argument v b = member v b.arguments

-- what is live in h is live in k
record Grows (h k : History) : Type 0 where
  results : (v : ℕ) → T (any (has_result v) (items h.operations)) → T (any (has_result v) (items k.operations))
  arguments : (v : ℕ) → T (any (has_argument v) (items h.blocks)) → T (any (has_argument v) (items k.blocks))
  blocks : (b : ℕ) → T (is_some (find h.blocks b)) → T (is_some (find k.blocks b))

grown : (h k : History) → Grows h k → (d : Definition) → IsLive h d → IsLive k d
unfolding live_definition live_value live_block
grown h k g (of_value v) t =
    or_map (any (has_result v) (items h.operations)) (any (has_argument v) (items h.blocks))
    (any (has_result v) (items k.operations)) (any (has_argument v) (items k.blocks))
    (g.results v) (g.arguments v) t
grown h k g (of_block b) t = g.blocks b t

-- ---- what an accepted edit's tests say

pub zero_first : (b : Bool) (n r : ℕ) → T (not (eqb n 0)) → T (eqb (check b n r) 0) → T (not b) × T (eqb r 0)
unfolding check
zero_first true n r k h = absurd (no (eqb n 0) k h)
  where
    no : (c : Bool) → T (not c) → T c → ⊥
    no true p q = p
    no false p q = q
zero_first false n r k h = (tt, h)

unfoldable pub IsFound : (h : History) → Name → Type 0
IsFound h x = T (eqb (missing h x) 0)

pub all_found : (h : History) (xs : List Name) → T (eqb (first_missing h xs) 0) → All (IsFound h) xs
unfolding first_missing IsFound
all_found h [] t = tt
all_found h (x ∷ xs) t = let p : T (eqb (missing h x) 0) × T (eqb (first_missing h xs) 0) = or_else_zero (missing h x) (first_missing h xs) t in (p.0, all_found h xs p.1)

found_value : (h : History) (v : ℕ) → IsFound h (value_named v) → T (live_value h v)
unfolding IsFound missing check
found_value h v = go (live_value h v)
  where
    go : (b : Bool) → T (eqb (check b 0 10) 0) → T b
    go true t = tt
    go false t = t

found_block : (h : History) (v : ℕ) → IsFound h (block_named v) → T (live_block h v)
unfolding IsFound missing check
found_block h v = go (live_block h v)
  where
    go : (b : Bool) → T (eqb (check b 0 8) 0) → T b
    go true t = tt
    go false t = t

found_definition : (h : History) (sl : Slot) (d : ℕ) → IsFound h (definition_named sl d) → IsLive h (defined sl d)
unfolding definition_named defined live_definition
found_definition h operand d t = found_value h d t
found_definition h successor d t = found_block h d t

found_values : (h : History) (vs : List ℕ) → All (IsFound h) (map value_named vs) → All (IsLive h) (map of_value vs)
unfolding live_definition
found_values h [] t = tt
found_values h (v ∷ vs) t = (found_value h v t.0, found_values h vs t.1)

found_blocks : (h : History) (vs : List ℕ) → All (IsFound h) (map block_named vs) → All (IsLive h) (map of_block vs)
unfolding live_definition
found_blocks h [] t = tt
found_blocks h (v ∷ vs) t = (found_block h v t.0, found_blocks h vs t.1)

-- ---- the steps of the history

-- operations changed, and no results lost; blocks as they were
same_blocks : (h : History) (os : Table Operation) (us : Table Definition) (b : Five) (n : ℕ) → ((v : ℕ) → T (any (has_result v) (items h.operations)) → T (any (has_result v) (items os))) → Grows h (record { operations = os; blocks = h.blocks; uses = us; born = b; ended = n })
same_blocks h os us b n f = record { results = f; arguments = λ v t. t; blocks = λ c t. t }

-- the uses of the list end, and nothing else changes
held_end : (us : List ℕ) (h : History) → Held h → Held (end_uses us h)
unfolding end_uses live_definition live_value live_block
held_end us h t =
    Every-map (IsLive h) (IsLive (end_uses us h)) (grown h (end_uses us h) (record { results = λ v r. r; arguments = λ v r. r; blocks = λ v r. r })) (keep_keys (λ u. not (member u us)) h.uses) (Every-keep (IsLive h) (λ u. not (member u us)) h.uses t)

slot_results : (v : ℕ) (sl : Slot) (f : List ℕ → List ℕ) (o : Operation) → T (has_result v o) → T (has_result v (change_slot sl f o))
unfolding change_slot
slot_results v operand f o t = t
slot_results v successor f o t = t

held_add : (sl : Slot) (o d : ℕ) (f : ℕ → List ℕ → List ℕ) (h : History) → IsLive h (defined sl d) → Held h → Held (add_use sl o d f h)
unfolding add_use
held_add sl o d f h l t =
    Every-map (IsLive h) (IsLive (add_use sl o d f h))
    (grown h (add_use sl o d f h) (same_blocks h _ _ _ _ (λ v. any_change (has_result v) o (change_slot sl (f h.born.uses)) h.operations (slot_results v sl (f h.born.uses)))))
    (h.uses ++ ((h.born.uses, defined sl d) ∷ [])) (Every-append (IsLive h) h.uses ((h.born.uses, defined sl d) ∷ []) t (l, tt))

held_take : (sl : Slot) (o i : ℕ) (h : History) → Held h → Held (take_use sl o i h)
unfolding take_use with_operations
held_take sl o i h t =
    held_end _ (with_operations h (change o (change_slot sl (remove_at i)) h.operations))
    (Every-map (IsLive h) (IsLive (with_operations h (change o (change_slot sl (remove_at i)) h.operations)))
    (grown h _ (same_blocks h _ _ _ _ (λ v. any_change (has_result v) o (change_slot sl (remove_at i)) h.operations (slot_results v sl (remove_at i)))))
    h.uses t)

held_grown : (h k : History) → Grows h k → Every (IsLive h) k.uses → Held k
held_grown h k g t = Every-map (IsLive h) (IsLive k) (grown h k g) k.uses t

-- operations changed at one number, with their results kept
held_change : (h : History) (n : ℕ) (f : Operation → Operation) → ((v : ℕ) (o : Operation) → T (has_result v o) → T (has_result v (f o))) → Held h → Held (with_operations h (change n f h.operations))
unfolding with_operations
held_change h n f keeps t = held_grown h (with_operations h (change n f h.operations)) (same_blocks h _ _ _ _ (λ v. any_change (has_result v) n f h.operations (keeps v))) t

held_bear : (k : Five) (h : History) → Held h → Held (bear k h)
unfolding bear
held_bear k h t = held_grown h (bear k h) (record { results = λ v r. r; arguments = λ v r. r; blocks = λ v r. r }) t

held_new_operation : (fl : ℕ) (ts vs bs : List ℕ) (g : ℕ) (h : History) → All (IsFound h) (map value_named vs ++ map block_named bs) → Held h → Held (carry_out (new_operation fl ts vs bs g) h)
unfolding carry_out
held_new_operation fl ts vs bs g h l t =
    held_grown h (carry_out (new_operation fl ts vs bs g) h) (same_blocks h _ _ _ _ (λ v. any_append (has_result v) h.operations _))
    (Every-append (IsLive h) h.uses (number h.born.uses (map of_value vs ++ map of_block bs)) t
    (Every-number (IsLive h) h.born.uses (map of_value vs ++ map of_block bs)
    (All-append (IsLive h) (map of_value vs) (map of_block bs)
    (found_values h vs (All-append_l (IsFound h) (map value_named vs) (map block_named bs) l))
    (found_blocks h bs (All-append_r (IsFound h) (map value_named vs) (map block_named bs) l)))))

held_new_block : (ts : List ℕ) (h : History) → Held h → Held (carry_out (new_block ts) h)
unfolding carry_out with_blocks
held_new_block ts h t =
    held_grown h (carry_out (new_block ts) h) (record { results = λ v r. r; arguments = λ v. any_append (has_argument v) h.blocks _; blocks = λ b. find_append h.blocks _ b }) t

-- ---- values

-- a value stays live if f keeps it in the list that it changes
kept_value : (m : Member) (n b c : ℕ) (f : List ℕ → List ℕ) (h : History) (v : ℕ) → Sorted b h.operations → Sorted c h.blocks → (T (member v (values_at m n h)) → T (member v (f (values_at m n h)))) → T (live_value h v) → T (live_value (change_values m n f h) v)
unfolding values_at change_values live_value with_operations with_blocks results_of arguments_of change_results change_arguments
kept_value operation n b c f h v r q k t =
    or_map (any (has_result v) (items h.operations)) (any (has_argument v) (items h.blocks))
    (any (has_result v) (items (change n (change_results f) h.operations))) (any (has_argument v) (items h.blocks))
    (any_at (has_result v) n 0 b (change_results f) h.operations r.rising (λ a e. subst (λ (o : Option Operation). T (member v (results_of o)) → T (member v (f (results_of o)))) e k)) (λ x. x) t
kept_value block n b c f h v r q k t =
    or_map (any (has_result v) (items h.operations)) (any (has_argument v) (items h.blocks))
    (any (has_result v) (items h.operations)) (any (has_argument v) (items (change n (change_arguments f) h.blocks)))
    (λ x. x) (any_at (has_argument v) n 0 c (change_arguments f) h.blocks q.rising (λ a e. subst (λ (o : Option Block). T (member v (arguments_of o)) → T (member v (f (arguments_of o)))) e k)) t

kept_block : (m : Member) (n : ℕ) (f : List ℕ → List ℕ) (h : History) (b : ℕ) → T (live_block h b) → T (live_block (change_values m n f h) b)
unfolding change_values live_block with_operations with_blocks
kept_block operation n f h b t = t
kept_block block n f h b t = find_change n (change_arguments f) h.blocks b t

uses_after : (m : Member) (n : ℕ) (f : List ℕ → List ℕ) (h : History) → (change_values m n f h).uses ≡ h.uses
unfolding change_values with_operations with_blocks
uses_after operation n f h = refl
uses_after block n f h = refl

-- the list grows
held_more_values : (m : Member) (n b c : ℕ) (f : List ℕ → List ℕ) (h : History) → Sorted b h.operations → Sorted c h.blocks → ((v : ℕ) (xs : List ℕ) → T (member v xs) → T (member v (f xs))) → Held h → Held (change_values m n f h)
unfolding live_definition
held_more_values m n b c f h r q keeps t =
    subst (Every (IsLive (change_values m n f h))) (sym (uses_after m n f h)) (Every-map (IsLive h) (IsLive (change_values m n f h)) go h.uses t)
  where
    go : (d : Definition) → IsLive h d → IsLive (change_values m n f h) d
    go (of_value v) = kept_value m n b c f h v r q (keeps v (values_at m n h))
    go (of_block x) = kept_block m n f h x

-- a value that is not used is taken out
held_less_values : (m : Member) (n i b c : ℕ) (f : List ℕ → List ℕ) (h : History) → Sorted b h.operations → Sorted c h.blocks → (f (values_at m n h) ≡ remove_at i (values_at m n h)) → T (not (value_used h m n i)) → Held h → Held (change_values m n f h)
unfolding value_used uses_of live_definition same_definition
held_less_values m n i b c f h r q same u t =
    subst (Every (IsLive (change_values m n f h))) (sym (uses_after m n f h))
    (Every-map (λ d. IsLive h d × T (not (same_definition w d))) (IsLive (change_values m n f h)) go h.uses
    (Every-both (IsLive h) (λ d. T (not (same_definition w d))) h.uses t (none_where (same_definition w) h.uses u)))
  where
    w : Definition
    w = of_value (get_or (values_at m n h) i 0)

    go : (d : Definition) → IsLive h d × T (not (same_definition w d)) → IsLive (change_values m n f h) d
    go (of_value v) p = kept_value m n b c f h v r q (λ x. subst (λ (xs : List ℕ). T (member v xs)) (sym same) (member_remove v i (values_at m n h) p.1 x)) p.0
    go (of_block x) p = kept_block m n f h x p.0

-- ---- lists, regions, moved uses

held_put_in : (m : Member) (x : ℕ) (c : Option ℕ) (h : History) → Held h → Held (put_in m x c h)
unfolding put_in with_blocks into_block into_region
held_put_in operation x c h t = held_change h x (into_block c) (λ v o r. r) t
held_put_in block x c h t =
    held_grown h (with_blocks h (change x (into_region c) h.blocks))
    (record { results = λ v r. r; arguments = λ v. any_change (has_argument v) x (into_region c) h.blocks (λ a r. r); blocks = λ b. find_change x (into_region c) h.blocks b }) t

held_hand_over : (r : ℕ) (p : Option ℕ) (o : ℕ) (h : History) → Held h → Held (hand_over r p o h)
unfolding hand_over with_operations change_regions
held_hand_over r none o h t = t
held_hand_over r (some p) o h t = go (eqb p o)
  where
    away : History
    away = with_operations h (change p (change_regions (swap_out r)) h.operations)

    go : (b : Bool) → Held (cond b h (with_operations h (change o (change_regions (λ xs. xs ++ (r ∷ []))) (change p (change_regions (swap_out r)) h.operations))))
    go true = t
    go false = held_change away o (change_regions (λ xs. xs ++ (r ∷ []))) (λ v q x. x) (held_change h p (change_regions (swap_out r)) (λ v q x. x) t)

-- uses placed elsewhere: operations and blocks as they were
held_uses : (h : History) (us : Table Definition) → Every (IsLive h) us → Held (with_uses h us)
unfolding with_uses
held_uses h us t = held_grown h (with_uses h us) (record { results = λ v r. r; arguments = λ v r. r; blocks = λ v r. r }) t

held_move_use : (sl : Slot) (a u b : ℕ) (h : History) → IsLive h (defined sl b) → Held h → Held (carry_out (move_use sl a u b) h)
unfolding carry_out
held_move_use sl a u b h l t = go (eqb a b)
  where
    go : (c : Bool) → Held (cond c h (with_uses h (change u (λ _. defined sl b) h.uses)))
    go true = t
    go false = held_uses h (change u (λ _. defined sl b) h.uses) (Every-change (IsLive h) u (λ _. defined sl b) h.uses (λ _ _. l) t)

held_place_some : (a b : Definition) (p : ℕ → Bool) (h : History) → IsLive h b → Held h → Held (place_some a b p h)
unfolding place_some
held_place_some a b p h l t =
    held_uses h (change_all (λ u d. cond (same_definition d a && p u) b d) h.uses) (Every-change_all (IsLive h) _ h.uses (λ u d x. go (same_definition d a && p u) d x) t)
  where
    go : (c : Bool) (d : Definition) → IsLive h d → IsLive h (cond c b d)
    go true d x = l
    go false d x = x

-- ---- dropping and erasing

held_drop : (t : Thing) (h : History) → Held h → Held (drop_inside t h)
unfolding drop_inside with_operations emptied change_slot
held_drop t h x =
    held_end _ (with_operations h (change_all (λ n. cond (operation_in h t n) emptied (λ o. o)) h.operations))
    (held_grown h (with_operations h (change_all (λ n. cond (operation_in h t n) emptied (λ o. o)) h.operations))
    (same_blocks h _ _ _ _ (λ v. any_change_all (has_result v) _ h.operations (λ n o. go v o (operation_in h t n)))) x)
  where
    go : (v : ℕ) (o : Operation) (b : Bool) → T (has_result v o) → T (has_result v (cond b emptied (λ q. q) o))
    go v o true r = r
    go v o false r = r

-- the uses left when t is dropped, with their definitions live before
left_live : (t : Thing) (h : History) → Held h → Every (IsLive h) (drop_inside t h).uses
unfolding drop_inside end_uses with_operations
left_live t h x = Every-keep (IsLive h) _ h.uses x

not_meets : (h : History) (xs ds : List Definition) → T (not (meets h xs ds)) → All (λ d. T (not (any (λ x. same_definition x d) xs))) ds
unfolding meets any
not_meets h [] ds k = triv ds
  where
    triv : (ys : List Definition) → All (λ d. Unit {0}) ys
    triv [] = tt
    triv (y ∷ ys) = (tt, triv ys)
not_meets h (x ∷ xs) ds k = both ds (none_any (same_definition x) ds p.0) (not_meets h xs ds p.1)
  where
    p : T (not (any (same_definition x) ds)) × T (not (meets h xs ds))
    p = not_or (any (same_definition x) ds) (meets h xs ds) k

    join : (a b : Bool) → T (not a) → T (not b) → T (not (a || b))
    join true b u w = u
    join false b u w = w

    both : (ys : List Definition) → All (λ d. T (not (same_definition x d))) ys → All (λ d. T (not (any (λ z. same_definition z d) xs))) ys → All (λ d. T (not (same_definition x d || any (λ z. same_definition z d) xs))) ys
    both [] u w = tt
    both (y ∷ ys) u w = (join (same_definition x y) (any (λ z. same_definition z y) xs) u.0 w.0, both ys u.1 w.1)

-- a value among values, as a definition
member_defined : (v : ℕ) (xs : List ℕ) → T (member v xs) → T (any (λ x. same_definition x (of_value v)) (map of_value xs))
unfolding member any same_definition
member_defined v [] t = t
member_defined v (x ∷ xs) t = or_map (eqb x v) (member v xs) (eqb x v) (any (λ y. same_definition y (of_value v)) (map of_value xs)) (λ y. y) (member_defined v xs) t

any_append_or : {A : Type 0} (p : A → Bool) (s t : List A) → T (not (any p (s ++ t))) → T (not (any p s)) × T (not (any p t))
any_append_or p s t k = (go (any p s) (any_append_l p s t), go (any p t) (any_append_r p s t))
  where
    go : (c : Bool) → (T c → T (any p (s ++ t))) → T (not c)
    go true f = against (any p (s ++ t)) k (f tt)
    go false f = tt

-- a definition that is live and not in t is live when t has ended
outlives : (t : Thing) (h : History) (d : Definition) → IsLive h d × T (not (any (λ x. same_definition x d) (definitions_in h t))) → IsLive (end_inside t h) d
unfolding live_definition live_value live_block end_inside definitions_in same_definition any
outlives t h (of_value v) p =
    or_map (any (has_result v) (items h.operations)) (any (has_argument v) (items h.blocks))
    (any (has_result v) (items (keep_keys (λ n. not (operation_in h t n)) h.operations))) (any (has_argument v) (items (keep_keys (λ n. not (block_in h t n)) h.blocks)))
    (any_kept (operation_in h t) (λ n (o : Operation). map of_value o.results) (has_result v) (λ x. same_definition x (of_value v)) (λ n o. member_defined v o.results) h.operations apart.1)
    (any_kept (block_in h t) (λ n (b : Block). of_block n ∷ map of_value b.arguments) (has_argument v) (λ x. same_definition x (of_value v)) (λ n b x. later n b.arguments (member_defined v b.arguments x)) h.blocks apart.0) p.0
  where
    apart : T (not (any (λ x. same_definition x (of_value v)) (gather (block_in h t) (λ n (b : Block). of_block n ∷ map of_value b.arguments) h.blocks))) × T (not (any (λ x. same_definition x (of_value v)) (gather (operation_in h t) (λ n (o : Operation). map of_value o.results) h.operations)))
    apart = any_append_or (λ x. same_definition x (of_value v)) (gather (block_in h t) (λ n (b : Block). of_block n ∷ map of_value b.arguments) h.blocks) (gather (operation_in h t) (λ n (o : Operation). map of_value o.results) h.operations) p.1

    later : (n : ℕ) (xs : List ℕ) → T (any (λ x. same_definition x (of_value v)) (map of_value xs)) → T (any (λ x. same_definition x (of_value v)) (of_block n ∷ map of_value xs))
    later n xs x = any_append_r (λ y. same_definition y (of_value v)) (of_block n ∷ []) (map of_value xs) x
outlives t h (of_block b) p =
    find_kept (block_in h t) (λ n (c : Block). of_block n ∷ map of_value c.arguments) (λ x. same_definition x (of_block b)) b (λ a. first a.arguments) h.blocks apart.0 p.0
  where
    apart : T (not (any (λ x. same_definition x (of_block b)) (gather (block_in h t) (λ n (c : Block). of_block n ∷ map of_value c.arguments) h.blocks))) × T (not (any (λ x. same_definition x (of_block b)) (gather (operation_in h t) (λ n (o : Operation). map of_value o.results) h.operations)))
    apart = any_append_or (λ x. same_definition x (of_block b)) (gather (block_in h t) (λ n (c : Block). of_block n ∷ map of_value c.arguments) h.blocks) (gather (operation_in h t) (λ n (o : Operation). map of_value o.results) h.operations) p.1

    first : (xs : List ℕ) → T (any (λ x. same_definition x (of_block b)) (of_block b ∷ map of_value xs))
    first xs = any_append_l (λ y. same_definition y (of_block b)) (of_block b ∷ []) (map of_value xs) (or_l (same_definition (of_block b) (of_block b)) false (eqb_refl b))

held_erase : (t : Thing) (h : History) → T (not (meets h (definitions_in h t) (used_outside h t))) → Held h → Held (end_inside t h)
unfolding end_inside used_outside
held_erase t h k x =
    Every-map (λ d. IsLive h d × T (not (any (λ y. same_definition y d) (definitions_in h t)))) (IsLive (end_inside t h)) (outlives t h) (drop_inside t h).uses
    (Every-both (IsLive h) _ (drop_inside t h).uses (left_live t h x) (All-items _ (drop_inside t h).uses (not_meets h (definitions_in h t) (items (drop_inside t h).uses) k)))

-- ---- every edit

-- what an accepted edit does keeps every use's definition live
held_carry_out : (e : Edit) (s : State) → Ordered s → All (IsFound s.history) (named e) → T (eqb (from_state s e) 0) → Held s.history → Held (carry_out e s.history)
unfolding carry_out named from_state defined definition_named
held_carry_out (new_operation fl ts vs bs g) s r l k t = held_new_operation fl ts vs bs g s.history l t
held_carry_out (new_block ts) s r l k t = held_new_block ts s.history t
held_carry_out (push_use sl o d) s r l k t = held_add sl o d _ s.history (found_definition s.history sl d l.1.0) t
held_carry_out (insert_use sl o i d) s r l k t = held_add sl o d _ s.history (found_definition s.history sl d l.1.0) t
held_carry_out (replace_use sl o i d) s r l k t = held_end _ _ (held_add sl o d (λ n xs. set xs i n) s.history (found_definition s.history sl d l.1.0) t)
held_carry_out (remove_use sl o i) s r l k t = held_take sl o i s.history t
held_carry_out (pop_use sl o) s r l k t = held_take sl o _ s.history t
held_carry_out (push_value m o ty) s r l k t = held_more_values m o _ _ _ s.history r.ops r.blks (λ v xs. member_append v xs _) t
held_carry_out (insert_value m o i ty) s r l k t = held_more_values m o _ _ _ s.history r.ops r.blks (λ v xs. member_insert v i _ xs) t
held_carry_out (remove_value m o i) s r l k t =
    held_less_values m o i _ _ (remove_at i) s.history r.ops r.blks refl (zero_first (value_used s.history m o i) 13 0 tt (zero_first (leb (values_length s.history m o) i) 12 _ tt k).1).0 t
held_carry_out (pop_value m o) s r l k t =
    held_less_values m o (values_length s.history m o - 1) _ _ (λ xs. remove_at (length xs - 1) xs) s.history r.ops r.blks refl'
    (zero_first (value_used s.history m o (values_length s.history m o - 1)) 13 0 tt (zero_first (eqb (values_length s.history m o) 0) 12 _ tt k).1).0 t
  where
    refl' : remove_at (length (values_at m o s.history) - 1) (values_at m o s.history) ≡ remove_at (values_length s.history m o - 1) (values_at m o s.history)
    refl' = unfold values_length in refl
held_carry_out (link_after m x c) s r l k t = held_put_in m x _ s.history t
held_carry_out (link_before m x c) s r l k t = held_put_in m x _ s.history t
held_carry_out (link_front m x c) s r l k t = held_put_in m x (some c) s.history t
held_carry_out (link_back m x c) s r l k t = held_put_in m x (some c) s.history t
held_carry_out (unlink m x) s r l k t = held_put_in m x none s.history t
held_carry_out (move_region q o) s r l k t = held_hand_over q (parent s.history q) o s.history t
held_carry_out (move_use sl a u b) s r l k t = held_move_use sl a u b s.history (found_definition s.history sl b l.1.0) t
held_carry_out (replace_some a b us) s r l k t = held_place_some (of_value a) (of_value b) _ s.history (found_definition s.history operand b l.1.0) t
held_carry_out (retarget_some a b ps) s r l k t = held_place_some (of_block a) (of_block b) _ s.history (found_definition s.history successor b l.1.0) t
held_carry_out (drop_uses th) s r l k t = held_drop th s.history t
held_carry_out (erase_operation n) s r l k t = held_erase (the_operation n) s.history (zero_first _ 14 0 tt (zero_first _ 13 _ tt k).1).0 t
held_carry_out (erase_block n) s r l k t = held_erase (the_block n) s.history (zero_first _ 14 0 tt (zero_first _ 13 _ tt k).1).0 t
held_carry_out (erase_region o i) s r l k t =
    held_change (end_inside (the_region (region_index o i s.history)) s.history) o (change_regions (remove_at i)) (λ v q r. unfold change_regions in r)
    (held_erase (the_region (region_index o i s.history)) s.history (zero_first _ 14 0 tt (zero_first _ 12 _ tt k).1).0 t)
held_carry_out (verdict th) s r l k t = t

pub held_accept : (e : Edit) (s : State) → Ordered s → T (eqb (refusal_of s e) 0) → Held s.history → Held (accept e s).history
unfolding accept remember refusal_of
held_accept e s r k t = held_bear (plus s.history.born (births e)) (carry_out e s.history) (held_carry_out e s r (all_found s.history (named e) p.0) p.1 t)
  where
    p : T (eqb (first_missing s.history (named e)) 0) × T (eqb (from_state s e) 0)
    p = or_else_zero (first_missing s.history (named e)) (from_state s e) k
