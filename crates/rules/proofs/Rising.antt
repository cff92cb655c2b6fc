-- Every table of a state stands in rising order of number, below the numbers still to be born: so no two live things share a number. Assumes nothing.
use mathlib.Core.Path.{◌≡◌, refl, sym, subst, ◌∙◌}
use mathlib.Core.Bool.{Bool, true, false, cond}
use mathlib.Core.List.{List, [], ◌∷◌, ◌++◌, map}
use mathlib.Core.Option.{Option, none, some}
use Prim.Native.Nat.{ℕ, suc, ◌+◌, ◌≤◌}
use native.Mathlib.Omega.{arith}
use native.Mathlib.Nat.{add-zero, suc-add, add-suc}
use lib.Dec.{T, eqb}
use lib.ListN.{length, length-append, length-map, replicate, length-replicate}
use Rattle.rules.specs.Table.{Table, change, change_all, keep_keys, number, swap_out}
use Rattle.edit.specs.Record.{Member, operation, block, of_value, of_block, Edit, new_operation, new_block, push_use, insert_use, replace_use, remove_use, pop_use, push_value, insert_value, remove_value, pop_value, link_after, link_before, link_front, link_back, unlink, move_region, move_use, replace_some, retarget_some, drop_uses, erase_operation, erase_block, erase_region, verdict}
use Rattle.rules.specs.History.{Five, History, births, bear, plus, zeros, begin, carry_out, remember, with_operations, with_blocks, with_uses, end_uses, add_use, take_use, change_values, put_in, change_regions, defined, drop_inside, end_inside, hand_over, place_some, parent}
use Rattle.rules.specs.State.{State, accept, start, new_flags, new_types}
use Rattle.rules.specs.Orders.{no_orders, containers, if_same, still_live, new_lists, order, reorder}
use Rattle.rules.specs.Refusal.{refusal_of}
pub use Rattle.rules.specs.Table.{Rising}

module _ {A : Type 0} where
  lower : (lo m b : ℕ) (t : Table A) → m ≤ lo → Rising lo b t → Rising m b t
  lower lo m b [] h r = omega arith
  lower lo m b (e ∷ t) h r = (omega (arith, r.0), r.1)

  rising_keep : (lo b : ℕ) (p : ℕ → Bool) (t : Table A) → Rising lo b t → Rising lo b (keep_keys p t)
  unfolding keep_keys
  rising_keep lo b p [] r = r
  rising_keep lo b p (e ∷ t) r = go (p e.0) (rising_keep (suc e.0) b p t r.1)
    where
      go : (c : Bool) → Rising (suc e.0) b (keep_keys p t) → Rising lo b (cond c (e ∷ keep_keys p t) (keep_keys p t))
      go true q = (r.0, q)
      go false q = lower (suc e.0) lo b (keep_keys p t) (omega (arith, r.0)) q

  rising_change : (lo b n : ℕ) (f : A → A) (t : Table A) → Rising lo b t → Rising lo b (change n f t)
  unfolding change
  rising_change lo b n f [] r = r
  rising_change lo b n f (e ∷ t) r = go (eqb e.0 n) (rising_change (suc e.0) b n f t r.1)
    where
      go : (c : Bool) → Rising (suc e.0) b (change n f t) → Rising lo b (cond c ((e.0, f e.1) ∷ change n f t) (e ∷ change n f t))
      go true q = (r.0, q)
      go false q = (r.0, q)

  rising_change_all : (lo b : ℕ) (f : ℕ → A → A) (t : Table A) → Rising lo b t → Rising lo b (change_all f t)
  unfolding change_all
  rising_change_all lo b f [] r = r
  rising_change_all lo b f (e ∷ t) r = (r.0, rising_change_all (suc e.0) b f t r.1)

  rising_number : (lo n : ℕ) (xs : List A) → lo ≤ n → Rising lo (n + length xs) (number n xs)
  unfolding number
  rising_number lo n [] h = omega arith
  rising_number lo n (x ∷ xs) h = (h, subst (λ (b : ℕ). Rising (suc n) b (number (suc n) xs)) (suc-add n (length xs) ∙ sym (add-suc n (length xs))) (rising_number (suc n) (suc n) xs (omega arith)))

  rising_append : (lo n : ℕ) (xs : List A) (t : Table A) → Rising lo n t → Rising lo (n + length xs) (t ++ number n xs)
  rising_append lo n xs [] r = rising_number lo n xs r
  rising_append lo n xs (e ∷ t) r = (r.0, rising_append (suc e.0) n xs t r.1)

  -- the same as a record: antt finds the table and the bound of a record, and not those of a type that computes
  pub record Sorted (b : ℕ) (t : Table A) : Type 0 where
    pub rising : Rising 0 b t

  pub s_keep : {b : ℕ} {t : Table A} (p : ℕ → Bool) → Sorted b t → Sorted b (keep_keys p t)
  s_keep {b} {t} p r = record { rising = rising_keep 0 b p t r.rising }

  pub s_change : {b : ℕ} {t : Table A} (n : ℕ) (f : A → A) → Sorted b t → Sorted b (change n f t)
  s_change {b} {t} n f r = record { rising = rising_change 0 b n f t r.rising }

  pub s_change_all : {b : ℕ} {t : Table A} (f : ℕ → A → A) → Sorted b t → Sorted b (change_all f t)
  s_change_all {b} {t} f r = record { rising = rising_change_all 0 b f t r.rising }

  s_append : {b : ℕ} {t : Table A} (xs : List A) → Sorted b t → Sorted (b + length xs) (t ++ number b xs)
  s_append {b} {t} xs r = record { rising = rising_append 0 b xs t r.rising }

  s_one : {b : ℕ} {t : Table A} (x : A) → Sorted b t → Sorted (b + 1) (t ++ ((b, x) ∷ []))
  unfolding number
  s_one {b} {t} x r = s_append (x ∷ []) r

  pub s_more : {b : ℕ} {t : Table A} → Sorted b t → Sorted (b + 0) t
  s_more {b} {t} r = subst (λ (n : ℕ). Sorted n t) (sym (add-zero b)) r

-- births of operations and of values are those that flags and types are given for
pub given_born : (e : Edit) → (length (new_flags e) ≡ (births e).operations) × (length (new_types e) ≡ (births e).values)
unfolding new_flags new_types births zeros
given_born (new_operation fl ts vs bs g) = (refl, refl)
given_born (new_block ts) = (refl, refl)
given_born (push_use sl o d) = (refl, refl)
given_born (insert_use sl o i d) = (refl, refl)
given_born (replace_use sl o i d) = (refl, refl)
given_born (remove_use sl o i) = (refl, refl)
given_born (pop_use sl o) = (refl, refl)
given_born (push_value m o ty) = (refl, refl)
given_born (insert_value m o i ty) = (refl, refl)
given_born (remove_value m o i) = (refl, refl)
given_born (pop_value m o) = (refl, refl)
given_born (link_after m x c) = (refl, refl)
given_born (link_before m x c) = (refl, refl)
given_born (link_front m x c) = (refl, refl)
given_born (link_back m x c) = (refl, refl)
given_born (unlink m x) = (refl, refl)
given_born (move_region r o) = (refl, refl)
given_born (move_use sl a u b) = (refl, refl)
given_born (replace_some a b us) = (refl, refl)
given_born (retarget_some a b ps) = (refl, refl)
given_born (drop_uses th) = (refl, refl)
given_born (erase_operation n) = (refl, refl)
given_born (erase_block n) = (refl, refl)
given_born (erase_region o i) = (refl, refl)
given_born (verdict th) = (refl, refl)

pub record Ordered (s : State) : Type 0 where
  pub ops : Sorted s.history.born.operations s.history.operations
  pub blks : Sorted s.history.born.blocks s.history.blocks
  pub us : Sorted s.history.born.uses s.history.uses
  pub flgs : Sorted s.history.born.operations s.flags
  pub tys : Sorted s.history.born.values s.types
  pub lists : Sorted s.history.born.blocks s.orders.ops_of
  pub blists : Sorted s.history.born.regions s.orders.blocks_of

-- one of two histories
chosen_ops : (c : Bool) (h k : History) (b : ℕ) → Sorted b h.operations → Sorted b k.operations → Sorted b (cond c h k).operations
chosen_ops true h k b r q = r
chosen_ops false h k b r q = q

chosen_blocks : (c : Bool) (h k : History) (b : ℕ) → Sorted b h.blocks → Sorted b k.blocks → Sorted b (cond c h k).blocks
chosen_blocks true h k b r q = r
chosen_blocks false h k b r q = q

chosen_uses : (c : Bool) (h k : History) (b : ℕ) → Sorted b h.uses → Sorted b k.uses → Sorted b (cond c h k).uses
chosen_uses true h k b r q = r
chosen_uses false h k b r q = q

handed_ops : (q : ℕ) (p : Option ℕ) (o : ℕ) (h : History) (b : ℕ) → Sorted b h.operations → Sorted b (hand_over q p o h).operations
unfolding hand_over with_operations
handed_ops q none o h b r = r
handed_ops q (some p) o h b r = chosen_ops (eqb p o) h (with_operations h (change o (change_regions (λ xs. xs ++ (q ∷ []))) (change p (change_regions (swap_out q)) h.operations))) b r (s_change o _ (s_change p _ r))

handed_rest : (q : ℕ) (p : Option ℕ) (o : ℕ) (h : History) → ((hand_over q p o h).blocks ≡ h.blocks) × ((hand_over q p o h).uses ≡ h.uses)
unfolding hand_over with_operations
handed_rest q none o h = (refl, refl)
handed_rest q (some p) o h = go (eqb p o)
  where
    k : History
    k = with_operations h (change o (change_regions (λ xs. xs ++ (q ∷ []))) (change p (change_regions (swap_out q)) h.operations))

    go : (c : Bool) → ((cond c h k).blocks ≡ h.blocks) × ((cond c h k).uses ≡ h.uses)
    go true = (refl, refl)
    go false = (refl, refl)

ordered_ops : (e : Edit) (h : History) → Sorted h.born.operations h.operations → Sorted (h.born.operations + (births e).operations) (carry_out e h).operations
unfolding carry_out births zeros with_operations with_blocks with_uses add_use take_use end_uses change_values put_in drop_inside end_inside place_some hand_over
ordered_ops (new_operation fl ts vs bs g) h r = s_one _ r
ordered_ops (new_block ts) h r = s_more r
ordered_ops (push_use sl o d) h r = s_more (s_change o _ r)
ordered_ops (insert_use sl o i d) h r = s_more (s_change o _ r)
ordered_ops (replace_use sl o i d) h r = s_more (s_change o _ r)
ordered_ops (remove_use sl o i) h r = s_more (s_change o _ r)
ordered_ops (pop_use sl o) h r = s_more (s_change o _ r)
ordered_ops (push_value operation o ty) h r = s_more (s_change o _ r)
ordered_ops (push_value block o ty) h r = s_more r
ordered_ops (insert_value operation o i ty) h r = s_more (s_change o _ r)
ordered_ops (insert_value block o i ty) h r = s_more r
ordered_ops (remove_value operation o i) h r = s_more (s_change o _ r)
ordered_ops (remove_value block o i) h r = s_more r
ordered_ops (pop_value operation o) h r = s_more (s_change o _ r)
ordered_ops (pop_value block o) h r = s_more r
ordered_ops (link_after operation x c) h r = s_more (s_change x _ r)
ordered_ops (link_after block x c) h r = s_more r
ordered_ops (link_before operation x c) h r = s_more (s_change x _ r)
ordered_ops (link_before block x c) h r = s_more r
ordered_ops (link_front operation x c) h r = s_more (s_change x _ r)
ordered_ops (link_front block x c) h r = s_more r
ordered_ops (link_back operation x c) h r = s_more (s_change x _ r)
ordered_ops (link_back block x c) h r = s_more r
ordered_ops (unlink operation x) h r = s_more (s_change x _ r)
ordered_ops (unlink block x) h r = s_more r
ordered_ops (move_region q o) h r = s_more (handed_ops q (parent h q) o h _ r)
ordered_ops (move_use sl a u b) h r = s_more (chosen_ops (eqb a b) h (with_uses h (change u (λ _. defined sl b) h.uses)) _ r r)
ordered_ops (replace_some a b us) h r = s_more r
ordered_ops (retarget_some a b ps) h r = s_more r
ordered_ops (drop_uses th) h r = s_more (s_change_all _ r)
ordered_ops (erase_operation n) h r = s_more (s_keep _ r)
ordered_ops (erase_block n) h r = s_more (s_keep _ r)
ordered_ops (erase_region o i) h r = s_more (s_change o _ (s_keep _ r))
ordered_ops (verdict th) h r = s_more r

ordered_blocks : (e : Edit) (h : History) → Sorted h.born.blocks h.blocks → Sorted (h.born.blocks + (births e).blocks) (carry_out e h).blocks
unfolding carry_out births zeros with_operations with_blocks with_uses add_use take_use end_uses change_values put_in drop_inside end_inside place_some hand_over
ordered_blocks (new_operation fl ts vs bs g) h r = s_more r
ordered_blocks (new_block ts) h r = s_one _ r
ordered_blocks (push_use sl o d) h r = s_more r
ordered_blocks (insert_use sl o i d) h r = s_more r
ordered_blocks (replace_use sl o i d) h r = s_more r
ordered_blocks (remove_use sl o i) h r = s_more r
ordered_blocks (pop_use sl o) h r = s_more r
ordered_blocks (push_value operation o ty) h r = s_more r
ordered_blocks (push_value block o ty) h r = s_more (s_change o _ r)
ordered_blocks (insert_value operation o i ty) h r = s_more r
ordered_blocks (insert_value block o i ty) h r = s_more (s_change o _ r)
ordered_blocks (remove_value operation o i) h r = s_more r
ordered_blocks (remove_value block o i) h r = s_more (s_change o _ r)
ordered_blocks (pop_value operation o) h r = s_more r
ordered_blocks (pop_value block o) h r = s_more (s_change o _ r)
ordered_blocks (link_after operation x c) h r = s_more r
ordered_blocks (link_after block x c) h r = s_more (s_change x _ r)
ordered_blocks (link_before operation x c) h r = s_more r
ordered_blocks (link_before block x c) h r = s_more (s_change x _ r)
ordered_blocks (link_front operation x c) h r = s_more r
ordered_blocks (link_front block x c) h r = s_more (s_change x _ r)
ordered_blocks (link_back operation x c) h r = s_more r
ordered_blocks (link_back block x c) h r = s_more (s_change x _ r)
ordered_blocks (unlink operation x) h r = s_more r
ordered_blocks (unlink block x) h r = s_more (s_change x _ r)
ordered_blocks (move_region q o) h r = s_more (subst (Sorted h.born.blocks) (sym (handed_rest q (parent h q) o h).0) r)
ordered_blocks (move_use sl a u b) h r = s_more (chosen_blocks (eqb a b) h (with_uses h (change u (λ _. defined sl b) h.uses)) _ r r)
ordered_blocks (replace_some a b us) h r = s_more r
ordered_blocks (retarget_some a b ps) h r = s_more r
ordered_blocks (drop_uses th) h r = s_more r
ordered_blocks (erase_operation n) h r = s_more (s_keep _ r)
ordered_blocks (erase_block n) h r = s_more (s_keep _ r)
ordered_blocks (erase_region o i) h r = s_more (s_keep _ r)
ordered_blocks (verdict th) h r = s_more r

ordered_uses : (e : Edit) (h : History) → Sorted h.born.uses h.uses → Sorted (h.born.uses + (births e).uses) (carry_out e h).uses
unfolding carry_out births zeros with_operations with_blocks with_uses add_use take_use end_uses change_values put_in drop_inside end_inside place_some hand_over
ordered_uses (new_operation fl ts vs bs g) h r = subst (λ (k : ℕ). Sorted (h.born.uses + k) (h.uses ++ number h.born.uses (map of_value vs ++ map of_block bs))) (omega (arith, length-append (map of_value vs) (map of_block bs), length-map vs of_value, length-map bs of_block)) (s_append (map of_value vs ++ map of_block bs) r)
ordered_uses (new_block ts) h r = s_more r
ordered_uses (push_use sl o d) h r = s_one _ r
ordered_uses (insert_use sl o i d) h r = s_one _ r
ordered_uses (replace_use sl o i d) h r = s_keep _ (s_one _ r)
ordered_uses (remove_use sl o i) h r = s_more (s_keep _ r)
ordered_uses (pop_use sl o) h r = s_more (s_keep _ r)
ordered_uses (push_value operation o ty) h r = s_more r
ordered_uses (push_value block o ty) h r = s_more r
ordered_uses (insert_value operation o i ty) h r = s_more r
ordered_uses (insert_value block o i ty) h r = s_more r
ordered_uses (remove_value operation o i) h r = s_more r
ordered_uses (remove_value block o i) h r = s_more r
ordered_uses (pop_value operation o) h r = s_more r
ordered_uses (pop_value block o) h r = s_more r
ordered_uses (link_after operation x c) h r = s_more r
ordered_uses (link_after block x c) h r = s_more r
ordered_uses (link_before operation x c) h r = s_more r
ordered_uses (link_before block x c) h r = s_more r
ordered_uses (link_front operation x c) h r = s_more r
ordered_uses (link_front block x c) h r = s_more r
ordered_uses (link_back operation x c) h r = s_more r
ordered_uses (link_back block x c) h r = s_more r
ordered_uses (unlink operation x) h r = s_more r
ordered_uses (unlink block x) h r = s_more r
ordered_uses (move_region q o) h r = s_more (subst (Sorted h.born.uses) (sym (handed_rest q (parent h q) o h).1) r)
ordered_uses (move_use sl a u b) h r = s_more (chosen_uses (eqb a b) h (with_uses h (change u (λ _. defined sl b) h.uses)) _ r (s_change u (λ _. defined sl b) r))
ordered_uses (replace_some a b us) h r = s_more (s_change_all _ r)
ordered_uses (retarget_some a b ps) h r = s_more (s_change_all _ r)
ordered_uses (drop_uses th) h r = s_more (s_keep _ r)
ordered_uses (erase_operation n) h r = s_more (s_keep _ r)
ordered_uses (erase_block n) h r = s_more (s_keep _ r)
ordered_uses (erase_region o i) h r = s_more (s_keep _ r)
ordered_uses (verdict th) h r = s_more r

-- the lists of one sort
if_sorted : (b : ℕ) (m w : Member) (t u : Table (List ℕ)) → Sorted b t → Sorted b u → Sorted b (if_same m w t u)
unfolding if_same
if_sorted b operation operation t u r q = r
if_sorted b operation block t u r q = q
if_sorted b block operation t u r q = q
if_sorted b block block t u r q = r

new_sorted : (m : Member) (e : Edit) (h : History) (t : Table (List ℕ)) → Sorted (containers m h.born) t → Sorted (containers m h.born + containers m (births e)) (new_lists m e h t)
unfolding new_lists
new_sorted m e h t r = subst (λ (n : ℕ). Sorted (containers m h.born + n) (t ++ number (containers m h.born) (replicate (containers m (births e)) []))) (length-replicate (containers m (births e)) []) (s_append (replicate (containers m (births e)) []) r)

none_born : (m : Member) → containers m zeros ≡ 0
unfolding containers zeros
none_born operation = refl
none_born block = refl

s_zero : (m : Member) (b : ℕ) (t : Table (List ℕ)) → Sorted b t → Sorted (b + containers m zeros) t
s_zero m b t r = subst (λ (n : ℕ). Sorted (b + n) t) (sym (none_born m)) (s_more r)

-- births of uses or values make no lists
s_none : (m : Member) (v u b : ℕ) (t : Table (List ℕ)) → Sorted b t → Sorted (b + containers m (record { operations = 0; blocks = 0; regions = 0; values = v; uses = u })) t
unfolding containers
s_none operation v u b t r = s_more r
s_none block v u b t r = s_more r

s_live : (m : Member) (b : ℕ) (k : History) (t : Table (List ℕ)) → Sorted b t → Sorted b (still_live m k t)
unfolding still_live
s_live m b k t r = s_change_all _ (s_keep _ r)

pub ordered_lists : (m : Member) (e : Edit) (h k : History) (t : Table (List ℕ)) → Sorted (containers m h.born) t → Sorted (containers m h.born + containers m (births e)) (order m e h k t)
unfolding order births
ordered_lists m (new_operation fl ts vs bs g) h k t r = new_sorted m (new_operation fl ts vs bs g) h t r
ordered_lists m (new_block ts) h k t r = new_sorted m (new_block ts) h t r
ordered_lists m (push_use sl o d) h k t r = s_none m _ _ _ t r
ordered_lists m (insert_use sl o i d) h k t r = s_none m _ _ _ t r
ordered_lists m (replace_use sl o i d) h k t r = s_none m _ _ _ t r
ordered_lists m (remove_use sl o i) h k t r = s_zero m _ t r
ordered_lists m (pop_use sl o) h k t r = s_zero m _ t r
ordered_lists m (push_value w o ty) h k t r = s_none m _ _ _ t r
ordered_lists m (insert_value w o i ty) h k t r = s_none m _ _ _ t r
ordered_lists m (remove_value w o i) h k t r = s_zero m _ t r
ordered_lists m (pop_value w o) h k t r = s_zero m _ t r
ordered_lists m (link_after w x c) h k t r = s_zero m _ _ (if_sorted _ m w _ t (s_change_all _ r) r)
ordered_lists m (link_before w x c) h k t r = s_zero m _ _ (if_sorted _ m w _ t (s_change_all _ r) r)
ordered_lists m (link_front w x c) h k t r = s_zero m _ _ (if_sorted _ m w _ t (s_change c _ r) r)
ordered_lists m (link_back w x c) h k t r = s_zero m _ _ (if_sorted _ m w _ t (s_change c _ r) r)
ordered_lists m (unlink w x) h k t r = s_zero m _ _ (if_sorted _ m w _ t (s_change_all _ r) r)
ordered_lists m (move_region q o) h k t r = s_zero m _ t r
ordered_lists m (move_use sl a u b) h k t r = s_zero m _ t r
ordered_lists m (replace_some a b us) h k t r = s_zero m _ t r
ordered_lists m (retarget_some a b ps) h k t r = s_zero m _ t r
ordered_lists m (drop_uses th) h k t r = s_zero m _ t r
ordered_lists m (erase_operation n) h k t r = s_zero m _ _ (s_live m _ k t r)
ordered_lists m (erase_block n) h k t r = s_zero m _ _ (s_live m _ k t r)
ordered_lists m (erase_region o i) h k t r = s_zero m _ _ (s_live m _ k t r)
ordered_lists m (verdict th) h k t r = s_zero m _ t r

pub ordered_accept : (e : Edit) (s : State) → T (eqb (refusal_of s e) 0) → Ordered s → Ordered (accept e s)
unfolding accept remember bear plus
ordered_accept e s k w = record {
  ops = ordered_ops e s.history w.ops;
  blks = ordered_blocks e s.history w.blks;
  us = ordered_uses e s.history w.us;
  flgs = s_keep _ (subst (λ (n : ℕ). Sorted (s.history.born.operations + n) (s.flags ++ number s.history.born.operations (new_flags e))) (given_born e).0 (s_append (new_flags e) w.flgs));
  tys = s_keep _ (subst (λ (n : ℕ). Sorted (s.history.born.values + n) (s.types ++ number s.history.born.values (new_types e))) (given_born e).1 (s_append (new_types e) w.tys));
  lists = unfold containers reorder in (ordered_lists operation e s.history _ s.orders.ops_of w.lists);
  blists = unfold containers reorder in (ordered_lists block e s.history _ s.orders.blocks_of w.blists);
}

none_yet : {A : Type 0} → Sorted {A = A} 0 []
none_yet = record { rising = omega arith }

pub ordered_start : (k : Five) → Ordered (start k)
unfolding start begin zeros no_orders
ordered_start k = record { ops = none_yet; blks = none_yet; us = none_yet; flgs = none_yet; tys = none_yet; lists = none_yet; blists = none_yet }
