-- Each live use stands at one place and is held once; uses born are uses ended and uses live. Assumes nothing.
use mathlib.Core.Path.{◌≡◌, refl, sym, ap, subst, ◌∙◌}
use mathlib.Core.Bool.{Bool, true, false, not, cond, ◌||◌}
use mathlib.Core.List.{List, [], ◌∷◌, ◌++◌, map}
use mathlib.Core.Option.{Option, none, some}
use Prim.Native.Nat.{ℕ, zero, suc, ◌+◌, ◌-◌, ◌≤◌, ◌<◌}
use native.Mathlib.Omega.{arith}
use borrow.Author.Tests.{ne_eqb, leb-true, leb-false}
use native.Mathlib.Nat.{not-suc-le-zero, add-zero, zero-add, le_of_suc-le-suc, suc-add, add-suc}
use lib.Dec.{T, eqb, leb, eqb→eq, eqb_refl, leb→le, nleb→lt, not_T}
use lib.ListN.{length, get_or, set, length-append, length-map}
use Rattle.rules.specs.Table.{Table, find, keys, change, change_all, keep_keys, gather, number, member, insert_at, remove_at, swap_out, is_some, up, one, count, weigh}
use Rattle.edit.specs.Record.{Slot, operand, successor, Member, operation, block, Thing, the_operation, the_block, the_region, Definition, of_value, of_block, Edit, new_operation, new_block, push_use, insert_use, replace_use, remove_use, pop_use, push_value, insert_value, remove_value, pop_value, link_after, link_before, link_front, link_back, unlink, move_region, move_use, replace_some, retarget_some, drop_uses, erase_operation, erase_block, erase_region, verdict}
use Rattle.rules.specs.History.{Operation, Five, History, births, bear, plus, zeros, carry_out, remember, live_operation, slot_of, uses_in, all_uses_in, defined, change_slot, change_results, change_regions, change_arguments, into_block, into_region, with_operations, with_blocks, with_uses, end_uses, add_use, take_use, change_values, put_in, emptied, uses_inside, drop_inside, end_inside, hand_over, place_some, operation_in, parent, region_index, begin}
use Rattle.rules.specs.State.{State, accept, start}
use Rattle.rules.specs.Refusal.{operation_named, named, check, missing, first_missing, from_state, refusal_of, slot_length}
use Rattle.rules.proofs.Live.{zero_first, IsFound, all_found}
use Rattle.rules.proofs.Closure.{or_else_zero}
use Rattle.rules.proofs.Tables.{All, weigh_append, weigh_change, weigh_same}
use Rattle.rules.proofs.Rising.{Sorted, Ordered}

pub count_append : (u : ℕ) (s t : List ℕ) → count u (s ++ t) ≡ count u s + count u t
count_append u [] t = sym (zero-add (count u t))
count_append u (x ∷ s) t = let ih : count u (s ++ t) ≡ count u s + count u t = count_append u s t in omega arith

pub count_insert : (u i a : ℕ) (s : List ℕ) → count u (insert_at i a s) ≡ one (eqb a u) + count u s
unfolding insert_at
count_insert u zero a s = refl
count_insert u (suc i) a [] = refl
count_insert u (suc i) a (x ∷ s) = let ih : count u (insert_at i a s) ≡ one (eqb a u) + count u s = count_insert u i a s in omega arith

pub count_remove : (u i : ℕ) (s : List ℕ) → i < length s → one (eqb (get_or s i 0) u) + count u (remove_at i s) ≡ count u s
unfolding remove_at
count_remove u i [] h = absurd (not-suc-le-zero h)
count_remove u zero (x ∷ s) h = refl
count_remove u (suc i) (x ∷ s) h = let ih : one (eqb (get_or s i 0) u) + count u (remove_at i s) ≡ count u s = count_remove u i s (le_of_suc-le-suc h) in omega arith

pub count_set : (u i a : ℕ) (s : List ℕ) → i < length s → one (eqb (get_or s i 0) u) + count u (set s i a) ≡ one (eqb a u) + count u s
count_set u i a [] h = absurd (not-suc-le-zero h)
count_set u zero a (x ∷ s) h = omega arith
count_set u (suc i) a (x ∷ s) h = let ih : one (eqb (get_or s i 0) u) + count u (set s i a) ≡ one (eqb a u) + count u s = count_set u i a s (le_of_suc-le-suc h) in omega arith

-- in the list or not
pub no_member : (u : ℕ) (s : List ℕ) → T (not (member u s)) → count u s ≡ 0
unfolding member
no_member u [] h = refl
no_member u (x ∷ s) h = go (no_member u s) (eqb x u) h
  where
    go : (T (not (member u s)) → count u s ≡ 0) → (b : Bool) → T (not (b || member u s)) → one b + count u s ≡ 0
    go ih true e = absurd e
    go ih false e = let z : count u s ≡ 0 = ih e in omega arith

pub yes_member : (u : ℕ) (s : List ℕ) → T (member u s) → 1 ≤ count u s
unfolding member
yes_member u [] h = absurd h
yes_member u (x ∷ s) h = go (yes_member u s) (eqb x u) h
  where
    go : (T (member u s) → 1 ≤ count u s) → (b : Bool) → T (b || member u s) → 1 ≤ one b + count u s
    go ih true e = omega arith
    go ih false e = let z : 1 ≤ count u s = ih e in omega arith

pub eqb_comm : (a b : ℕ) → eqb a b ≡ eqb b a
eqb_comm a b = go (eqb a b) (eqb b a) refl refl
  where
    go : (x y : Bool) → eqb a b ≡ x → eqb b a ≡ y → x ≡ y
    go true true p q = refl
    go false false p q = refl
    go true false p q = absurd (subst T (ap (λ (c : ℕ). eqb c a) (eqb→eq a b (subst T (sym p) tt)) ∙ q) (eqb_refl a))
    go false true p q = absurd (subst T (sym (ap (λ (c : ℕ). eqb a c) (eqb→eq b a (subst T (sym q) tt))) ∙ p) (eqb_refl a))

-- ---- places of a use in operations

abbrev pub here : ℕ → Operation → ℕ
here u o = count u o.operands + count u o.successors

abbrev pub total : ℕ → Table Operation → ℕ
total u t = weigh (here u) t

-- the uses of the operations inside, and those of the others
total_split : (u : ℕ) (ins : ℕ → Bool) (t : Table Operation) → count u (gather ins (λ _ o. all_uses_in o) t) + total u (keep_keys (λ n. not (ins n)) t) ≡ total u t
unfolding gather keep_keys all_uses_in
total_split u ins [] = refl
total_split u ins (e ∷ t) = go (total_split u ins t) (ins e.0)
  where
    go : count u (gather ins (λ _ o. all_uses_in o) t) + total u (keep_keys (λ n. not (ins n)) t) ≡ total u t → (b : Bool) → count u (cond b ((e.1.operands ++ e.1.successors) ++ gather ins (λ _ o. all_uses_in o) t) (gather ins (λ _ o. all_uses_in o) t)) + total u (cond (not b) (e ∷ keep_keys (λ n. not (ins n)) t) (keep_keys (λ n. not (ins n)) t)) ≡ here u e.1 + total u t
    go ih true =
        omega (arith, count_append u (e.1.operands ++ e.1.successors) (gather ins (λ _ o. all_uses_in o) t), count_append u e.1.operands e.1.successors)
    go ih false = omega arith

total_emptied : (u : ℕ) (ins : ℕ → Bool) (t : Table Operation) → total u (change_all (λ n. cond (ins n) emptied (λ o. o)) t) ≡ total u (keep_keys (λ n. not (ins n)) t)
unfolding change_all keep_keys emptied change_slot
total_emptied u ins [] = refl
total_emptied u ins (e ∷ t) = go (total_emptied u ins t) (ins e.0)
  where
    go : total u (change_all (λ n. cond (ins n) emptied (λ o. o)) t) ≡ total u (keep_keys (λ n. not (ins n)) t) → (b : Bool) → here u (cond b emptied (λ o. o) e.1) + total u (change_all (λ n. cond (ins n) emptied (λ o. o)) t) ≡ total u (cond (not b) (e ∷ keep_keys (λ n. not (ins n)) t) (keep_keys (λ n. not (ins n)) t))
    go ih true = omega arith
    go ih false = omega arith

-- ---- keys

module _ {A : Type 0} where
  pub keys_append : (u : ℕ) (s t : Table A) → count u (keys (s ++ t)) ≡ count u (keys s) + count u (keys t)
  unfolding keys
  keys_append u [] t = sym (zero-add (count u (keys t)))
  keys_append u (e ∷ s) t = let ih : count u (keys (s ++ t)) ≡ count u (keys s) + count u (keys t) = keys_append u s t in omega arith

  pub keys_number : (n : ℕ) (xs : List A) → keys (number n xs) ≡ up n (length xs)
  unfolding keys number up
  keys_number n [] = refl
  keys_number n (x ∷ xs) = ap {B = List ℕ} (λ r. n ∷ r) (keys_number (suc n) xs)

  pub keys_change : (n : ℕ) (f : A → A) (t : Table A) → keys (change n f t) ≡ keys t
  unfolding keys change
  keys_change n f [] = refl
  keys_change n f (e ∷ t) = go (keys_change n f t) (eqb e.0 n)
    where
      go : keys (change n f t) ≡ keys t → (b : Bool) → keys (cond b ((e.0, f e.1) ∷ change n f t) (e ∷ change n f t)) ≡ e.0 ∷ keys t
      go ih true = ap {B = List ℕ} (λ r. e.0 ∷ r) ih
      go ih false = ap {B = List ℕ} (λ r. e.0 ∷ r) ih

  pub keys_change_all : (f : ℕ → A → A) (t : Table A) → keys (change_all f t) ≡ keys t
  unfolding keys change_all
  keys_change_all f [] = refl
  keys_change_all f (e ∷ t) = ap {B = List ℕ} (λ r. e.0 ∷ r) (keys_change_all f t)

  pub length_keys : (t : Table A) → length t ≡ length (keys t)
  unfolding keys
  length_keys [] = refl
  length_keys (e ∷ t) = ap suc (length_keys t)

  -- a key that passes is kept as often as it stood, and one that fails not at all
  pub keys_kept : (u : ℕ) (p : ℕ → Bool) (t : Table A) → T (p u) → count u (keys (keep_keys p t)) ≡ count u (keys t)
  unfolding keys keep_keys
  keys_kept u p [] k = refl
  keys_kept u p (e ∷ t) k = go (keys_kept u p t k) (p e.0) refl (eqb e.0 u) refl
    where
      go : count u (keys (keep_keys p t)) ≡ count u (keys t) → (b : Bool) → p e.0 ≡ b → (c : Bool) → eqb e.0 u ≡ c → count u (keys (cond b (e ∷ keep_keys p t) (keep_keys p t))) ≡ one (eqb e.0 u) + count u (keys t)
      go ih true z c w = omega arith
      go ih false z true w = absurd (subst T (sym (ap p (eqb→eq e.0 u (subst T (sym w) tt))) ∙ z) k)
      go ih false z false w = omega (arith, ap one w)

  pub keys_gone : (u : ℕ) (p : ℕ → Bool) (t : Table A) → T (not (p u)) → count u (keys (keep_keys p t)) ≡ 0
  unfolding keys keep_keys
  keys_gone u p [] k = refl
  keys_gone u p (e ∷ t) k = go (keys_gone u p t k) (p e.0) refl (eqb e.0 u) refl
    where
      go : count u (keys (keep_keys p t)) ≡ 0 → (b : Bool) → p e.0 ≡ b → (c : Bool) → eqb e.0 u ≡ c → count u (keys (cond b (e ∷ keep_keys p t) (keep_keys p t))) ≡ 0
      go ih true z true w = absurd (subst (λ (b : Bool). T (not b)) (sym (ap p (eqb→eq e.0 u (subst T (sym w) tt))) ∙ z) k)
      go ih true z false w = omega (arith, ap one w)
      go ih false z c w = ih

  keep_all : (p : ℕ → Bool) → ((n : ℕ) → p n ≡ true) → (t : Table A) → length (keep_keys p t) ≡ length t
  unfolding keep_keys
  keep_all p k [] = refl
  keep_all p k (e ∷ t) = go (keep_all p k t) (p e.0) (k e.0)
    where
      go : length (keep_keys p t) ≡ length t → (b : Bool) → b ≡ true → length (cond b (e ∷ keep_keys p t) (keep_keys p t)) ≡ suc (length t)
      go ih true z = ap suc ih
      go ih false z = absurd (subst T (sym z) tt)

  -- one number more on the list of what goes
  keep_one_less : (x : ℕ) (us : List ℕ) → T (not (member x us)) → (t : Table A) → length (keep_keys (λ u. not (member u (x ∷ us))) t) + count x (keys t) ≡ length (keep_keys (λ u. not (member u us)) t)
  unfolding keep_keys keys member
  keep_one_less x us k [] = refl
  keep_one_less x us k (e ∷ t) = go (keep_one_less x us k t) (eqb e.0 x) refl (member e.0 us) refl
    where
      sums : length (keep_keys (λ u. not (member u (x ∷ us))) t) + count x (keys t) ≡ length (keep_keys (λ u. not (member u us)) t) → (b c : Bool) → (T b → T (not c)) → length (cond (not (b || c)) (e ∷ keep_keys (λ u. not (member u (x ∷ us))) t) (keep_keys (λ u. not (member u (x ∷ us))) t)) + (one b + count x (keys t)) ≡ length (cond (not c) (e ∷ keep_keys (λ u. not (member u us)) t) (keep_keys (λ u. not (member u us)) t))
      sums ih true true n = absurd (n tt)
      sums ih true false n = omega arith
      sums ih false true n = omega arith
      sums ih false false n = omega arith

      go : length (keep_keys (λ u. not (member u (x ∷ us))) t) + count x (keys t) ≡ length (keep_keys (λ u. not (member u us)) t) → (b : Bool) → eqb e.0 x ≡ b → (c : Bool) → member e.0 us ≡ c → length (cond (not (eqb x e.0 || member e.0 us)) (e ∷ keep_keys (λ u. not (member u (x ∷ us))) t) (keep_keys (λ u. not (member u (x ∷ us))) t)) + (one (eqb e.0 x) + count x (keys t)) ≡ length (cond (not (member e.0 us)) (e ∷ keep_keys (λ u. not (member u us)) t) (keep_keys (λ u. not (member u us)) t))
      go ih b w c z = subst (λ (q : Bool). length (cond (not (q || member e.0 us)) (e ∷ keep_keys (λ u. not (member u (x ∷ us))) t) (keep_keys (λ u. not (member u (x ∷ us))) t)) + (one (eqb e.0 x) + count x (keys t)) ≡ length (cond (not (member e.0 us)) (e ∷ keep_keys (λ u. not (member u us)) t) (keep_keys (λ u. not (member u us)) t))) (eqb_comm e.0 x) (sums ih (eqb e.0 x) (member e.0 us) (λ q. subst (λ (n : ℕ). T (not (member n us))) (sym (eqb→eq e.0 x q)) k))

  -- as many go as the list names
  end_length : (us : List ℕ) (t : Table A) → ((u : ℕ) → count u us ≤ count u (keys t)) → ((u : ℕ) → count u (keys t) ≤ 1) → length (keep_keys (λ u. not (member u us)) t) + length us ≡ length t
  end_length [] t h k = unfold member in (add-zero _ ∙ keep_all (λ u. true) (λ n. refl) t)
  end_length (x ∷ us) t h k =
      let fresh : T (not (member x us)) = gone (member x us) refl in
      let less : length (keep_keys (λ u. not (member u (x ∷ us))) t) + count x (keys t) ≡ length (keep_keys (λ u. not (member u us)) t) = keep_one_less x us fresh t in
      let ih : length (keep_keys (λ u. not (member u us)) t) + length us ≡ length t = end_length us t (λ u. omega (arith, h u)) k in
      omega (arith, h x, k x, ap one (same x))
    where
      same : (y : ℕ) → eqb y y ≡ true
      same y = yes (eqb y y) (eqb_refl y)
        where
          yes : (b : Bool) → T b → b ≡ true
          yes true q = refl
          yes false q = absurd q

      gone : (b : Bool) → member x us ≡ b → T (not b)
      gone true z = let q : 1 ≤ count x us = yes_member x us (subst T (sym z) tt) in absurd (omega (arith, h x, k x, ap one (same x)))
      gone false z = tt

pub count_up : (u n a b : ℕ) → count u (up n (a + b)) ≡ count u (up n a) + count u (up (n + a) b)
unfolding up
count_up u n zero b = omega (arith, ap (λ (m : ℕ). count u (up n m)) (zero-add b), ap (λ (m : ℕ). count u (up m b)) (add-zero n))
count_up u n (suc a) b =
    let ih : count u (up (suc n) (a + b)) ≡ count u (up (suc n) a) + count u (up (suc n + a) b) = count_up u (suc n) a b in
    omega (arith, ap (λ (m : ℕ). count u (up n m)) (suc-add a b), ap (λ (m : ℕ). count u (up m b)) (suc-add n a ∙ sym (add-suc n a)))

-- numbers below or past the run do not stand in it, and none stands in it twice
pub up_below : (u n k : ℕ) → u < n → count u (up n k) ≡ 0
unfolding up
up_below u n zero h = refl
up_below u n (suc k) h = omega (arith, ap one (ne_eqb n u (λ e. omega arith)), up_below u (suc n) k (omega arith))

pub up_past : (u n k : ℕ) → n + k ≤ u → count u (up n k) ≡ 0
unfolding up
up_past u n zero h = refl
up_past u n (suc k) h = omega (arith, ap one (ne_eqb n u (λ e. omega arith)), up_past u (suc n) k (omega arith))

pub up_once : (u n k : ℕ) → count u (up n k) ≤ 1
unfolding up
up_once u n zero = omega arith
up_once u n (suc k) = go (eqb n u) refl (up_once u (suc n) k)
  where
    go : (b : Bool) → eqb n u ≡ b → count u (up (suc n) k) ≤ 1 → one (eqb n u) + count u (up (suc n) k) ≤ 1
    go true z ih = omega (arith, ap one z, up_below u (suc n) k (omega (arith, eqb→eq n u (subst T (sym z) tt))))
    go false z ih = omega (arith, ap one z)

-- ---- the invariant, with the uses of a list taken out of their places and not yet ended, and b the next use number

pub record Loose (out : List ℕ) (b : ℕ) (h : History) : Type 0 where
  pub agree : (u : ℕ) → total u h.operations + count u out ≡ count u (keys h.uses)
  pub once : (u : ℕ) → count u (keys h.uses) ≤ 1
  pub below : (u : ℕ) → b ≤ u → count u (keys h.uses) ≡ 0
  pub sum : length h.uses + h.ended ≡ b

-- they end
loose_end : (out : List ℕ) (b : ℕ) (h : History) → Loose out b h → Loose [] b (end_uses out h)
unfolding end_uses
loose_end out b h l = record {
  agree = λ u. agrees u (member u out) refl;
  once = λ u. omega (arith, l.once u, fewer u (member u out) refl);
  below = λ u k. omega (arith, l.below u k, fewer u (member u out) refl);
  sum = omega (arith, l.sum, end_length out h.uses (λ u. omega (arith, l.agree u)) l.once);
}
  where
    gone : (u : ℕ) → member u out ≡ true → count u (keys (keep_keys (λ n. not (member n out)) h.uses)) ≡ 0
    gone u z = keys_gone u (λ n. not (member n out)) h.uses (subst (λ (c : Bool). T (not (not c))) (sym z) tt)

    kept : (u : ℕ) → member u out ≡ false → count u (keys (keep_keys (λ n. not (member n out)) h.uses)) ≡ count u (keys h.uses)
    kept u z = keys_kept u (λ n. not (member n out)) h.uses (subst (λ (c : Bool). T (not c)) (sym z) tt)

    fewer : (u : ℕ) (c : Bool) → member u out ≡ c → count u (keys (keep_keys (λ n. not (member n out)) h.uses)) ≤ count u (keys h.uses)
    fewer u true z = omega (arith, gone u z)
    fewer u false z = omega (arith, kept u z)

    agrees : (u : ℕ) (c : Bool) → member u out ≡ c → total u h.operations + 0 ≡ count u (keys (keep_keys (λ n. not (member n out)) h.uses))
    agrees u true z = omega (arith, gone u z, l.agree u, l.once u, yes_member u out (subst T (sym z) tt))
    agrees u false z = omega (arith, kept u z, l.agree u, no_member u out (subst (λ (c : Bool). T (not c)) (sym z) tt))

-- operations, uses and the count of ended uses changed, and no more
loose_same : (b : ℕ) (h k : History) → ((u : ℕ) → total u k.operations ≡ total u h.operations) → keys k.uses ≡ keys h.uses → k.ended ≡ h.ended → Loose [] b h → Loose [] b k
loose_same b h k t s e l = record {
  agree = λ u. omega (arith, t u, l.agree u, ap (count u) s);
  once = λ u. omega (arith, l.once u, ap (count u) s);
  below = λ u q. omega (arith, l.below u q, ap (count u) s);
  sum = omega (arith, l.sum, e, length_keys h.uses, length_keys k.uses, ap length s);
}

pub keys_last : {A : Type 0} (u n : ℕ) (d : A) (t : Table A) → count u (keys (t ++ ((n, d) ∷ []))) ≡ count u (keys t) + one (eqb n u)
unfolding keys
keys_last u n d t = omega (arith, keys_append u t ((n, d) ∷ []))

slot_count : (u : ℕ) (sl : Slot) (f : List ℕ → List ℕ) (a : Operation) → here u (change_slot sl f a) + count u (uses_in sl a) ≡ here u a + count u (f (uses_in sl a))
unfolding change_slot uses_in
slot_count u operand f a = omega arith
slot_count u successor f a = omega arith

-- one new use, put into the operation's list, from which those of out are taken
loose_add : (sl : Slot) (o d c : ℕ) (f : ℕ → List ℕ → List ℕ) (out : List ℕ) (h : History) (a : Operation) → Sorted c h.operations → find h.operations o ≡ some a → ((u : ℕ) → count u (f h.born.uses (uses_in sl a)) + count u out ≡ one (eqb h.born.uses u) + count u (uses_in sl a)) → Loose [] h.born.uses h → Loose out (h.born.uses + 1) (add_use sl o d f h)
unfolding add_use
loose_add sl o d c f out h a r w k l = record {
  agree = λ u. omega (arith, weigh_change (here u) o 0 c (change_slot sl (f h.born.uses)) h.operations a r.rising w, slot_count u sl (f h.born.uses) a, k u, l.agree u, keys_last u h.born.uses (defined sl d) h.uses);
  once = λ u. first u (eqb h.born.uses u) refl;
  below = λ u q. omega (arith, l.below u (omega arith), ap one (ne_eqb h.born.uses u (λ e. omega arith)), keys_last u h.born.uses (defined sl d) h.uses);
  sum = omega (arith, l.sum, length-append h.uses ((h.born.uses, defined sl d) ∷ []));
}
  where
    first : (u : ℕ) (c : Bool) → eqb h.born.uses u ≡ c → count u (keys (h.uses ++ ((h.born.uses, defined sl d) ∷ []))) ≤ 1
    first u true z = omega (arith, ap one z, l.below u (omega (arith, eqb→eq h.born.uses u (subst T (sym z) tt))), keys_last u h.born.uses (defined sl d) h.uses)
    first u false z = omega (arith, ap one z, l.once u, keys_last u h.born.uses (defined sl d) h.uses)

-- the use at an index is taken out and ends
loose_take : (sl : Slot) (o i b c : ℕ) (h : History) (a : Operation) → Sorted c h.operations → find h.operations o ≡ some a → i < length (uses_in sl a) → Loose [] b h → Loose [] b (take_use sl o i h)
unfolding take_use with_operations slot_of
loose_take sl o i b c h a r w k l =
    subst (λ (x : ℕ). Loose [] b (end_uses (x ∷ []) (with_operations h (change o (change_slot sl (remove_at i)) h.operations)))) (ap (λ (q : Option Operation). get_or (slot_of sl q) i 0) (sym w))
    (loose_end (get_or (uses_in sl a) i 0 ∷ []) b (with_operations h (change o (change_slot sl (remove_at i)) h.operations))
    (record {
      agree = λ u. omega (arith, weigh_change (here u) o 0 c (change_slot sl (remove_at i)) h.operations a r.rising w, slot_count u sl (remove_at i) a, count_remove u i (uses_in sl a) k, l.agree u);
      once = l.once;
      below = l.below;
      sum = l.sum;
    }))

-- all in a thing are taken out and end
loose_drop : (t : Thing) (b : ℕ) (h : History) → Loose [] b h → Loose [] b (drop_inside t h)
unfolding drop_inside with_operations uses_inside
loose_drop t b h l =
    loose_end (uses_inside h t) b (with_operations h (change_all (λ n. cond (operation_in h t n) emptied (λ o. o)) h.operations))
    (record {
      agree = λ u. omega (arith, total_emptied u (operation_in h t) h.operations, total_split u (operation_in h t) h.operations, l.agree u);
      once = l.once;
      below = l.below;
      sum = l.sum;
    })

loose_erase : (t : Thing) (b : ℕ) (h : History) → Loose [] b h → Loose [] b (end_inside t h)
unfolding end_inside
loose_erase t b h l =
    loose_same b (drop_inside t h) (end_inside t h) (λ u. sym (dropped_total u)) refl refl (loose_drop t b h l)
  where
    dropped_total : (u : ℕ) → total u (drop_inside t h).operations ≡ total u (keep_keys (λ n. not (operation_in h t n)) h.operations)
    dropped_total u = unfold drop_inside with_operations end_uses in (total_emptied u (operation_in h t) h.operations)

pub length_up : (n k : ℕ) → length (up n k) ≡ k
unfolding up
length_up n zero = refl
length_up n (suc k) = ap suc (length_up (suc n) k)

-- a new operation
loose_new : (fl : ℕ) (ts vs bs : List ℕ) (g : ℕ) (h : History) → Loose [] h.born.uses h → Loose [] (h.born.uses + (length vs + length bs)) (carry_out (new_operation fl ts vs bs g) h)
unfolding carry_out
loose_new fl ts vs bs g h l = record {
  agree = λ u. omega (arith, weigh_append (here u) h.operations ((h.born.operations, made) ∷ []), l.agree u, born_keys u, count_up u h.born.uses (length vs) (length bs));
  once = λ u. side u (leb h.born.uses u) refl;
  below = λ u q. omega (arith, l.below u (omega arith), born_keys u, up_past u h.born.uses (length vs + length bs) q);
  sum = omega (arith, l.sum, length-append h.uses (number h.born.uses ds), length_keys (number h.born.uses ds), ap length (keys_number h.born.uses ds), length_up h.born.uses (length ds), sizes);
}
  where
    ds : List Definition
    ds = map of_value vs ++ map of_block bs

    made : Operation
    made =
        record { results = up h.born.values (length ts); operands = up h.born.uses (length vs); successors = up (h.born.uses + length vs) (length bs); regions = up h.born.regions g; block = none }

    sizes : length ds ≡ length vs + length bs
    sizes = omega (arith, length-append (map of_value vs) (map of_block bs), length-map vs of_value, length-map bs of_block)

    born_keys : (u : ℕ) → count u (keys (h.uses ++ number h.born.uses ds)) ≡ count u (keys h.uses) + count u (up h.born.uses (length vs + length bs))
    born_keys u = omega (arith, keys_append u h.uses (number h.born.uses ds), ap (count u) (keys_number h.born.uses ds ∙ ap (up h.born.uses) sizes))

    side : (u : ℕ) (c : Bool) → leb h.born.uses u ≡ c → count u (keys (h.uses ++ number h.born.uses ds)) ≤ 1
    side u true z = omega (arith, born_keys u, l.below u (leb-true h.born.uses u z), up_once u h.born.uses (length vs + length bs))
    side u false z = omega (arith, born_keys u, l.once u, up_below u h.born.uses (length vs + length bs) (leb-false h.born.uses u z))

pub found_operation : (h : History) (n : ℕ) → IsFound h (operation_named n) → (a : Operation) × (find h.operations n ≡ some a)
unfolding IsFound missing check live_operation is_some
found_operation h n t = go (find h.operations n) t
  where
    go : (o : Option Operation) → T (eqb (check (is_some o) 0 7) 0) → (a : Operation) × (o ≡ some a)
    go none k = absurd k
    go (some a) k = (a, refl)

-- an index that passed the test is inside the list
pub index_in : (h : History) (sl : Slot) (o i : ℕ) (a : Operation) → find h.operations o ≡ some a → T (not (leb (slot_length h sl o) i)) → i < length (uses_in sl a)
unfolding slot_length slot_of
index_in h sl o i a w k = nleb→lt (length (uses_in sl a)) i (subst (λ (q : Option Operation). T (not (leb (length (slot_of sl q)) i))) w k)

loose_take_at : (sl : Slot) (o i c : ℕ) (h : History) → Sorted c h.operations → IsFound h (operation_named o) → T (not (leb (slot_length h sl o) i)) → Loose [] h.born.uses h → Loose [] h.born.uses (take_use sl o i h)
loose_take_at sl o i c h r l k t = let p = found_operation h o l in loose_take sl o i h.born.uses c h p.0 r p.1 (index_in h sl o i p.0 p.1 k) t

loose_replace : (sl : Slot) (o i d c : ℕ) (h : History) → Sorted c h.operations → IsFound h (operation_named o) → T (not (leb (slot_length h sl o) i)) → Loose [] h.born.uses h → Loose [] (h.born.uses + 1) (carry_out (replace_use sl o i d) h)
unfolding carry_out slot_of
loose_replace sl o i d c h r l k t =
    let p = found_operation h o l in
    subst (λ (x : ℕ). Loose [] (h.born.uses + 1) (end_uses (x ∷ []) (add_use sl o d (λ n xs. set xs i n) h))) (ap (λ (q : Option Operation). get_or (slot_of sl q) i 0) (sym p.1))
    (loose_end (get_or (uses_in sl p.0) i 0 ∷ []) (h.born.uses + 1) (add_use sl o d (λ n xs. set xs i n) h)
    (loose_add sl o d c (λ n xs. set xs i n) (get_or (uses_in sl p.0) i 0 ∷ []) h p.0 r p.1 (λ u. omega (arith, count_set u i h.born.uses (uses_in sl p.0) (index_in h sl o i p.0 p.1 k))) t))

-- a list that is not empty has its last index
pub last_in_lem : (n : ℕ) → T (not (eqb n 0)) → T (not (leb n (n - 1)))
last_in_lem zero k = absurd k
last_in_lem (suc n) k = not_T (leb (suc n) (suc n - 1)) (λ q. omega (arith, leb→le (suc n) (suc n - 1) q))

-- no use moves: operations changed at one number otherwise
loose_change : (b n : ℕ) (f : Operation → Operation) (h : History) → ((u : ℕ) (o : Operation) → here u (f o) ≡ here u o) → Loose [] b h → Loose [] b (with_operations h (change n f h.operations))
unfolding with_operations
loose_change b n f h k l = loose_same b h (with_operations h (change n f h.operations)) (λ u. weigh_same (here u) n f h.operations (k u)) refl refl l

loose_values : (m : Member) (b n : ℕ) (f : List ℕ → List ℕ) (h : History) → Loose [] b h → Loose [] b (change_values m n f h)
unfolding change_values with_blocks change_results
loose_values operation b n f h l = loose_change b n (change_results f) h (λ u o. refl) l
loose_values block b n f h l = loose_same b h (with_blocks h (change n (change_arguments f) h.blocks)) (λ u. refl) refl refl l

loose_put_in : (m : Member) (b x : ℕ) (c : Option ℕ) (h : History) → Loose [] b h → Loose [] b (put_in m x c h)
unfolding put_in with_blocks into_block
loose_put_in operation b x c h l = loose_change b x (into_block c) h (λ u o. refl) l
loose_put_in block b x c h l = loose_same b h (with_blocks h (change x (into_region c) h.blocks)) (λ u. refl) refl refl l

loose_hand_over : (b r : ℕ) (p : Option ℕ) (o : ℕ) (h : History) → Loose [] b h → Loose [] b (hand_over r p o h)
unfolding hand_over with_operations change_regions
loose_hand_over b r none o h l = l
loose_hand_over b r (some p) o h l = go (eqb p o)
  where
    go : (c : Bool) → Loose [] b (cond c h (with_operations h (change o (change_regions (λ xs. xs ++ (r ∷ []))) (change p (change_regions (swap_out r)) h.operations))))
    go true = l
    go false = loose_change b o (change_regions (λ xs. xs ++ (r ∷ []))) _ (λ u q. refl) (loose_change b p (change_regions (swap_out r)) h (λ u q. refl) l)

loose_uses : (b : ℕ) (h : History) (us : Table Definition) → keys us ≡ keys h.uses → Loose [] b h → Loose [] b (with_uses h us)
unfolding with_uses
loose_uses b h us e l = loose_same b h (with_uses h us) (λ u. refl) e refl l

loose_new_block : (b : ℕ) (ts : List ℕ) (h : History) → Loose [] b h → Loose [] b (carry_out (new_block ts) h)
unfolding carry_out with_blocks
loose_new_block b ts h l = loose_same b h (carry_out (new_block ts) h) (λ u. refl) refl refl l

loose_place : (b : ℕ) (x y : Definition) (p : ℕ → Bool) (h : History) → Loose [] b h → Loose [] b (place_some x y p h)
unfolding place_some
loose_place b x y p h l = loose_uses b h _ (keys_change_all _ h.uses) l

loose_pop : (sl : Slot) (o c : ℕ) (h : History) → Sorted c h.operations → IsFound h (operation_named o) → T (not (eqb (slot_length h sl o) 0)) → Loose [] h.born.uses h → Loose [] h.born.uses (take_use sl o (length (slot_of sl (find h.operations o)) - 1) h)
unfolding slot_length
loose_pop sl o c h r l k t = loose_take_at sl o (length (slot_of sl (find h.operations o)) - 1) c h r l (last_in_lem (length (slot_of sl (find h.operations o))) k) t

more : (b : ℕ) (h : History) → Loose [] b h → Loose [] (b + 0) h
more b h l = subst (λ (n : ℕ). Loose [] n h) (sym (add-zero b)) l

pub loose_carry_out : (e : Edit) (s : State) → Ordered s → All (IsFound s.history) (named e) → T (eqb (from_state s e) 0) → Loose [] s.history.born.uses s.history → Loose [] (s.history.born.uses + (births e).uses) (carry_out e s.history)
unfolding carry_out named from_state births zeros
loose_carry_out (new_operation fl ts vs bs g) s r l k t = loose_new fl ts vs bs g s.history t
loose_carry_out (new_block ts) s r l k t = more _ _ (loose_new_block _ ts s.history t)
loose_carry_out (push_use sl o d) s r l k t = let p = found_operation s.history o l.0 in loose_add sl o d _ _ [] s.history p.0 r.ops p.1 (λ u. omega (arith, count_append u (uses_in sl p.0) (s.history.born.uses ∷ []))) t
loose_carry_out (insert_use sl o i d) s r l k t = let p = found_operation s.history o l.0 in loose_add sl o d _ _ [] s.history p.0 r.ops p.1 (λ u. omega (arith, count_insert u i s.history.born.uses (uses_in sl p.0))) t
loose_carry_out (replace_use sl o i d) s r l k t = loose_replace sl o i d _ s.history r.ops l.0 (zero_first (leb (slot_length s.history sl o) i) 12 _ tt k).0 t
loose_carry_out (remove_use sl o i) s r l k t = more _ _ (loose_take_at sl o i _ s.history r.ops l.0 (zero_first (leb (slot_length s.history sl o) i) 12 0 tt k).0 t)
loose_carry_out (pop_use sl o) s r l k t = more _ _ (loose_pop sl o _ s.history r.ops l.0 (zero_first (eqb (slot_length s.history sl o) 0) 12 0 tt k).0 t)
loose_carry_out (push_value m o ty) s r l k t = more _ _ (loose_values m _ o _ s.history t)
loose_carry_out (insert_value m o i ty) s r l k t = more _ _ (loose_values m _ o _ s.history t)
loose_carry_out (remove_value m o i) s r l k t = more _ _ (loose_values m _ o _ s.history t)
loose_carry_out (pop_value m o) s r l k t = more _ _ (loose_values m _ o _ s.history t)
loose_carry_out (link_after m x c) s r l k t = more _ _ (loose_put_in m _ x _ s.history t)
loose_carry_out (link_before m x c) s r l k t = more _ _ (loose_put_in m _ x _ s.history t)
loose_carry_out (link_front m x c) s r l k t = more _ _ (loose_put_in m _ x _ s.history t)
loose_carry_out (link_back m x c) s r l k t = more _ _ (loose_put_in m _ x _ s.history t)
loose_carry_out (unlink m x) s r l k t = more _ _ (loose_put_in m _ x _ s.history t)
loose_carry_out (move_region q o) s r l k t = more _ _ (loose_hand_over _ q (parent s.history q) o s.history t)
loose_carry_out (move_use sl a u b) s r l k t = more _ _ (go (eqb a b))
  where
    go : (c : Bool) → Loose [] s.history.born.uses (cond c s.history (with_uses s.history (change u (λ _. defined sl b) s.history.uses)))
    go true = t
    go false = loose_uses _ s.history _ (keys_change u (λ _. defined sl b) s.history.uses) t
loose_carry_out (replace_some a b us) s r l k t = more _ _ (loose_place _ _ _ _ s.history t)
loose_carry_out (retarget_some a b ps) s r l k t = more _ _ (loose_place _ _ _ _ s.history t)
loose_carry_out (drop_uses th) s r l k t = more _ _ (loose_drop th _ s.history t)
loose_carry_out (erase_operation n) s r l k t = more _ _ (loose_erase (the_operation n) _ s.history t)
loose_carry_out (erase_block n) s r l k t = more _ _ (loose_erase (the_block n) _ s.history t)
loose_carry_out (erase_region o i) s r l k t = more _ _ (loose_change _ o (change_regions (remove_at i)) _ (λ u q. unfold change_regions in refl) (loose_erase (the_region (region_index o i s.history)) _ s.history t))
loose_carry_out (verdict th) s r l k t = more _ _ t

-- ---- every list of edits

abbrev pub Placed : History → Type 0
Placed h = Loose [] h.born.uses h

pub placed_accept : (e : Edit) (s : State) → Ordered s → T (eqb (refusal_of s e) 0) → Placed s.history → Placed (accept e s).history
unfolding accept remember refusal_of bear plus
placed_accept e s r k t = record { agree = done.agree; once = done.once; below = done.below; sum = done.sum }
  where
    p : T (eqb (first_missing s.history (named e)) 0) × T (eqb (from_state s e) 0)
    p = or_else_zero (first_missing s.history (named e)) (from_state s e) k

    done : Loose [] (s.history.born.uses + (births e).uses) (carry_out e s.history)
    done = loose_carry_out e s r (all_found s.history (named e) p.0) p.1 t

pub placed_start : (k : Five) → Placed (start k).history
unfolding start begin keys zeros
placed_start k = record { agree = λ u. refl; once = λ u. omega arith; below = λ u q. refl; sum = refl }
