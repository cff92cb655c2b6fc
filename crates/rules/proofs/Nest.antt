-- Nothing lies inside itself: the live operations stand in a list in which each one's parent operation comes later. Then the climb,
-- which goes up as often as there are operations, reaches the outermost one. Assumes nothing.
use mathlib.Core.Path.{◌≡◌, refl, sym, ap, subst, ◌∙◌}
use mathlib.Core.Logic.{◌⊎◌, inl, inr}
use mathlib.Core.Bool.{Bool, true, false, not, cond, ◌||◌}
use mathlib.Core.List.{List, [], ◌∷◌, ◌++◌}
use mathlib.Core.Option.{Option, none, some}
use Prim.Native.Nat.{ℕ, suc, ◌+◌, ◌≤◌}
use native.Mathlib.Omega.{arith}
use native.Mathlib.Nat.{add-zero, suc-add, add-suc}
use lib.Dec.{T, eqb, eqb→eq, eqb_refl}
use lib.ListN.{length}
use Rattle.rules.specs.Table.{keep, keys, member, some_and, one, count}
use Rattle.edit.specs.Record.{Thing}
use Rattle.rules.specs.History.{History, block_at, region_at, parent, is_operation, is_block, is_region, region_climb, block_climb, climb, operation_in}
use Rattle.rules.proofs.Places.{no_member, length_keys}
use Rattle.rules.proofs.Tables.{or_l, or_r, or_map}

abbrev pub next : {A B : Type 0} → Option A → (A → Option B) → Option B
next none f = none
next (some a) f = f a

-- the operation that an operation lies in
unfoldable pub over : History → ℕ → Option ℕ
over h n = next (block_at h n) (λ b. next (region_at h b) (parent h))

-- each one's parent stands further back
abbrev pub Down : History → List ℕ → Type 0
Down h [] = Unit {0}
Down h (n ∷ ns) = ((p : ℕ) → over h n ≡ some p → T (member p ns)) × Down h ns

-- the climb asks its function only at the parent
climb_same : (h : History) (t : Thing) (n : ℕ) (f g : ℕ → Bool) → ((p : ℕ) → over h n ≡ some p → f p ≡ g p) → some_and (block_at h n) (block_climb h t f) ≡ some_and (block_at h n) (block_climb h t g)
unfolding some_and block_climb region_climb over
climb_same h t n f g k = at_block (block_at h n) refl
  where
    at_op : (b r : ℕ) → block_at h n ≡ some b → region_at h b ≡ some r → (o : Option ℕ) → parent h r ≡ o → some_and o f ≡ some_and o g
    at_op b r x y none z = refl
    at_op b r x y (some p) z = k p (ap (λ (q : Option ℕ). next q (λ c. next (region_at h c) (parent h))) x ∙ ap (λ (q : Option ℕ). next q (parent h)) y ∙ z)

    at_region : (b : ℕ) → block_at h n ≡ some b → (o : Option ℕ) → region_at h b ≡ o → some_and o (region_climb h t f) ≡ some_and o (region_climb h t g)
    at_region b x none y = refl
    at_region b x (some r) y = ap (λ (c : Bool). is_region t r || c) (at_op b r x y (parent h r) refl)

    at_block : (o : Option ℕ) → block_at h n ≡ o → some_and o (block_climb h t f) ≡ some_and o (block_climb h t g)
    at_block none x = refl
    at_block (some b) x = ap (λ (c : Bool). is_block t b || c) (at_region b x (region_at h b) refl)

-- as many steps as the list is long are enough
climb_enough : (h : History) (t : Thing) (ns : List ℕ) → Down h ns → (n k : ℕ) → T (member n ns) → climb h t (length ns + k) n ≡ climb h t (length ns) n
unfolding climb member
climb_enough h t [] d n k m = absurd m
climb_enough h t (x ∷ ns) d n k m = rw suc-add (go (climb_enough h t ns d.1) (eqb x n) refl m)
  where
    go : ((p j : ℕ) → T (member p ns) → climb h t (length ns + j) p ≡ climb h t (length ns) p) → (b : Bool) → eqb x n ≡ b → T (b || member n ns) → climb h t (suc (length ns + k)) n ≡ climb h t (suc (length ns)) n
    go ih true z q = ap (λ (c : Bool). is_operation t n || c) (climb_same h t n (climb h t (length ns + k)) (climb h t (length ns)) (λ p e. ih p k (d.0 p (subst (λ (y : ℕ). over h y ≡ some p) (sym (eqb→eq x n (subst T (sym z) tt))) e))))
    go ih false z q = sym (ap (λ (j : ℕ). climb h t j n) (add-suc (length ns) k)) ∙ ih n (suc k) q ∙ sym (ap (λ (j : ℕ). climb h t j n) (sym (add-suc (length ns) 0 ∙ ap suc (add-zero (length ns)))) ∙ ih n 1 q)

-- is the thing met between the operation and its parent?
unfoldable pub direct : History → Thing → ℕ → Bool
direct h t n = is_operation t n || some_and (block_at h n) (λ b. is_block t b || some_and (region_at h b) (is_region t))

or_assoc : (a b c : Bool) → a || (b || c) ≡ (a || b) || c
or_assoc true b c = refl
or_assoc false b c = refl

-- one step of the climb, by the parent
pub climb_step : (h : History) (t : Thing) (d n : ℕ) → climb h t (suc d) n ≡ direct h t n || some_and (over h n) (climb h t d)
unfolding climb direct over block_climb region_climb some_and
climb_step h t d n = at_block (block_at h n)
  where
    at_region : (c : Bool) (o : Option ℕ) → c || some_and o (region_climb h t (climb h t d)) ≡ (c || some_and o (is_region t)) || some_and (next o (parent h)) (climb h t d)
    at_region c none = or_assoc c false false
    at_region c (some r) = or_assoc c (is_region t r) (some_and (parent h r) (climb h t d))

    at_block : (o : Option ℕ) → is_operation t n || some_and o (block_climb h t (climb h t d)) ≡ (is_operation t n || some_and o (λ b. is_block t b || some_and (region_at h b) (is_region t))) || some_and (next o (λ b. next (region_at h b) (parent h))) (climb h t d)
    at_block none = or_assoc (is_operation t n) false false
    at_block (some b) =
        ap (λ (c : Bool). is_operation t n || c) (at_region (is_block t b) (region_at h b))
        ∙ or_assoc (is_operation t n) (is_block t b || some_and (region_at h b) (is_region t)) (some_and (next (region_at h b) (parent h)) (climb h t d))

-- the live operations, each once, inner ones first
pub record Nested (ns : List ℕ) (h : History) : Type 0 where
  pub down : Down h ns
  pub same : (n : ℕ) → count n ns ≡ count n (keys h.operations)

-- the list without its first n
unfoldable pub less : ℕ → List ℕ → List ℕ
less n [] = []
less n (x ∷ xs) = let r = less n xs in cond (eqb x n) xs (x ∷ r)

pub count_without : (n x : ℕ) (ys : List ℕ) → T (member x ys) → one (eqb x n) + count n (less x ys) ≡ count n ys
unfolding member less
count_without n x [] m = absurd m
count_without n x (y ∷ ys) m = go (count_without n x ys) (eqb y x) refl m
  where
    go : (T (member x ys) → one (eqb x n) + count n (less x ys) ≡ count n ys) → (b : Bool) → eqb y x ≡ b → T (b || member x ys) → one (eqb x n) + count n (cond b ys (y ∷ less x ys)) ≡ one (eqb y n) + count n ys
    go ih true z q = ap (λ (c : ℕ). one (eqb c n) + count n ys) (sym (eqb→eq y x (subst T (sym z) tt)))
    go ih false z q = let w : one (eqb x n) + count n (less x ys) ≡ count n ys = ih q in omega arith

pub length_without : (x : ℕ) (ys : List ℕ) → T (member x ys) → suc (length (less x ys)) ≡ length ys
unfolding member less
length_without x [] m = absurd m
length_without x (y ∷ ys) m = go (length_without x ys) (eqb y x) m
  where
    go : (T (member x ys) → suc (length (less x ys)) ≡ length ys) → (b : Bool) → T (b || member x ys) → suc (length (cond b ys (y ∷ less x ys))) ≡ suc (length ys)
    go ih true q = refl
    go ih false q = ap suc (ih q)

pub one_self : (x : ℕ) → one (eqb x x) ≡ 1
one_self x = go (eqb x x) (eqb_refl x)
  where
    go : (b : Bool) → T b → one b ≡ 1
    go true t = refl
    go false t = absurd t

pub is_member : (n : ℕ) (xs : List ℕ) → 1 ≤ count n xs → T (member n xs)
is_member n xs h = go (member n xs) refl
  where
    go : (b : Bool) → member n xs ≡ b → T (member n xs)
    go true z = subst T (sym z) tt
    go false z = absurd (omega (arith, no_member n xs (subst (λ (c : Bool). T (not c)) (sym z) tt)))

-- lists with the same counts are as long
pub count_length : (xs ys : List ℕ) → ((n : ℕ) → count n xs ≡ count n ys) → length xs ≡ length ys
count_length [] [] h = refl
count_length [] (y ∷ ys) h = absurd (omega (arith, h y, one_self y))
count_length (x ∷ xs) ys h =
    let m : T (member x ys) = is_member x ys (omega (arith, h x, one_self x)) in
    let ih : length xs ≡ length (less x ys) = count_length xs (less x ys) (λ n. omega (arith, h n, count_without n x ys m)) in
    omega (arith, length_without x ys m)

-- inside, by the parent: the equation that the walk inward has to meet
pub inside_step : (ns : List ℕ) (h : History) → Nested ns h → (t : Thing) (n : ℕ) → T (member n ns) → operation_in h t n ≡ direct h t n || some_and (over h n) (operation_in h t)
unfolding operation_in
inside_step ns h w t n m =
    subst (λ (d : ℕ). climb h t d n ≡ direct h t n || some_and (over h n) (climb h t d)) sizes
    (sym (climb_enough h t ns w.down n 1 m) ∙ ap (λ (d : ℕ). climb h t d n) (add-suc (length ns) 0 ∙ ap suc (add-zero (length ns))) ∙ climb_step h t (length ns) n)
  where
    sizes : length ns ≡ length h.operations
    sizes = count_length ns (keys h.operations) w.same ∙ sym (length_keys h.operations)

pub member_keep : (p : ℕ → Bool) (n : ℕ) (xs : List ℕ) → T (p n) → T (member n xs) → T (member n (keep p xs))
unfolding member keep
member_keep p n [] k m = m
member_keep p n (x ∷ xs) k m = go (member_keep p n xs k) (p x) refl (eqb x n) refl m
  where
    go : (T (member n xs) → T (member n (keep p xs))) → (b : Bool) → p x ≡ b → (c : Bool) → eqb x n ≡ c → T (c || member n xs) → T (member n (cond b (x ∷ keep p xs) (keep p xs)))
    go ih true z true y q = or_l (eqb x n) (member n (keep p xs)) (subst T (sym y) tt)
    go ih true z false y q = or_r (eqb x n) (member n (keep p xs)) (ih q)
    go ih false z true y q = absurd (subst T (sym (ap p (eqb→eq x n (subst T (sym y) tt))) ∙ z) k)
    go ih false z false y q = ih q

member_l : (n : ℕ) (s t : List ℕ) → T (member n s) → T (member n (s ++ t))
unfolding member
member_l n [] t m = absurd m
member_l n (x ∷ s) t m = or_map (eqb x n) (member n s) (eqb x n) (member n (s ++ t)) (λ q. q) (member_l n s t) m

member_r : (n : ℕ) (s t : List ℕ) → T (member n t) → T (member n (s ++ t))
unfolding member
member_r n [] t m = m
member_r n (x ∷ s) t m = or_r (eqb x n) (member n (s ++ t)) (member_r n s t m)

-- what lies in S is hung elsewhere: those of S go to the front, in their old order
module _ (h k : History) (S : ℕ → Bool) (all : List ℕ)
    (inner : (n p : ℕ) → T (member n all) → T (S n) → over k n ≡ some p → (T (S p) × (over h n ≡ some p)) ⊎ (T (not (S p)) × T (member p all)))
    (outer : (n p : ℕ) → T (member n all) → T (not (S n)) → over k n ≡ some p → T (not (S p)) × (over h n ≡ some p)) where
  down_rest : (ns : List ℕ) → ((n : ℕ) → T (member n ns) → T (member n all)) → Down h ns → Down k (keep (λ n. not (S n)) ns)
  unfolding keep member
  down_rest [] sub d = tt
  down_rest (n ∷ ns) sub d = go (S n) refl (down_rest ns (λ m q. sub m (or_r (eqb n m) (member m ns) q)) d.1)
    where
      go : (b : Bool) → S n ≡ b → Down k (keep (λ m. not (S m)) ns) → Down k (cond (not b) (n ∷ keep (λ m. not (S m)) ns) (keep (λ m. not (S m)) ns))
      go true z ih = ih
      go false z ih = ((λ p e. let r = outer n p (sub n (or_l (eqb n n) (member n ns) (eqb_refl n))) (subst (λ (c : Bool). T (not c)) (sym z) tt) e in member_keep (λ m. not (S m)) p ns r.0 (d.0 p r.1)), ih)

  down_front : (ns : List ℕ) → ((n : ℕ) → T (member n ns) → T (member n all)) → Down h ns → Down k (keep (λ n. not (S n)) all) → Down k (keep S ns ++ keep (λ n. not (S n)) all)
  unfolding keep member
  down_front [] sub d r = r
  down_front (n ∷ ns) sub d r = go (S n) refl (down_front ns (λ m q. sub m (or_r (eqb n m) (member m ns) q)) d.1 r)
    where
      at : (p : ℕ) → (T (S p) × (over h n ≡ some p)) ⊎ (T (not (S p)) × T (member p all)) → T (member p (keep S ns ++ keep (λ m. not (S m)) all))
      at p (inl q) = member_l p (keep S ns) (keep (λ m. not (S m)) all) (member_keep S p ns q.0 (d.0 p q.1))
      at p (inr q) = member_r p (keep S ns) (keep (λ m. not (S m)) all) (member_keep (λ m. not (S m)) p all q.0 q.1)

      go : (b : Bool) → S n ≡ b → Down k (keep S ns ++ keep (λ m. not (S m)) all) → Down k (cond b (n ∷ keep S ns) (keep S ns) ++ keep (λ m. not (S m)) all)
      go true z ih = ((λ p e. at p (inner n p (sub n (or_l (eqb n n) (member n ns) (eqb_refl n))) (subst T (sym z) tt) e)), ih)
      go false z ih = ih

  pub down_move : Down h all → Down k (keep S all ++ keep (λ n. not (S n)) all)
  down_move d = down_front all (λ n m. m) d (down_rest all (λ n m. m) d)
