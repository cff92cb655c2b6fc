-- In a list in which each number stands once, the next one's previous is the one itself; places in such a list are places apart. Assumes nothing.
use mathlib.Core.Path.{◌≡◌, refl, ap, ◌∙◌}
use mathlib.Core.Bool.{Bool, true, false, cond}
use mathlib.Core.List.{List, [], ◌∷◌}
use mathlib.Core.Option.{some}
use Prim.Native.Nat.{ℕ, zero, suc, ◌+◌, ◌≤◌}
use native.Mathlib.Omega.{arith}
use lib.Dec.{eqb, eqb→eq}
use Rattle.rules.specs.Table.{nth, next_of, previous_of, one, count}
use Rattle.rules.proofs.Laws.{none_some, is_true, eqb_same}

-- what comes next is not the first; what comes before stands in the list
pub next_later : (x y b : ℕ) (ys : List ℕ) → next_of x (b ∷ ys) ≡ some y → 1 ≤ count y ys
unfolding next_of
next_later x y b [] e = absurd (none_some e)
next_later x y b (c ∷ ys) e = go (eqb b x) e (next_later x y c ys)
  where
    go : (t : Bool) → cond t (some c) (next_of x (c ∷ ys)) ≡ some y → (next_of x (c ∷ ys) ≡ some y → 1 ≤ count y ys) → 1 ≤ one (eqb c y) + count y ys
    go true q ih = let w : c ≡ y = cc in omega (arith, ap (λ (z : ℕ). one (eqb z y)) w, ap one (eqb_same y))
    go false q ih = omega (arith, ih q)

pub previous_first : (x y : ℕ) (xs : List ℕ) → previous_of y xs ≡ some x → 1 ≤ count x xs
unfolding previous_of
previous_first x y [] e = absurd (none_some e)
previous_first x y (a ∷ []) e = absurd (none_some e)
previous_first x y (a ∷ b ∷ ys) e = go (eqb b y) e (previous_first x y (b ∷ ys))
  where
    go : (t : Bool) → cond t (some a) (previous_of y (b ∷ ys)) ≡ some x → (previous_of y (b ∷ ys) ≡ some x → 1 ≤ count x (b ∷ ys)) → 1 ≤ one (eqb a x) + count x (b ∷ ys)
    go true q ih = let w : a ≡ x = cc in omega (arith, ap (λ (z : ℕ). one (eqb z x)) w, ap one (eqb_same x))
    go false q ih = omega (arith, ih q)

pub next_back : (x y : ℕ) (xs : List ℕ) → ((n : ℕ) → count n xs ≤ 1) → next_of x xs ≡ some y → previous_of y xs ≡ some x
unfolding next_of previous_of
next_back x y [] u e = absurd (none_some e)
next_back x y (a ∷ []) u e = absurd (none_some e)
next_back x y (a ∷ b ∷ ys) u e = go (eqb a x) refl (eqb b y) refl e (next_back x y (b ∷ ys) (λ n. once n (eqb a n) (u n)))
  where
    once : (n : ℕ) (t : Bool) → one t + count n (b ∷ ys) ≤ 1 → count n (b ∷ ys) ≤ 1
    once n t q = omega arith

    go : (t : Bool) → eqb a x ≡ t → (v : Bool) → eqb b y ≡ v → cond t (some b) (next_of x (b ∷ ys)) ≡ some y → (next_of x (b ∷ ys) ≡ some y → previous_of y (b ∷ ys) ≡ some x) → cond (eqb b y) (some a) (previous_of y (b ∷ ys)) ≡ some x
    go true z v w q ih = let s : b ≡ y = cc in rw (ap (λ (k : ℕ). eqb k y) s ∙ eqb_same y) (ap some (eqb→eq a x (is_true z)))
    go false z true w q ih = absurd (omega (arith, u y, ap one w, next_later x y b ys q))
    go false z false w q ih = rw w (ih q)

pub previous_on : (x y : ℕ) (xs : List ℕ) → ((n : ℕ) → count n xs ≤ 1) → previous_of y xs ≡ some x → next_of x xs ≡ some y
unfolding next_of previous_of
previous_on x y [] u e = absurd (none_some e)
previous_on x y (a ∷ []) u e = absurd (none_some e)
previous_on x y (a ∷ b ∷ ys) u e = go (eqb a x) refl (eqb b y) refl e (previous_on x y (b ∷ ys) (λ n. once n (eqb a n) (u n)))
  where
    once : (n : ℕ) (t : Bool) → one t + count n (b ∷ ys) ≤ 1 → count n (b ∷ ys) ≤ 1
    once n t q = omega arith

    go : (t : Bool) → eqb a x ≡ t → (v : Bool) → eqb b y ≡ v → cond v (some a) (previous_of y (b ∷ ys)) ≡ some x → (previous_of y (b ∷ ys) ≡ some x → next_of x (b ∷ ys) ≡ some y) → cond (eqb a x) (some b) (next_of x (b ∷ ys)) ≡ some y
    go t z true w q ih = let s : a ≡ x = cc in rw (ap (λ (k : ℕ). eqb k x) s ∙ eqb_same x) (ap some (eqb→eq b y (is_true w)))
    go true z false w q ih = absurd (omega (arith, u x, ap one z, previous_first x y (b ∷ ys) q))
    go false z false w q ih = rw z (ih q)

-- ---- indexes

pub index_of : (u : ℕ) (xs : List ℕ) → 1 ≤ count u xs → (i : ℕ) × (nth xs i ≡ some u)
unfolding nth
index_of u [] h = absurd (omega arith)
index_of u (x ∷ xs) h = go (eqb x u) refl (index_of u xs)
  where
    go : (b : Bool) → eqb x u ≡ b → (1 ≤ count u xs → (i : ℕ) × (nth xs i ≡ some u)) → (i : ℕ) × (nth (x ∷ xs) i ≡ some u)
    go true z ih = (0, ap some (eqb→eq x u (is_true z)))
    go false z ih = let f = ih (omega (arith, ap one z)) in (suc f.0, f.1)

pub nth_count : (u i : ℕ) (xs : List ℕ) → nth xs i ≡ some u → 1 ≤ count u xs
unfolding nth
nth_count u i [] e = absurd (none_some e)
nth_count u zero (x ∷ xs) e = let w : x ≡ u = cc in omega (arith, ap (λ (z : ℕ). one (eqb z u)) w, ap one (eqb_same u))
nth_count u (suc i) (x ∷ xs) e = omega (arith, nth_count u i xs e)

pub nth_once : (u i j : ℕ) (xs : List ℕ) → count u xs ≤ 1 → nth xs i ≡ some u → nth xs j ≡ some u → i ≡ j
unfolding nth
nth_once u i j [] k e f = absurd (none_some e)
nth_once u zero zero (x ∷ xs) k e f = refl
nth_once u zero (suc j) (x ∷ xs) k e f = let w : x ≡ u = cc in absurd (omega (arith, ap (λ (z : ℕ). one (eqb z u)) w, ap one (eqb_same u), nth_count u j xs f))
nth_once u (suc i) zero (x ∷ xs) k e f = let w : x ≡ u = cc in absurd (omega (arith, ap (λ (z : ℕ). one (eqb z u)) w, ap one (eqb_same u), nth_count u i xs e))
nth_once u (suc i) (suc j) (x ∷ xs) k e f = ap suc (nth_once u i j xs (omega arith) e f)
