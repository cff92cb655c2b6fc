-- As many stamps as the order has: then the order has every taken place. Assumes nothing.
use Rattle.std.proofs.Common.{◌≡◌, refl, sym, ap, ◌∙◌, subst, List, [], ◌∷◌, ◌++◌, arith, add-one, ℕ, zero, suc, ◌+◌, ◌-◌, ◌<◌, ◌≤◌, not, eqb, length, length-append}
use mir.Val.{bool_byte}
use Rattle.std.proofs.lemmas.Bool.{ne_eqb}
use mathlib.Core.Logic.{by_cases}
use native.Mathlib.Decide.{ℕ_discrete, dec_lt}
use Rattle.seqs.specs.Seqs.{tick, count, In, sum}
use Rattle.seqs.proofs.Base.{tick_yes, tick_no, count_append, in_head, in_tail}
use Rattle.seqs.proofs.Sums.{length_count}
use Rattle.table.specs.Table.{Ordered, Placed, order, stamp, taken, sign}
use Rattle.table.specs.Table as T

-- the first m places of the order, and the taken places below k
front : List ℕ → ℕ → List ℕ
front t zero = []
front t (suc m) = front t m ++ (order t m ∷ [])

abbrev keep : ℕ → ℕ → List ℕ → List ℕ
keep zero k l = l
keep (suc s) k l = k ∷ l

takens : ℕ → List ℕ → ℕ → List ℕ
takens n t zero = []
takens n t (suc k) = keep (stamp n t k) k (takens n t k)

abbrev cnt : ℕ → List ℕ → ℕ
cnt = count ℕ_discrete

front_more : (t : List ℕ) (m p : ℕ) → cnt p (front t (suc m)) ≡ cnt p (front t m) + tick (ℕ_discrete p (order t m))
unfolding front
front_more t m p = count_append ℕ_discrete p (front t m) (order t m ∷ []) ∙ omega arith

front_of : (t : List ℕ) (m p : ℕ) → In ℕ_discrete p (front t m) → (i : ℕ) × (i < m) × (order t i ≡ p)
unfolding front
front_of t zero p h = absurd (omega arith)
front_of t (suc m) p h = go (front_of t m p) (ℕ_discrete p (order t m))
  where
    go : (In ℕ_discrete p (front t m) → (i : ℕ) × (i < m) × (order t i ≡ p)) → Dec (p ≡ order t m) → (i : ℕ) × (i < suc m) × (order t i ≡ p)
    go ih (yes e) = (m, omega arith, sym e)
    go ih (no w) = let r : (i : ℕ) × (i < m) × (order t i ≡ p) = ih (omega (arith, front_more t m p, tick_no (ℕ_discrete p (order t m)) w)) in (r.0, omega arith, r.2)

front_in : (t : List ℕ) (m i : ℕ) → i < m → In ℕ_discrete (order t i) (front t m)
front_in t zero i h = absurd (omega arith)
front_in t (suc m) i h = go (front_in t m i) (ℕ_discrete i m)
  where
    go : (i < m → In ℕ_discrete (order t i) (front t m)) → Dec (i ≡ m) → In ℕ_discrete (order t i) (front t (suc m))
    go ih (yes e) = omega (arith, front_more t m (order t i), tick_yes (ℕ_discrete (order t i) (order t m)) (ap (order t) e))
    go ih (no w) = omega (arith, front_more t m (order t i), ih (omega arith))

front_long : (t : List ℕ) (m : ℕ) → length (front t m) ≡ m
unfolding front
front_long t zero = refl
front_long t (suc m) = length-append (front t m) (order t m ∷ []) ∙ omega (arith, front_long t m)

keep_count : (s k p : ℕ) (l : List ℕ) → cnt p (keep s k l) ≡ cnt p l + sign s - (sign s - tick (ℕ_discrete p k))
keep_count zero k p l = omega arith
keep_count (suc s) k p l = by_cases (ℕ_discrete p k) (λ e. omega (arith, tick_yes (ℕ_discrete p k) e)) (λ n. omega (arith, tick_no (ℕ_discrete p k) n))

keep_length : (s k : ℕ) (l : List ℕ) → length (keep s k l) ≡ length l + sign s
keep_length zero k l = omega arith
keep_length (suc s) k l = omega arith

takens_long : (n : ℕ) (t : List ℕ) (k : ℕ) → length (takens n t k) ≡ taken n t k
unfolding takens taken
takens_long n t zero = refl
takens_long n t (suc k) = keep_length (stamp n t k) k (takens n t k) ∙ omega (arith, takens_long n t k)

-- none from k on; each taken one below k once
takens_out : (n : ℕ) (t : List ℕ) (k p : ℕ) → k ≤ p → cnt p (takens n t k) ≡ 0
unfolding takens
takens_out n t zero p h = refl
takens_out n t (suc k) p h = keep_count (stamp n t k) k p (takens n t k) ∙ omega (arith, takens_out n t k p (omega arith), tick_no (ℕ_discrete p k) (omega arith))

pub sign_pos : (s : ℕ) → 0 < s → sign s ≡ 1
sign_pos zero h = absurd (omega arith)
sign_pos (suc s) h = refl

pub sign_le : (s : ℕ) → sign s ≤ 1
sign_le zero = omega arith
sign_le (suc s) = omega arith

takens_in : (n : ℕ) (t : List ℕ) (k p : ℕ) → p < k → 0 < stamp n t p → cnt p (takens n t k) ≡ 1
unfolding takens
takens_in n t zero p h g = absurd (omega arith)
takens_in n t (suc k) p h g = go (λ l. takens_in n t k p l g) (ℕ_discrete p k)
  where
    go : (p < k → cnt p (takens n t k) ≡ 1) → Dec (p ≡ k) → cnt p (keep (stamp n t k) k (takens n t k)) ≡ 1
    go ih (yes e) = keep_count (stamp n t k) k p (takens n t k) ∙ omega (arith, tick_yes (ℕ_discrete p k) e, takens_out n t k p (omega arith), sign_pos (stamp n t k) (subst (λ (q : ℕ). 0 < stamp n t q) e g))
    go ih (no w) = keep_count (stamp n t k) k p (takens n t k) ∙ omega (arith, tick_no (ℕ_discrete p k) w, ih (omega arith), sign_le (stamp n t k))

takens_dead : (n : ℕ) (t : List ℕ) (k p : ℕ) → stamp n t p ≡ 0 → cnt p (takens n t k) ≡ 0
unfolding takens
takens_dead n t zero p z = refl
takens_dead n t (suc k) p z = go (takens_dead n t k p z) (ℕ_discrete p k)
  where
    go : cnt p (takens n t k) ≡ 0 → Dec (p ≡ k) → cnt p (keep (stamp n t k) k (takens n t k)) ≡ 0
    go ih (yes e) = keep_count (stamp n t k) k p (takens n t k) ∙ omega (arith, ap sign (sym (ap (stamp n t) e) ∙ z))
    go ih (no w) = keep_count (stamp n t k) k p (takens n t k) ∙ omega (arith, tick_no (ℕ_discrete p k) w)

-- terms of at most 1 that add up to the length are all 1
all_one : (f : ℕ → ℕ) → ((x : ℕ) → f x ≤ 1) → (l : List ℕ) → sum f l ≤ length l
all_one f h [] = omega arith
all_one f h (x ∷ l) = omega (arith, h x, all_one f h l)

each_one : (f : ℕ → ℕ) → ((x : ℕ) → f x ≤ 1) → (l : List ℕ) → length l ≤ sum f l → (x : ℕ) → In ℕ_discrete x l → f x ≡ 1
each_one f h [] g x i = absurd (omega arith)
each_one f h (y ∷ l) g x i = go (each_one f h l (omega (arith, h y)) x) (ℕ_discrete x y)
  where
    go : (In ℕ_discrete x l → f x ≡ 1) → Dec (x ≡ y) → f x ≡ 1
    go ih (yes e) = omega (arith, ap f e, h y, all_one f h l)
    go ih (no n) = ih (omega (arith, tick_no (ℕ_discrete x y) n))

sum_ones : (f : ℕ → ℕ) (l : List ℕ) → ((x : ℕ) → In ℕ_discrete x l → f x ≡ 1) → sum f l ≡ length l
sum_ones f [] h = refl
sum_ones f (x ∷ l) h = omega (arith, h x (in_head ℕ_discrete x l), sum_ones f l (λ y i. h y (in_tail ℕ_discrete y x l i)))

module _ (n : ℕ) (t : List ℕ) (O : Ordered n t) where
  front_once : (m : ℕ) → m ≤ T.count t → (p : ℕ) → cnt p (front t m) ≤ 1
  unfolding front
  front_once zero h p = omega arith
  front_once (suc m) h p = go (front_once m (omega arith) p) (ℕ_discrete p (order t m)) (ℕ_discrete (cnt p (front t m)) 0)
    where
      go : cnt p (front t m) ≤ 1 → Dec (p ≡ order t m) → Dec (cnt p (front t m) ≡ 0) → cnt p (front t m ++ (order t m ∷ [])) ≤ 1
      go ih (no w) d = omega (arith, front_more t m p, tick_no (ℕ_discrete p (order t m)) w)
      go ih (yes e) (yes z) = omega (arith, front_more t m p, tick_yes (ℕ_discrete p (order t m)) e)
      go ih (yes e) (no z) = let r : (i : ℕ) × (i < m) × (order t i ≡ p) = front_of t m p (omega arith) in absurd (omega (arith, O.rising r.0 m r.1 h, ap (stamp n t) (r.2 ∙ e)))

  abbrev l : List ℕ
  l = front t (T.count t)

  total : length l ≡ sum (λ x. cnt x l) (takens n t n)
  total = length_count ℕ_discrete l (takens n t n) (λ x i. let r : (i : ℕ) × (i < T.count t) × (order t i ≡ x) = front_of t (T.count t) x i in takens_in n t n x (subst (λ (q : ℕ). q < n) r.2 (O.inside r.0 r.1)) (subst (λ (q : ℕ). 0 < stamp n t q) r.2 (O.used r.0 r.1)))

  pub found_of : taken n t n ≡ T.count t → (p : ℕ) → p < n → 0 < stamp n t p → (i : ℕ) × (i < T.count t) × (order t i ≡ p)
  found_of e p h g = front_of t (T.count t) p (omega (arith, each_one (λ x. cnt x l) (front_once (T.count t) (omega arith)) (takens n t n) (omega (arith, total, takens_long n t n, front_long t (T.count t))) p (omega (arith, takens_in n t n p h g))))

  pub taken_of : Placed n t → taken n t n ≡ T.count t
  taken_of P = omega (arith, total, takens_long n t n, front_long t (T.count t), sum_ones (λ x. cnt x l) (takens n t n) (λ x i. once x i))
    where
      live_of : (x : ℕ) → In ℕ_discrete x (takens n t n) → (x < n) × (0 < stamp n t x)
      live_of x i = by_cases (dec_lt x n) (λ h. (h, by_cases (dec_lt 0 (stamp n t x)) (λ g. g) (λ g. absurd (omega (arith, takens_dead n t n x (omega arith)))))) (λ h. absurd (omega (arith, takens_out n t n x (omega arith))))

      once : (x : ℕ) → In ℕ_discrete x (takens n t n) → cnt x l ≡ 1
      once x i = let w : (x < n) × (0 < stamp n t x) = live_of x i in let r : (i : ℕ) × (i < T.count t) × (order t i ≡ x) = P.found x w.0 w.1 in
          omega (arith, front_once (T.count t) (omega arith) x, subst (λ (q : ℕ). In ℕ_discrete q l) r.2 (front_in t (T.count t) r.0 r.1))

-- the stamps that are not 0, counted from the first on
pub taken_none : (n : ℕ) (t : List ℕ) → 0 ≡ taken n t 0
unfolding taken
taken_none n t = refl

pub taken_more : (n : ℕ) (t : List ℕ) (k r g : ℕ) → k ≡ taken n t r → g ≡ sign (stamp n t r) → k + g ≡ taken n t (r + 1)
unfolding taken
taken_more n t k r g e f = rw (add-one r) (omega arith)

pub one_sign : (s : ℕ) → bool_byte (not (eqb s 0)) ≡ sign s
one_sign zero = refl
one_sign (suc s) = ap (λ b. bool_byte (not b)) (ne_eqb (suc s) 0 (omega arith))
