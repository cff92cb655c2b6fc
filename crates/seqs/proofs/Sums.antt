-- Sums and counts over lists. Assumes nothing.
use mathlib.Core.Path.{◌≡◌, refl, sym, ap}
use mathlib.Core.Logic.{◌≢◌, by_cases}
use mathlib.Core.HLevel.{Discrete}
use mathlib.Core.List.{List, [], ◌∷◌, ◌++◌, map}
use native.Mathlib.Decide.{ℕ_discrete}
use native.Mathlib.Omega.{arith}
use Prim.Native.Nat.{ℕ, zero, suc, ◌+◌, ◌<◌, ◌≤◌}
use lib.ListN.{length}
use Rattle.seqs.specs.Seqs.{tick, count, In, sum, upto}
use Rattle.seqs.proofs.Base.{tick_yes, tick_no, in_head, in_tail}

module _ {A : Type 0} where
  pub sum_on : (d : Discrete A) (f g : A → ℕ) (l : List A) → ((x : A) → In d x l → f x ≡ g x) → sum f l ≡ sum g l
  sum_on d f g [] h = refl
  sum_on d f g (x ∷ l) h = omega (arith, h x (in_head d x l), sum_on d f g l (λ y k. h y (in_tail d y x l k)))

  pub sum_add : (f g : A → ℕ) (l : List A) → sum (λ x. f x + g x) l ≡ sum f l + sum g l
  sum_add f g [] = refl
  sum_add f g (x ∷ l) = omega (arith, sum_add f g l)

  pub sum_zero : (l : List A) → sum (λ (x : A). 0) l ≡ 0
  sum_zero [] = refl
  sum_zero (x ∷ l) = omega (arith, sum_zero l)

  pub sum_one : (l : List A) → sum (λ (x : A). 1) l ≡ length l
  sum_one [] = refl
  sum_one (x ∷ l) = omega (arith, sum_one l)

  pub sum_append : (f : A → ℕ) (l m : List A) → sum f (l ++ m) ≡ sum f l + sum f m
  sum_append f [] m = omega arith
  sum_append f (x ∷ l) m = omega (arith, sum_append f l m)

  pub sum_count : (d : Discrete A) (y : A) (l : List A) → sum (λ x. tick (d x y)) l ≡ count d y l
  sum_count d y [] = refl
  sum_count d y (x ∷ l) = by_cases (d x y) (λ e. omega (arith, sum_count d y l, tick_yes (d x y) e, tick_yes (d y x) (sym e))) (λ n. omega (arith, sum_count d y l, tick_no (d x y) n, tick_no (d y x) (λ e. n (sym e))))

  -- each element of l stands once in m: the length is counted over m
  pub length_count : (d : Discrete A) (l m : List A) → ((x : A) → In d x l → count d x m ≡ 1) → length l ≡ sum (λ x. count d x l) m
  length_count d [] m h = sym (sum_zero m)
  length_count d (y ∷ l) m h = omega (arith, length_count d l m (λ x k. h x (in_tail d x y l k)), h y (in_head d y l), sum_count d y m, sum_add (λ x. tick (d x y)) (λ x. count d x l) m)

pub sum_swap : {A B : Type 0} (F : A → B → ℕ) (l : List A) (m : List B) → sum (λ x. sum (F x) m) l ≡ sum (λ y. sum (λ x. F x y) l) m
sum_swap F [] m = sym (sum_zero m)
sum_swap F (x ∷ l) m = omega (arith, sum_swap F l m, sum_add (F x) (λ y. sum (λ z. F z y) l) m)

pub sum_map : {A B : Type 0} (f : B → ℕ) (g : A → B) (l : List A) → sum f (map g l) ≡ sum (λ x. f (g x)) l
sum_map f g [] = refl
sum_map f g (x ∷ l) = omega (arith, sum_map f g l)

-- an injective map keeps counts
pub count_map : {A B : Type 0} (dA : Discrete A) (dB : Discrete B) (g : A → B) → ((x y : A) → g x ≡ g y → x ≡ y) → (x : A) (l : List A) → count dB (g x) (map g l) ≡ count dA x l
count_map dA dB g inj x [] = refl
count_map dA dB g inj x (y ∷ l) = by_cases (dA x y) (λ e. omega (arith, count_map dA dB g inj x l, tick_yes (dA x y) e, tick_yes (dB (g x) (g y)) (ap g e))) (λ n. omega (arith, count_map dA dB g inj x l, tick_no (dA x y) n, tick_no (dB (g x) (g y)) (λ e. n (inj x y e))))

pub count_none : {A B : Type 0} (dB : Discrete B) (g : A → B) (b : B) → ((x : A) → b ≢ g x) → (l : List A) → count dB b (map g l) ≡ 0
count_none dB g b n [] = refl
count_none dB g b n (y ∷ l) = omega (arith, count_none dB g b n l, tick_no (dB b (g y)) (n y))

pub count_upto_above : (p n : ℕ) → n ≤ p → count ℕ_discrete p (upto n) ≡ 0
count_upto_above p zero h = refl
count_upto_above p (suc n) h = omega (arith, count_upto_above p n (omega arith), tick_no (ℕ_discrete p n) (λ e. absurd (omega arith)))

pub count_upto : (p n : ℕ) → p < n → count ℕ_discrete p (upto n) ≡ 1
count_upto p zero h = absurd (omega arith)
count_upto p (suc n) h = by_cases (ℕ_discrete p n) (λ e. omega (arith, tick_yes (ℕ_discrete p n) e, count_upto_above p n (omega arith))) (λ n'. omega (arith, tick_no (ℕ_discrete p n) n', count_upto p n (omega arith)))

pub in_map : {A B : Type 0} (dB : Discrete B) (g : A → B) (b : B) (l : List A) → In dB b (map g l) → (x : A) × (b ≡ g x)
in_map dB g b [] h = absurd (omega arith)
in_map dB g b (y ∷ l) h = by_cases (dB b (g y)) (λ e. (y, e)) (λ n. in_map dB g b l (omega (arith, tick_no (dB b (g y)) n)))
