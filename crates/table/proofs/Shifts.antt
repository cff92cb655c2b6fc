-- A gap closed in a part of the table that was lent for it. Assumes nothing.
use Rattle.std.proofs.Common.{◌≡◌, sym, ap, ◌∙◌, ⊎_elim, List, ◌++◌, ℕ, ◌+◌, ◌-◌, ◌≤◌, ◌<◌, eq-or-lt_of_le, arith, length, get_or, take, drop, get_or-take, get_or-drop, get_or-append-add, length-take-le}
use lib.ListN.{get_or-append}
use Rattle.seqs.specs.Split.{splice, length_part, length_splice}
use Rattle.table.specs.Table.{Shifted}

-- each number but the first moved down by one
pub record Closed (s s' : List ℕ) : Type 0 where
  pub long : length s' ≡ length s
  pub moved : (i : ℕ) → i + 1 < length s → get_or s' i 0 ≡ get_or s (i + 1) 0
  pub last : (i : ℕ) → i + 1 ≡ length s → get_or s' i 0 ≡ get_or s i 0

-- ---- the part in its place

module _ (a c : ℕ) (s m : List ℕ) (f : a + c ≤ length m) (e : length s ≡ c) where
  front : length (take a m) ≡ a
  front = length-take-le a m (omega (arith, f))

  rest : (j : ℕ) → get_or (splice a c s m) (a + j) 0 ≡ get_or (s ++ drop c (drop a m)) j 0
  rest j = ap (λ (n : ℕ). get_or (splice a c s m) (n + j) 0) (sym front) ∙ get_or-append-add (take a m) (s ++ drop c (drop a m)) j 0

  before : (j : ℕ) → j < a → get_or (splice a c s m) j 0 ≡ get_or m j 0
  before j h = get_or-append (take a m) (s ++ drop c (drop a m)) 0 j (omega (arith, h, front)) ∙ get_or-take a m j 0 h

  inside : (j : ℕ) → j < c → get_or (splice a c s m) (a + j) 0 ≡ get_or s j 0
  inside j h = rest j ∙ get_or-append s (drop c (drop a m)) 0 j (omega (arith, h, e))

  after : (j : ℕ) → get_or (splice a c s m) (a + (c + j)) 0 ≡ get_or m (a + (c + j)) 0
  after j = rest (c + j) ∙ ap (λ (n : ℕ). get_or (s ++ drop c (drop a m)) (n + j) 0) (sym e) ∙ get_or-append-add s (drop c (drop a m)) j 0 ∙ get_or-drop c (drop a m) j 0 ∙ get_or-drop a m (c + j) 0

pub shifted : (t s : List ℕ) (k l : ℕ) → k < l → 2 + l ≤ length t → Closed (take (2 + l - (2 + k)) (drop (2 + k) t)) s → Shifted k l t (splice (2 + k) (2 + l - (2 + k)) s t)
shifted t s k l h f C =
    record {
      long = length_splice a c s t fits long;
      moved = λ i p q. at (2 + i) (i - k) (omega (arith, p)) (omega (arith, p, q)) ∙ C.moved (i - k) (omega (arith, p, q, size)) ∙ cell (i - k + 1) (3 + i) (omega (arith, p, q)) (omega (arith, p));
      under = λ j p. before a c s t fits long j p;
      over = λ j p. ⊎_elim
          (λ e. at j (l - k - 1) (omega (arith, e, h)) (omega (arith, h)) ∙ C.last (l - k - 1) (omega (arith, h, size)) ∙ cell (l - k - 1) j (omega (arith, h)) (omega (arith, e, h)))
          (λ e. let w : j ≡ a + (c + (j - (2 + l))) = omega (arith, e, h) in ap (λ (x : ℕ). get_or (splice a c s t) x 0) w ∙ after a c s t fits long (j - (2 + l)) ∙ ap (λ (x : ℕ). get_or t x 0) (sym w))
          (eq-or-lt_of_le {n = 2 + l} {m = j + 1} p);
    }
  where
    a : ℕ
    a = 2 + k

    c : ℕ
    c = 2 + l - (2 + k)

    size : length (take c (drop a t)) ≡ l - k
    size = length_part (2 + k) (2 + l) t f ∙ omega arith

    fits : a + c ≤ length t
    fits = omega (arith, f, h)

    long : length s ≡ c
    long = C.long ∙ length_part (2 + k) (2 + l) t f

    at : (x j : ℕ) → x ≡ 2 + k + j → j < l - k → get_or (splice a c s t) x 0 ≡ get_or s j 0
    at x j e b = ap (λ (y : ℕ). get_or (splice a c s t) y 0) e ∙ inside a c s t fits long j (omega (arith, b))

    cell : (j x : ℕ) → j < l - k → x ≡ 2 + k + j → get_or (take c (drop a t)) j 0 ≡ get_or t x 0
    cell j x b e = get_or-take c (drop a t) j 0 (omega (arith, b)) ∙ get_or-drop a t j 0 ∙ ap (λ (y : ℕ). get_or t y 0) (sym e)
