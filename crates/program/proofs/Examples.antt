-- The table of examples holds for the code: what `print` writes for each of its scripts is the text beside it, from the contract of `print` alone.
-- Assumes nothing.
use mathlib.Core.Path.{◌≡◌, refl, sym, ap, ap₂, ◌∙◌, subst}
use mathlib.Core.Bool.{Bool, true, false}
use mathlib.Core.List.{List, [], ◌∷◌}
use Prim.Native.Nat.{ℕ, zero, suc, ◌<◌}
use native.Mathlib.Omega.{arith}
use lib.Dec.{eqb, ltb, T}
use lib.ListN.{length, get_or}
use borrow.Author.Tests.{eqb-true}
use Rattle.rules.specs.Listing.{text, printed, output}
use Rattle.rules.specs.Examples.{computing, le32, rec, same, lines, right, examples, examples_right}
use Rattle.listing.specs.Writer.{Written}

abbrev Row : Type 0
Row = List ℕ × List ℕ

same_is : (xs ys : List ℕ) → T (same xs ys) → xs ≡ ys
unfolding same
same_is [] [] h = refl
same_is [] (y ∷ ys) h = absurd h
same_is (x ∷ xs) [] h = absurd h
same_is (x ∷ xs) (y ∷ ys) h = go (same_is xs ys) (eqb x y) refl h
  where
    go : (T (same xs ys) → xs ≡ ys) → (b : Bool) → eqb x y ≡ b → T (elim b [ true ↦ same xs ys | false ↦ false ]) → ◌≡◌ {A = List ℕ} (x ∷ xs) (y ∷ ys)
    go ih true e h = ap₂ {C = List ℕ} (λ a r. a ∷ r) (eqb-true x y e) (ih h)
    go ih false e h = absurd h

-- a table that is right has the text of each of its scripts
row_right : (t : List Row) → T (right t) → (k : ℕ) → k < length t → printed (get_or t k ([], [])).0 ≡ (get_or t k ([], [])).1
unfolding right
row_right [] h k q = absurd (omega (arith, q))
row_right (e ∷ t) h k q = go (row_right t) (same (printed e.0) e.1) refl h k q
  where
    go : (T (right t) → (k : ℕ) → k < length t → printed (get_or t k ([], [])).0 ≡ (get_or t k ([], [])).1) → (b : Bool) → same (printed e.0) e.1 ≡ b → T (elim b [ true ↦ right t | false ↦ false ])
        → (k : ℕ) → k < suc (length t) → printed (get_or {A = Row} (e ∷ t) k ([], [])).0 ≡ (get_or {A = Row} (e ∷ t) k ([], [])).1
    go ih true s h zero q = same_is (printed e.0) e.1 (subst T (sym s) tt)
    go ih true s h (suc k) q = ih h k (omega (arith, q))
    go ih false s h k q = absurd h

-- none of the scripts is too long
unfoldable short : List Row → Bool
short [] = true
short (e ∷ t) = elim (ltb 16384 (length e.0)) [ true ↦ false | false ↦ short t ]

examples_short : T (short examples)
unfolding short computing le32 rec lines examples
examples_short = tt

row_short : (t : List Row) → T (short t) → (k : ℕ) → k < length t → ltb 16384 (length (get_or t k ([], [])).0) ≡ false
unfolding short
row_short [] h k q = absurd (omega (arith, q))
row_short (e ∷ t) h k q = go (row_short t) (ltb 16384 (length e.0)) refl h k q
  where
    go : (T (short t) → (k : ℕ) → k < length t → ltb 16384 (length (get_or t k ([], [])).0) ≡ false) → (b : Bool) → ltb 16384 (length e.0) ≡ b → T (elim b [ true ↦ false | false ↦ short t ])
        → (k : ℕ) → k < suc (length t) → ltb 16384 (length (get_or {A = Row} (e ∷ t) k ([], [])).0) ≡ false
    go ih true s h k q = absurd h
    go ih false s h zero q = s
    go ih false s h (suc k) q = ih h k (omega (arith, q))

-- the theorem
pub example_printed : (k : ℕ) → k < length examples → {out out' : List ℕ} {r : ℕ} → Written (output (get_or examples k ([], [])).0) out 0 out' r → Written (get_or examples k ([], [])).1 out 0 out' r
unfolding output
example_printed k q {out} {out'} {r} w =
    subst (λ (t : List ℕ). Written t out 0 out' r)
    (ap (λ (b : Bool). elim b [ true ↦ text "script too long\n" | false ↦ printed (get_or examples k ([], [])).0 ]) (row_short examples examples_short k q) ∙ row_right examples examples_right k q) w
