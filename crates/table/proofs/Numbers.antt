-- Where a number can stand in the order: births and ends bound it from both sides. Assumes nothing.
use Rattle.std.proofs.Common.{◌≡◌, refl, List, ℕ, zero, suc, min, ◌+◌, ◌-◌, ◌≤◌, ◌<◌, arith}
use Rattle.table.specs.Table.{Table, next, count, order, stamp, Bracket}

module _ (n : ℕ) (t : List ℕ) (T : Table n t) where
  -- i live things are older than the one at index i
  pub stamp_least : (i : ℕ) → i < count t → i < stamp n t (order t i)
  stamp_least zero h = T.used zero h
  stamp_least (suc i) h = omega (arith, stamp_least i (omega arith), T.rising i (suc i) (omega arith) h)

  -- k live things are younger than the one at index i
  younger : (k i : ℕ) → i + k + 1 ≡ count t → stamp n t (order t i) + k ≤ next t
  younger zero i e = omega (arith, T.below (order t i) (T.inside i (omega arith)))
  younger (suc k) i e = omega (arith, younger k (suc i) (omega arith), T.rising i (suc i) (omega arith) (omega arith))

  pub stamp_most : (i : ℕ) → i < count t → stamp n t (order t i) + count t ≤ next t + i + 1
  stamp_most i h = omega (arith, younger (count t - i - 1) i (omega arith))

  -- as many numbers were given as things live, or more
  pub count_next : (c : ℕ) → c ≡ count t → c ≤ next t
  count_next zero e = omega arith
  count_next (suc c) e = omega (arith, stamp_least c (omega arith), T.below (order t c) (T.inside c (omega arith)))

-- before the first step: of l live things, where e numbers up to x cannot have ended
pub bracket : (n : ℕ) (t : List ℕ) (x lo hi : ℕ) → Table n t → lo ≡ min (count t) (x - (next t - count t)) → hi ≡ min (count t) x → Bracket n t x lo hi
bracket n t x lo hi T g h =
    record {
      ordered = omega arith;
      within = omega arith;
      low = λ i q. omega (arith, stamp_most n t T i (omega arith), count_next n t T (count t) refl);
      high = λ i q r. omega (arith, stamp_least n t T i r);
    }
