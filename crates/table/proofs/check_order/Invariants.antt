-- The order so far: prev is the last stamp, or 0. Assumes nothing.
use Rattle.std.proofs.Common.{◌≡◌, ◌⊎◌, List, ℕ, ◌≤◌, ◌<◌}
use Rattle.table.specs.Table.{order, stamp}
use Rattle.table.proofs.check_order.Given as goal

pub record So (n : ℕ) (t : List ℕ) (prev i : ℕ) : Type 0 where
  pub inside : (j : ℕ) → j < i → order t j < n
  pub top : (j : ℕ) → j < i → stamp n t (order t j) ≤ prev
  pub used : (j : ℕ) → j < i → 0 < stamp n t (order t j)
  pub rising : (j k : ℕ) → j < k → k < i → stamp n t (order t j) < stamp n t (order t k)
  pub last : (prev ≡ 0) ⊎ ((j : ℕ) × (j < i) × (stamp n t (order t j) ≡ prev))

abbrev pub invariant-loop-i : goal.invariant-loop-i
invariant-loop-i l = So l.n l.t l.prev l.i
