use Rattle.std.proofs.Common.{◌≡◌, ℕ, ◌<◌, ◌≤◌}
use Rattle.table.specs.Table.{stamp, taken}
use Rattle.table.specs.Table as T
use Rattle.table.proofs.check_places.Given as goal

abbrev pub invariant-loop-p : goal.invariant-loop-p
invariant-loop-p l = (l.taken ≡ taken l.n l.t l.p) × (l.taken ≤ l.p) × ((q : ℕ) → q < l.p → stamp l.n l.t q ≤ T.next l.t)
