use Rattle.std.proofs.Common.{◌≡◌, ℕ, ◌≤◌, ◌<◌}
use Rattle.linked_list.specs.Links.{Row}
use Rattle.linked_list.specs.Check.{row_at, tot}
use Rattle.linked_list.proofs.Lists.check_rows.Given as goal

abbrev pub invariant-loop-c : goal.invariant-loop-c
invariant-loop-c l = (l.t ≤ l.self.nn) × ((d : ℕ) → d < l.c → Row l.self.nc l.self.nn l.s d (row_at l.self.nc l.self.nn l.s d)) × (l.t ≡ tot l.self.nc l.self.nn l.s l.c)
