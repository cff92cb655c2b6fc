use Rattle.std.proofs.Common.{◌-◌, ◌≤◌}
use Rattle.linked_list.proofs.Checks.{Part, Along}
use Rattle.linked_list.proofs.Lists.check_row.Given as goal

abbrev pub invariant-loop-x : goal.invariant-loop-x
invariant-loop-x l = (l.j ≤ l.b) × Part l.self.nc l.self.nn l.s l.c l.p l.q l.j × Along l.self.nc l.self.nn l.s l.c l.p l.q l.j

abbrev pub decreases-loop-x : goal.decreases-loop-x
decreases-loop-x l = l.b - l.j
