use Rattle.std.proofs.Common.{length}
use Rattle.linked_list.specs.Links.{row}
use Rattle.linked_list.proofs.Moves.{Moved}
use Rattle.linked_list.proofs.Lists.append_linked_list.Given as goal

abbrev pub invariant-loop-n : goal.invariant-loop-n
invariant-loop-n l = Moved l.self.nc l.self.nn l.initial.s l.s l.donee l.donor

abbrev pub decreases-loop-n : goal.decreases-loop-n
decreases-loop-n l = length (row l.self.nc l.self.nn l.s l.donor)
