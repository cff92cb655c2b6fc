use Rattle.std.proofs.Common.{length}
use Rattle.context.specs.Steps.{Dropping, slot_list}
use Rattle.context.proofs.operation.drop_slots.Given as goal

abbrev pub invariant-loop-u : goal.invariant-loop-u
invariant-loop-u l = Dropping l.l l.s l.initial.m l.m l.n

abbrev pub decreases-loop-u : goal.decreases-loop-u
decreases-loop-u l = length (slot_list l.l l.s l.m)
