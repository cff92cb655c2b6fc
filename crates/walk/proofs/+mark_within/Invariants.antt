use Rattle.std.specs.Int.{from_bool}
use Rattle.walk.proofs.Marks.{Marking}
use Rattle.walk.proofs.+mark_within.Given as goal

abbrev pub decreases-mark_within : goal.decreases-mark_within
decreases-mark_within l = l.n

abbrev pub invariant-loop-c : goal.invariant-loop-c
invariant-loop-c l = Marking l.v.layout l.x l.n (from_bool l.marked) l.v.words.now l.initial.s l.s l.c-iterator
