use Rattle.edit.specs.Taken.{fields_of}
use Rattle.uses.proofs.Marking.{Marking}
use Rattle.uses.proofs.mark_listed.Given as goal

abbrev pub invariant-loop-i : goal.invariant-loop-i
invariant-loop-i l = Marking l.v.layout (fields_of l.rec) l.v.words.now l.i l.marks
