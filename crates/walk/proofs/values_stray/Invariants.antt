use Rattle.places.specs.Store.{vals}
use Rattle.context.specs.Memory.{state_of}
use Rattle.context.proofs.Search.{Searching}
use Rattle.walk.specs.Tests.{stray_value, marks_in}
use Rattle.walk.proofs.values_stray.Given as goal

abbrev pub invariant-loop-p : goal.invariant-loop-p
invariant-loop-p l = Searching l.v.layout vals l.fn.c l.v.words.now l.p-iterator (stray_value (state_of l.v.layout l.v.words.now) (marks_in l.s))
