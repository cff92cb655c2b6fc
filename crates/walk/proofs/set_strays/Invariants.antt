use Rattle.places.specs.Store.{use_sets}
use Rattle.context.specs.Memory.{state_of}
use Rattle.context.proofs.Search.{Searching}
use Rattle.walk.specs.Tests.{stray, marks_in}
use Rattle.walk.proofs.set_strays.Given as goal

abbrev pub invariant-loop-u : goal.invariant-loop-u
invariant-loop-u l = Searching l.v.layout use_sets l.fn.d l.v.words.now l.u-iterator (stray (state_of l.v.layout l.v.words.now) (marks_in l.s))
