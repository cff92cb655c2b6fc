use Prim.Native.Nat.{◌-◌}
use Rattle.context.specs.Memory.{state_of}
use Rattle.context.specs.Nest.{inner_fam}
use Rattle.walk.specs.Tests.{stray_thing, marks_in}
use Rattle.context.proofs.Search.{Searching}
use Rattle.walk.proofs.Strays.{in_test}
use Rattle.walk.proofs.+strays_within.Given as goal

abbrev pub decreases-strays_within : goal.decreases-strays_within
decreases-strays_within l = l.n

abbrev pub invariant-loop-c : goal.invariant-loop-c
invariant-loop-c l = Searching l.v.layout (inner_fam l.x.kind) l.x.place l.v.words.now l.c-iterator (in_test (state_of l.v.layout l.v.words.now) (stray_thing (state_of l.v.layout l.v.words.now) (marks_in l.s)) (l.n - 1))
