use Rattle.std.proofs.Common.{◌+◌}
use Rattle.places.specs.Store.{use_sets}
use Rattle.context.specs.Memory.{state_of}
use Rattle.context.proofs.Search.{Searching}
use Rattle.walk.proofs.Search.{lost?}
use Rattle.walk.proofs.lost_pred.Given as goal

abbrev pub invariant-loop-u : goal.invariant-loop-u
invariant-loop-u l = Searching l.v.layout use_sets (l.fn.v.layout.values + l.fn.b) l.v.words.now l.u-iterator (lost? (state_of l.v.layout l.v.words.now) l.fn.b)
