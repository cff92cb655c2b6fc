use Rattle.std.proofs.Common.{◌+◌}
use Rattle.places.specs.Store.{use_sets}
use Rattle.context.specs.Memory.{state_of}
use Rattle.context.proofs.Search.{Searching}
use Rattle.context.proofs.Users.{stray?}
use Rattle.context.proofs.view.View.stray_user.Given as goal

abbrev pub invariant-loop-u : goal.invariant-loop-u
invariant-loop-u l = Searching l.self.layout use_sets (l.fn.self.layout.values + l.fn.b) l.self.words.now l.u-iterator (stray? (state_of l.self.layout l.self.words.now))
