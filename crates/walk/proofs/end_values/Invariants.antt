use mathlib.Core.Path.{◌≡◌}
use lib.ListN.{length}
use Rattle.places.specs.Store.{vals}
use Rattle.context.proofs.Cursor.{row}
use Rattle.walk.proofs.EndValues.{Ending}
use Rattle.walk.proofs.end_values.Given as goal

abbrev pub invariant-loop-v : goal.invariant-loop-v
invariant-loop-v l = Ending l.l l.c l.initial.m l.m × (length l.m ≡ length l.initial.m)

abbrev pub decreases-loop-v : goal.decreases-loop-v
decreases-loop-v l = length (row l.l vals l.c l.m)
