use mathlib.Core.Path.{◌≡◌}
use lib.ListN.{length}
use Rattle.places.specs.Walk.{kids}
use Rattle.places.proofs.Runs.{measure}
use Rattle.context.specs.Memory.{state_of}
use Rattle.context.specs.Nest.{thing_at}
use Rattle.walk.proofs.EraseWalk.{Going}
use Rattle.walk.proofs.+erase_inside.Given as goal

abbrev pub decreases-erase_inside : goal.decreases-erase_inside
decreases-erase_inside l = measure (state_of l.l l.m.now) (thing_at l.x)

abbrev pub invariant-loop-c : goal.invariant-loop-c
invariant-loop-c l = Going l.l (thing_at l.x) l.initial.m l.m × (length l.m ≡ length l.initial.m)

abbrev pub decreases-loop-c : goal.decreases-loop-c
decreases-loop-c l = length (kids (state_of l.l l.m) (thing_at l.x))
