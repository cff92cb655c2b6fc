use Rattle.std.proofs.Common.{sym}
use Rattle.context.proofs.Rest.{first_here}
use Rattle.context.proofs.Search.{searching, hit, miss, over}
use Rattle.context.proofs.Viewed.{sound_of}
use Rattle.walk.specs.Tests.{stray_set}
use Rattle.walk.proofs.set_strays.Goals as goal

pub loop-u-init : goal.loop-u-init
loop-u-init c = rw c.into_iter-u-iterator.ensures.into_iter_gives (searching c.nodes-u-items.ensures)

pub is_stray-requires-clause-live : goal.is_stray-requires-clause-live
is_stray-requires-clause-live c = (first_here (rw c.in-Some.ensures.steps at c.loop-u.invariant.rest) (sound_of c.args.v.now.sound)).live

pub returns-then-is_stray : goal.returns-then-is_stray
unfolding stray_set
returns-then-is_stray c = hit (rw c.in-Some.ensures.steps at c.loop-u.invariant) (sym c.if-is_stray.ensures)

pub loop-u-preserved : goal.loop-u-preserved
loop-u-preserved c = miss (rw c.in-Some.ensures.steps at c.loop-u.invariant) (sym c.if-is_stray.ensures)

pub returns : goal.returns
unfolding stray_set
returns c = over (rw c.in-None.ensures.steps.0 at c.loop-u.invariant)
