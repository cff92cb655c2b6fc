use Rattle.context.proofs.Calling.{calling, called, passed, failed, over}
use Rattle.context.proofs.Viewed.{sound_of}
use Rattle.context.proofs.view.View.any_of.Goals as goal

pub loop-p-init : goal.loop-p-init
loop-p-init g c = rw c.into_iter-p-iterator.ensures.into_iter_gives (calling c.nodes-p-items.ensures)

pub test-requires : goal.test-requires
test-requires g c = c.requires.callable c.in-Some.p (called (sound_of c.args.self.now.sound) (rw c.in-Some.ensures.steps at c.loop-p.invariant))

pub returns-then-test : goal.returns-then-test
returns-then-test g c = passed (sound_of c.args.self.now.sound) (rw c.in-Some.ensures.steps at c.loop-p.invariant) c.if-test.ensures

pub loop-p-preserved : goal.loop-p-preserved
loop-p-preserved g c = failed (sound_of c.args.self.now.sound) (rw c.in-Some.ensures.steps at c.loop-p.invariant) c.if-test.ensures

pub returns : goal.returns
returns g c = over (rw c.in-None.ensures.steps.0 at c.loop-p.invariant)
