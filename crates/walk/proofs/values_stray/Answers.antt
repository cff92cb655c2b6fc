use Rattle.std.proofs.Common.{◌∙◌, sym, arith}
use Rattle.places.specs.Store.{val}
use Rattle.context.proofs.Places.{place<}
use Rattle.context.proofs.Rest.{first_here}
use Rattle.context.proofs.Search.{searching, hit, miss, over}
use Rattle.context.proofs.Viewed.{sound_of}
use Rattle.walk.specs.Tests.{marks_in}
use Rattle.walk.proofs.Strays.{value_set}
use Rattle.walk.proofs.values_stray.Goals as goal

pub loop-p-init : goal.loop-p-init
loop-p-init c = rw c.into_iter-p-iterator.ensures.into_iter_gives (searching c.nodes-p-items.ensures)

pub set_strays-requires-clause-d_bound : goal.set_strays-requires-clause-d_bound
set_strays-requires-clause-d_bound c =
    omega (arith, place< (sound_of c.args.v.now.sound) (val, c.in-Some.p) (first_here (rw c.in-Some.ensures.steps at c.loop-p.invariant.rest) (sound_of c.args.v.now.sound)).live)

pub returns-then-set_strays : goal.returns-then-set_strays
returns-then-set_strays c =
    hit (rw c.in-Some.ensures.steps at c.loop-p.invariant)
    (sym (value_set (sound_of c.args.v.now.sound) (marks_in c.args.s.now) c.in-Some.p (place< (sound_of c.args.v.now.sound) (val, c.in-Some.p) (first_here (rw c.in-Some.ensures.steps at c.loop-p.invariant.rest) (sound_of c.args.v.now.sound)).live)) ∙ sym c.if-set_strays.ensures)

pub loop-p-preserved : goal.loop-p-preserved
loop-p-preserved c =
    miss (rw c.in-Some.ensures.steps at c.loop-p.invariant)
    (sym (value_set (sound_of c.args.v.now.sound) (marks_in c.args.s.now) c.in-Some.p (place< (sound_of c.args.v.now.sound) (val, c.in-Some.p) (first_here (rw c.in-Some.ensures.steps at c.loop-p.invariant.rest) (sound_of c.args.v.now.sound)).live)) ∙ sym c.if-set_strays.ensures)

pub returns : goal.returns
returns c = over (rw c.in-None.ensures.steps.0 at c.loop-p.invariant)
