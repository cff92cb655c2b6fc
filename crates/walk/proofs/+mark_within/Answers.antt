use mathlib.Core.Path.{◌∙◌}
use native.Mathlib.Omega.{arith}
use Rattle.context.specs.Memory.{state_of}
use Rattle.std.specs.Int.{from_bool}
use Rattle.context.specs.Nest.{thing_at}
use Rattle.context.proofs.Viewed.{sound_of}
use Rattle.walk.proofs.EraseWalk.{place_as, inner_list, nodes_as}
use Rattle.walk.proofs.Marks.{given_nowhere, marking, marking_on, marked}
use Rattle.walk.proofs.Strays.{child_testable}
use Rattle.walk.proofs.+mark_within.Goals as goal

pub returns-then-n-eq0 : goal.returns-then-n-eq0
returns-then-n-eq0 t c = given_nowhere (state_of c.args.v.now.layout c.args.v.now.words.now) c.args.n (thing_at c.args.x) (from_bool c.args.marked) c.args.s.now c.if-n-eq0.true

pub mark_own-requires : goal.mark_own-requires
mark_own-requires t c = λ e. omega (arith, c.requires.long, place_as (sound_of c.args.v.now.sound) e c.requires.live)

pub nodes-c-items-requires : goal.nodes-c-items-requires
nodes-c-items-requires t c = rw c.from.ensures (inner_list (sound_of c.args.v.now.sound) c.args.x.kind c.args.x.place c.requires.live)

pub loop-c-init : goal.loop-c-init
loop-c-init t c =
    rw c.into_iter-c-iterator.ensures.into_iter_gives (marking c.args.n (from_bool c.args.marked) _ (nodes_as c.from.ensures c.nodes-c-items.ensures))

pub mark_within-requires : goal.mark_within-requires
mark_within-requires t c =
    (omega (arith, c.decreases, c.if-n-eq0.false), child_testable (sound_of c.args.v.now.sound) c.requires (rw c.in-Some.ensures.steps at c.loop-c.invariant.rest) c.inner.ensures (c.loop-c.invariant.given.long ∙ c.mark_own.ensures.long))

pub loop-c-preserved : goal.loop-c-preserved
loop-c-preserved t c =
    marking_on (rw c.in-Some.ensures.steps at c.loop-c.invariant) c.inner.ensures c.mark_within.ensures

pub returns : goal.returns
returns t c =
    marked (sound_of c.args.v.now.sound) (rw c.in-None.ensures.steps.0 at c.loop-c.invariant) c.if-n-eq0.false c.mark_own.ensures
