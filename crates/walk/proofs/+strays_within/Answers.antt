use mathlib.Core.Path.{refl, sym, ap, ◌∙◌}
use mathlib.Core.Bool.{true, false}
use native.Mathlib.Omega.{arith}
use Prim.Native.Nat.{◌-◌}
use Rattle.context.specs.Memory.{state_of}
use Rattle.context.specs.Nest.{thing_at}
use Rattle.context.proofs.Search.{searching, hit, miss, over}
use Rattle.context.proofs.Viewed.{sound_of}
use Rattle.walk.specs.Tests.{stray_thing, marks_in}
use Rattle.walk.proofs.EraseWalk.{inner_list, nodes_as}
use Rattle.walk.proofs.Strays.{child_is, child_testable, in_test, test_none, test_own, test_inside}
use Rattle.walk.proofs.+strays_within.Goals as goal

pub returns-then-n-eq0 : goal.returns-then-n-eq0
returns-then-n-eq0 t c = test_none (state_of c.args.v.now.layout c.args.v.now.words.now) (stray_thing (state_of c.args.v.now.layout c.args.v.now.words.now) (marks_in c.args.s.now)) c.args.n (thing_at c.args.x) c.if-n-eq0.true

pub returns-then-own_strays : goal.returns-then-own_strays
returns-then-own_strays t c = test_own (sound_of c.args.v.now.sound) (stray_thing (state_of c.args.v.now.layout c.args.v.now.words.now) (marks_in c.args.s.now)) c.args.x.kind c.args.x.place c.args.n c.if-n-eq0.false (sym c.if-own_strays.ensures)

pub nodes-c-items-requires : goal.nodes-c-items-requires
nodes-c-items-requires t c = rw c.from.ensures (inner_list (sound_of c.args.v.now.sound) c.args.x.kind c.args.x.place c.requires.live)

pub loop-c-init : goal.loop-c-init
loop-c-init t c =
    rw c.into_iter-c-iterator.ensures.into_iter_gives (searching (nodes_as c.from.ensures c.nodes-c-items.ensures))

pub strays_within-requires : goal.strays_within-requires
strays_within-requires t c =
    (omega (arith, c.decreases, c.if-n-eq0.false), child_testable (sound_of c.args.v.now.sound) c.requires (rw c.in-Some.ensures.steps at c.loop-c.invariant.rest) c.inner.ensures refl)

pub returns-then-strays_within : goal.returns-then-strays_within
returns-then-strays_within t c =
    test_inside (sound_of c.args.v.now.sound) (stray_thing (state_of c.args.v.now.layout c.args.v.now.words.now) (marks_in c.args.s.now)) c.args.x.kind c.args.x.place c.args.n c.if-n-eq0.false true (sym c.if-own_strays.ensures)
    (hit (rw c.in-Some.ensures.steps at c.loop-c.invariant) (ap (in_test (state_of c.args.v.now.layout c.args.v.now.words.now) (stray_thing (state_of c.args.v.now.layout c.args.v.now.words.now) (marks_in c.args.s.now)) (c.args.n - 1)) (child_is c.args.x.kind c.in-Some.c c.inner.ensures) ∙ sym c.if-strays_within.ensures))

pub loop-c-preserved : goal.loop-c-preserved
loop-c-preserved t c =
    miss (rw c.in-Some.ensures.steps at c.loop-c.invariant) (ap (in_test (state_of c.args.v.now.layout c.args.v.now.words.now) (stray_thing (state_of c.args.v.now.layout c.args.v.now.words.now) (marks_in c.args.s.now)) (c.args.n - 1)) (child_is c.args.x.kind c.in-Some.c c.inner.ensures) ∙ sym c.if-strays_within.ensures)

pub returns : goal.returns
returns t c =
    test_inside (sound_of c.args.v.now.sound) (stray_thing (state_of c.args.v.now.layout c.args.v.now.words.now) (marks_in c.args.s.now)) c.args.x.kind c.args.x.place c.args.n c.if-n-eq0.false false (sym c.if-own_strays.ensures)
    (over (rw c.in-None.ensures.steps.0 at c.loop-c.invariant))
