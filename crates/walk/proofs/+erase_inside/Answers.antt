use mathlib.Core.Path.{refl, ◌∙◌}
use native.Mathlib.Omega.{arith}
use Rattle.walk.proofs.EraseWalk.{first_as, started, size_kept, in_rows, child_less, child_can, fewer, turn, can_end, finished}
use Rattle.walk.proofs.+erase_inside.Goals as goal

pub loop-c-init : goal.loop-c-init
loop-c-init t c = (started c.args.x.kind c.args.x.place c.requires c.end_own.ensures, refl)

pub first_of-requires-clause-k_bound : goal.first_of-requires-clause-k_bound
first_of-requires-clause-k_bound t c = rw c.from.ensures (in_rows c.args.x.kind c.args.x.place c.loop-c.invariant.0)

pub erase_inside-requires : goal.erase_inside-requires
erase_inside-requires t c =
    (omega (arith, c.decreases, size_kept c.args.x.kind c.args.x.place c.requires c.end_own.ensures, child_less c.args.x.kind c.args.x.place c.loop-c.invariant.0 (first_as c.from.ensures c.first_of.ensures) c.in-Some.is c.inner.ensures), child_can c.args.x.kind c.args.x.place c.loop-c.invariant.0 (first_as c.from.ensures c.first_of.ensures) c.in-Some.is c.inner.ensures)

pub loop-c-smaller : goal.loop-c-smaller
loop-c-smaller t c = fewer c.args.x.kind c.args.x.place c.loop-c.invariant.0 (first_as c.from.ensures c.first_of.ensures) c.in-Some.is c.inner.ensures c.erase_inside.ensures

pub loop-c-preserved : goal.loop-c-preserved
loop-c-preserved t c = (turn c.args.x.kind c.args.x.place c.loop-c.invariant.0 (first_as c.from.ensures c.first_of.ensures) c.in-Some.is c.inner.ensures c.erase_inside.ensures, c.erase_inside.auto.m ∙ c.loop-c.invariant.1)

pub end_thing-requires-clause-can_end : goal.end_thing-requires-clause-can_end
end_thing-requires-clause-can_end t c = can_end c.args.x.kind c.args.x.place c.loop-c.invariant.0 (first_as c.from.ensures c.first_of.ensures) c.in_default.is

pub returns : goal.returns
returns t c = finished c.args.x.kind c.args.x.place c.loop-c.invariant.0 (first_as c.from.ensures c.first_of.ensures) c.in_default.is c.requires c.end_own.ensures c.end_thing.ensures
