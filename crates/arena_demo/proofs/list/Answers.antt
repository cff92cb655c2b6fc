-- A slice that passed the check is an arena, and at each index of its order stands a live place. Assumes nothing.
use Rattle.std.proofs.Common.{sym, subst, arith}
use Rattle.arena.specs.Packed.{Alive}
use Rattle.table.proofs.Live.{nth_live}
use Rattle.arena_demo.proofs.list.Goals as goal

pub number_at-number-requires : goal.number_at-number-requires
number_at-number-requires g c =
    let P = c.if-not-check.ensures in
    (P, subst (Alive c.args.n c.args.m.now) (sym c.nth_live-p.ensures) (nth_live P.table c.loop-k.k (omega arith)))
