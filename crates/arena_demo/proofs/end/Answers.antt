-- A slice that passed the check is an arena, and a live place has a stamp. Assumes nothing.
use Rattle.table.proofs.Live.{live_stamp}
use Rattle.arena_demo.proofs.end.Goals as goal

pub end-requires : goal.end-requires
end-requires g c =
    let P = c.if-not-check.ensures in
    (P, live_stamp P.table c.args.p c.if-not-is_live.ensures)
