use Rattle.std.proofs.Common.{arith}
use Rattle.arena.specs.Packed.{Alive}
use Rattle.table.proofs.Live.{live_stamp}
use Rattle.seqs.proofs.Says.{says_no, says_yes}
use Rattle.context.proofs.Sparing.{free_says}
use Rattle.context.proofs.place_spare.Goals as goal

pub returns-then-is_live : goal.returns-then-is_live
returns-then-is_live c =
    rw c.if-is_live.true
    (record { is = λ e. absurd (omega (arith, e, live_stamp c.requires.0.table c.args.p (says_yes c.is_live.result (Alive c.args.n c.args.t.now c.args.p) c.if-is_live.true c.is_live.ensures))) })

pub returns-else-is_live : goal.returns-else-is_live
returns-else-is_live c = free_says c.requires.0 c.requires.1.1 _ (says_no c.is_live.result (Alive c.args.n c.args.t.now c.args.p) c.if-is_live.false c.is_live.ensures)
