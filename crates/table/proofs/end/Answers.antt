-- An end. Assumes nothing.
use Rattle.std.proofs.Common.{◌≡◌, ◌<◌, arith}
use Rattle.seqs.proofs.Cells.{some_of, stored_some}
use Rattle.table.specs.Table.{count, order}
use Rattle.table.proofs.Laws.{at_rank, ordered}
use Rattle.table.proofs.Cells.{shifted_is, ended}
use Rattle.table.proofs.end.Goals as goal
use Rattle.table.proofs.end.Goals.{After-rank-k}

pub unwrap-number-requires : goal.unwrap-number-requires
unwrap-number-requires c = some_of c.number_at.ensures c.requires.1.1

-- the rank is the position of the thing at p
at : (c : After-rank-k) → (c.rank-k.result < count c.args.t.now) × (order c.args.t.now c.rank-k.result ≡ c.args.p)
at c =
    let T = c.requires.0 in
    let t = c.args.t.now in
    at_rank c.args.n t c.args.p c.unwrap-number.result _ (ordered T) (T.found _ c.requires.1.0 c.requires.1.1) (omega (arith, stored_some c.number_at.ensures c.unwrap-number.ensures)) c.rank-k.ensures

pub returns : goal.returns
returns c =
    let T = c.requires.0 in
    let found = at (goal.at.returns c).After-rank-k in
    ended _ _ _ c.rank-k.result c.args.p T (shifted_is c.args.n c.args.t.now c.close_gap.new.t c.rank-k.result c.args.p T.size T.few c.requires.1.0 found.0 c.close_gap.ensures) c.requires.1.0 found.0 found.1
