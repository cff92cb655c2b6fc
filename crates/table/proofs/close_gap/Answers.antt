-- What a move within the part that was lent does to the whole. Assumes nothing.
use Rattle.std.proofs.Common.{rules}
use Rattle.table.proofs.Shifts.{shifted}
use Rattle.table.proofs.close_gap.Goals as goal

pub returns : goal.returns
returns c = shifted c.args.t.now _ c.args.k c.args.l c.requires.0 c.requires.1 (record { long = search rules; moved = λ i h. search rules; last = λ i h. search rules })
