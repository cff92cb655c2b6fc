-- An empty table. Assumes nothing.
use Rattle.std.proofs.Common.{rules}
use Rattle.table.proofs.Cells.{started}
use Rattle.table.proofs.start.Goals as goal

pub returns : goal.returns
returns c = started _ _ c.requires.1 (search rules) (λ i l. search rules)
