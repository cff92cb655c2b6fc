use Rattle.std.proofs.Common.{rules}
use Rattle.context.specs.Layout.{arena}
use Rattle.context.proofs.table_at.Goals as goal

pub returns : goal.returns
unfolding arena
returns c = search rules
