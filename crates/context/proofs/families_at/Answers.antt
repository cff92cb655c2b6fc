use Rattle.std.proofs.Common.{rules}
use Rattle.context.specs.Layout.{arena}
use Rattle.context.proofs.families_at.Goals as goal

pub returns : goal.returns
unfolding arena
returns c = search (c.requires, c.table_span.ensures, rules)
