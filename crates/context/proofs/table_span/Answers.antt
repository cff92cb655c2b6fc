use Rattle.std.proofs.Common.{rules}
use Rattle.context.specs.Layout.{arena}
use Rattle.context.proofs.table_span.Goals as goal

pub table_at-blocks-requires : goal.table_at-blocks-requires
unfolding arena
table_at-blocks-requires c = search (c.requires, c.table_at-ops.ensures, rules)

pub table_at-regions-requires : goal.table_at-regions-requires
unfolding arena
table_at-regions-requires c = search (c.requires, c.table_at-ops.ensures, c.table_at-blocks.ensures, rules)

pub table_at-values-requires : goal.table_at-values-requires
unfolding arena
table_at-values-requires c = search (c.requires, c.table_at-ops.ensures, c.table_at-blocks.ensures, c.table_at-regions.ensures, rules)

pub table_at-requires : goal.table_at-requires
unfolding arena
table_at-requires c = search (c.requires, c.table_at-ops.ensures, c.table_at-blocks.ensures, c.table_at-regions.ensures, c.table_at-values.ensures, rules)
