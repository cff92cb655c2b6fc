use Rattle.std.proofs.Common.{rules}
use Rattle.context.proofs.Checking.{tables_say}
use Rattle.context.proofs.tables_ok.Goals as goal

pub returns-then-table_ok-4 : goal.returns-then-table_ok-4
returns-then-table_ok-4 c = tables_say c.args.l c.args.m.now _ (search rules)

pub returns-else-table_ok-4 : goal.returns-else-table_ok-4
returns-else-table_ok-4 c = tables_say c.args.l c.args.m.now _ (search rules)
