use Rattle.context.proofs.Checking.{table_says}
use Rattle.context.proofs.table_ok.Goals as goal

pub returns : goal.returns
returns c = table_says _ c.table_span-t.ensures c.check.result c.check.ensures
