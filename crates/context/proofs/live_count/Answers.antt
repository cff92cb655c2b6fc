use Rattle.context.proofs.Books.{packed, live_is}
use Rattle.context.proofs.live_count.Goals as goal

pub taken-requires : goal.taken-requires
taken-requires c = packed c.requires c.table_span-t.ensures

pub returns : goal.returns
returns c = live_is c.requires c.table_span-t.ensures c.taken.ensures
