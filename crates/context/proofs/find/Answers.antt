use Rattle.context.proofs.Books.{packed, finds}
use Rattle.context.proofs.find.Goals as goal

pub find-requires : goal.find-requires
find-requires c = packed c.requires c.table_span-t.ensures

pub returns : goal.returns
returns c = finds c.requires c.table_span-t.ensures _ c.find.result c.find.ensures
