use Rattle.context.proofs.Books.{packed, next_number_is}
use Rattle.context.proofs.next_number.Goals as goal

pub upcoming-requires : goal.upcoming-requires
upcoming-requires c = packed c.requires c.table_span-t.ensures

pub returns : goal.returns
returns c = next_number_is c.requires c.table_span-t.ensures c.upcoming.ensures
