use Rattle.context.proofs.Books.{alive_asked, number_is}
use Rattle.context.proofs.number_of.Goals as goal

pub number_at-requires : goal.number_at-requires
number_at-requires c = alive_asked c.requires.well c.table_span-t.ensures _ c.requires.live

pub returns : goal.returns
returns c = number_is c.requires.well c.table_span-t.ensures c.number_at.ensures
