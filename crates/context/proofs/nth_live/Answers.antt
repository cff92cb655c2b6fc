use Rattle.context.proofs.Books.{nth_asked, nth_live_is}
use Rattle.context.proofs.nth_live.Goals as goal

pub nth_live-requires : goal.nth_live-requires
nth_live-requires c = nth_asked c.requires.well c.table_span-t.ensures c.requires.i_in_bounds

pub returns : goal.returns
returns c = nth_live_is c.requires.well c.table_span-t.ensures c.requires.i_in_bounds c.nth_live.ensures
