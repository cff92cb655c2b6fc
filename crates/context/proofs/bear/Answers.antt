use Rattle.context.proofs.Books.{room_asked, borne}
use Rattle.context.proofs.bear.Goals as goal

pub birth-requires : goal.birth-requires
birth-requires c = room_asked c.requires.well c.table_span-t.ensures c.requires.room_for

pub returns : goal.returns
returns c = borne c.requires.well c.table_span-t.ensures _ c.birth.auto.m c.birth.ensures
