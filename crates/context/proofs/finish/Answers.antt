use Rattle.context.proofs.Books.{live_asked, finished}
use Rattle.context.proofs.finish.Goals as goal

pub end-requires : goal.end-requires
end-requires c = live_asked c.requires.well c.table_span-t.ensures _ c.requires.live

pub returns : goal.returns
returns c = finished c.requires.well c.table_span-t.ensures _ c.end.auto.m c.requires.p_value c.end.ensures
