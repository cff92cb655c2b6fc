use Rattle.context.proofs.Sparing.{spare_asked, spare_says}
use Rattle.context.proofs.spare_ok.Goals as goal

pub places_spare-requires : goal.places_spare-requires
places_spare-requires c = spare_asked c.requires.has_tag c.requires.fits c.requires.table_ok c.table_span-t.ensures c.requires.tags_at

pub returns : goal.returns
returns c = spare_says c.requires.has_tag c.requires.fits c.requires.table_ok c.table_span-t.ensures c.requires.tags_at c.places_spare.result c.places_spare.ensures
