use Rattle.context.proofs.Viewed.{well_of}
use Rattle.creation.proofs.free_places.Goals as goal

pub table_span-requires : goal.table_span-requires
table_span-requires c = (well_of c.args.v.now.sound).caps
