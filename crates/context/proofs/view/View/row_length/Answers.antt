use Rattle.context.proofs.Viewed.{well_of}
use Rattle.context.proofs.view.View.row_length.Goals as goal

pub row_length-requires-clause-well : goal.row_length-requires-clause-well
row_length-requires-clause-well c = well_of c.args.self.now.sound
