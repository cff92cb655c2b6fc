use Rattle.context.proofs.Viewed.{well_of}
use Rattle.context.proofs.view.View.first_of.Goals as goal

pub first_of-requires-clause-well : goal.first_of-requires-clause-well
first_of-requires-clause-well c = well_of c.args.self.now.sound
