use Rattle.context.proofs.Viewed.{well_of}
use Rattle.context.proofs.view.View.number_of.Goals as goal

pub number_of-requires-clause-well : goal.number_of-requires-clause-well
number_of-requires-clause-well c = well_of c.args.self.now.sound
