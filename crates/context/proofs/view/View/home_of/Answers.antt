use Rattle.context.proofs.Viewed.{well_of}
use Rattle.context.proofs.view.View.home_of.Goals as goal

pub home_of-requires-clause-well : goal.home_of-requires-clause-well
home_of-requires-clause-well c = well_of c.args.self.now.sound
