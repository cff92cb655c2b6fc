use Rattle.context.proofs.Viewed.{well_of}
use Rattle.context.proofs.view.View.last_of.Goals as goal

pub last_of-requires-clause-well : goal.last_of-requires-clause-well
last_of-requires-clause-well c = well_of c.args.self.now.sound
