use Rattle.context.proofs.Viewed.{well_of}
use Rattle.context.proofs.view.View.nth_of.Goals as goal

pub nth_of-requires-clause-well : goal.nth_of-requires-clause-well
nth_of-requires-clause-well c = well_of c.args.self.now.sound
