use Rattle.context.proofs.Viewed.{well_of}
use Rattle.context.proofs.view.View.nth_live.Goals as goal

pub nth_live-requires-clause-well : goal.nth_live-requires-clause-well
nth_live-requires-clause-well c = well_of c.args.self.now.sound
