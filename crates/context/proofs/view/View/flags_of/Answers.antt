use Rattle.context.proofs.Viewed.{well_of}
use Rattle.context.proofs.view.View.flags_of.Goals as goal

pub flags_of-requires-clause-well : goal.flags_of-requires-clause-well
flags_of-requires-clause-well c = well_of c.args.self.now.sound
