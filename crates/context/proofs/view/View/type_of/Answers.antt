use Rattle.context.proofs.Viewed.{well_of}
use Rattle.context.proofs.view.View.type_of.Goals as goal

pub type_of-requires-clause-well : goal.type_of-requires-clause-well
type_of-requires-clause-well c = well_of c.args.self.now.sound
