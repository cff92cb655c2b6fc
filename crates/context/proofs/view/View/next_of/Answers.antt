use Rattle.context.proofs.Viewed.{well_of}
use Rattle.context.proofs.view.View.next_of.Goals as goal

pub next_of-requires-clause-well : goal.next_of-requires-clause-well
next_of-requires-clause-well c = well_of c.args.self.now.sound
