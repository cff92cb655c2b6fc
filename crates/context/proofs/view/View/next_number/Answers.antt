use Rattle.context.proofs.Viewed.{well_of}
use Rattle.context.proofs.view.View.next_number.Goals as goal

pub next_number-requires : goal.next_number-requires
next_number-requires c = well_of c.args.self.now.sound
