use Rattle.context.proofs.Viewed.{well_of}
use Rattle.context.proofs.view.View.find.Goals as goal

pub find-requires : goal.find-requires
find-requires c = well_of c.args.self.now.sound
