use Rattle.context.proofs.Viewed.{well_of}
use Rattle.context.proofs.view.View.may_grow.Goals as goal

pub may_grow-requires : goal.may_grow-requires
may_grow-requires c = well_of c.args.self.now.sound
