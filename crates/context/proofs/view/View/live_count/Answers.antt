use Rattle.context.proofs.Viewed.{well_of}
use Rattle.context.proofs.view.View.live_count.Goals as goal

pub live_count-requires : goal.live_count-requires
live_count-requires c = well_of c.args.self.now.sound
