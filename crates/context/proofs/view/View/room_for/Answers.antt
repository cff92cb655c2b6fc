use Rattle.context.proofs.Viewed.{well_of}
use Rattle.context.proofs.view.View.room_for.Goals as goal

pub room_for-requires : goal.room_for-requires
room_for-requires c = well_of c.args.self.now.sound
