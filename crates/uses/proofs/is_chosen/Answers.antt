use Rattle.context.proofs.Users.{block_live}
use Rattle.context.proofs.Viewed.{sound_of}
use Rattle.uses.proofs.Marking.{block<}
use Rattle.uses.proofs.is_chosen.Goals as goal

pub is_some_and-requires : goal.is_some_and-requires
is_some_and-requires c b e κs s v r t = block< (sound_of c.args.v.now.sound) b (block_live (sound_of c.args.v.now.sound) c.block_of.ensures e)
