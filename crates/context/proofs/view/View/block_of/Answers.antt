use Rattle.places.specs.Store.{op}
use Rattle.context.proofs.Places.{place<}
use Rattle.context.proofs.Users.{user_live, block_of_lem}
use Rattle.context.proofs.Viewed.{sound_of}
use Rattle.context.proofs.view.View.block_of.Goals as goal

pub home_of-requires : goal.home_of-requires
home_of-requires c = place< (sound_of c.args.self.now.sound) (op, c.user_of.result) (user_live (sound_of c.args.self.now.sound) c.args.u c.user_of.result c.requires c.user_of.ensures)

pub returns : goal.returns
returns c = block_of_lem c.user_of.ensures c.home_of.ensures
