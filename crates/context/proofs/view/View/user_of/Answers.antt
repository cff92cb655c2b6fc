use Rattle.places.specs.Store.{usg}
use Rattle.context.proofs.Places.{place<}
use Rattle.context.proofs.Users.{user_is}
use Rattle.context.proofs.Viewed.{sound_of}
use Rattle.context.proofs.view.View.user_of.Goals as goal

pub home_of-requires : goal.home_of-requires
home_of-requires c = place< (sound_of c.args.self.now.sound) (usg, c.args.u) c.requires

pub returns : goal.returns
returns c = user_is (sound_of c.args.self.now.sound) c.home_of.ensures c.unwrap.ensures
