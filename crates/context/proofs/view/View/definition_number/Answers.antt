use Rattle.places.specs.Store.{usg}
use Rattle.context.proofs.Places.{place<}
use Rattle.context.proofs.Users.{definition_live, definition_is}
use Rattle.context.proofs.Viewed.{well_of, sound_of}
use Rattle.context.proofs.view.View.definition_number.Goals as goal

pub home_of-requires : goal.home_of-requires
home_of-requires c = place< (sound_of c.args.self.now.sound) (usg, c.args.u) c.requires

pub definition_number-requires-clause-well : goal.definition_number-requires-clause-well
definition_number-requires-clause-well c = well_of c.args.self.now.sound

pub definition_number-requires-clause-live : goal.definition_number-requires-clause-live
definition_number-requires-clause-live c = definition_live (sound_of c.args.self.now.sound) c.home_of.ensures c.unwrap-d.ensures

pub returns : goal.returns
returns c = definition_is (sound_of c.args.self.now.sound) c.home_of.ensures c.unwrap-d.ensures c.definition_number.ensures
