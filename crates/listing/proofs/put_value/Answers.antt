use Rattle.rules.specs.Listing as rules
use Rattle.places.specs.Store.{val}
use Rattle.context.specs.Memory.{state_of}
use Rattle.context.proofs.Numbers.{list_lives}
use Rattle.context.proofs.Places.{place<}
use Rattle.context.proofs.Viewed.{sound_of}
use Rattle.listing.proofs.Nodes.{field_is}
use Rattle.listing.proofs.Texts.{value_line}
use Rattle.listing.proofs.put_value.Goals as goal

pub type_of-requires : goal.type_of-requires
type_of-requires c = place< (sound_of c.args.v.now.sound) (val, c.args.p) c.requires

pub use_set_of-requires-clause-p_bound : goal.use_set_of-requires-clause-p_bound
use_set_of-requires-clause-p_bound c = place< (sound_of c.args.v.now.sound) (val, c.args.p) c.requires

pub put_uses-requires-clause-live : goal.put_uses-requires-clause-live
put_uses-requires-clause-live c = list_lives c.use_set_of.ensures (state_of c.args.v.now.layout c.args.v.now.words.now) c.requires

pub returns : goal.returns
returns c =
    value_line (sound_of c.args.v.now.sound) c.args.p c.use_set_of.ensures (field_is (rules.text "value") c.number_of.ensures.is c.field.ensures) (field_is (rules.text " type") c.type_of.ensures.is c.field-2.ensures) c.put_uses.ensures c.put.ensures
