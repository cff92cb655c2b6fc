use Rattle.context.proofs.Viewed.{sound_of}
use Rattle.listing.proofs.Nodes.{node_alone, node_pair}
use Rattle.listing.proofs.put_node.Goals as goal

pub returns-in-Slots : goal.returns-in-Slots
returns-in-Slots c = node_pair c.args.v.now.layout c.args.v.now.words.now c.args.f c.from.result c.args.p c.from.ensures c.in-Slots.is (sound_of c.args.v.now.sound) c.requires c.number_of.ensures.is c.definition_number.ensures c.number.ensures c.put.ensures c.digits.ensures

pub returns-in_default : goal.returns-in_default
returns-in_default c = node_alone c.args.v.now.layout c.args.v.now.words.now c.args.f c.from.result c.args.p c.from.ensures c.in_default.not-Slots c.number_of.ensures.is c.number.ensures
