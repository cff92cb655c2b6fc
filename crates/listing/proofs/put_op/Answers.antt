use Rattle.rules.specs.Listing as rules
use Rattle.places.specs.Store.{op}
use Rattle.context.proofs.Places.{place<}
use Rattle.context.proofs.Viewed.{sound_of}
use Rattle.listing.proofs.Nodes.{field_is}
use Rattle.listing.proofs.Texts.{op_line}
use Rattle.listing.proofs.put_op.Goals as goal

pub flags_of-requires : goal.flags_of-requires
flags_of-requires c = place< (sound_of c.args.v.now.sound) (op, c.args.p) c.requires

pub values_of-requires-clause-p_bound : goal.values_of-requires-clause-p_bound
values_of-requires-clause-p_bound c = place< (sound_of c.args.v.now.sound) (op, c.args.p) c.requires

pub slots_of-requires-clause-o_bound : goal.slots_of-requires-clause-o_bound
slots_of-requires-clause-o_bound c = place< (sound_of c.args.v.now.sound) (op, c.args.p) c.requires

pub slots_of-requires-2-clause-o_bound : goal.slots_of-requires-2-clause-o_bound
slots_of-requires-2-clause-o_bound c = place< (sound_of c.args.v.now.sound) (op, c.args.p) c.requires

pub put_row-requires-4 : goal.put_row-requires-4
put_row-requires-4 c = place< (sound_of c.args.v.now.sound) (op, c.args.p) c.requires

pub returns : goal.returns
returns c =
    op_line (sound_of c.args.v.now.sound) c.args.p c.requires c.values_of.ensures c.slots_of.ensures c.slots_of-2.ensures (field_is (rules.text "op") c.number_of.ensures.is c.field.ensures) c.put_home.ensures (field_is (rules.text " flags") c.flags_of.ensures.is c.field-2.ensures) c.put_row.ensures c.put_row-2.ensures c.put_row-3.ensures c.put_row-4.ensures c.put.ensures
