use Rattle.rules.specs.Listing as rules
use Rattle.places.specs.Store.{blk}
use Rattle.context.specs.Memory.{state_of}
use Rattle.context.proofs.Numbers.{list_lives}
use Rattle.context.proofs.Places.{place<}
use Rattle.context.proofs.Viewed.{sound_of}
use Rattle.listing.proofs.Nodes.{field_is}
use Rattle.listing.proofs.Texts.{block_line}
use Rattle.listing.proofs.put_block.Goals as goal

pub values_of-requires-clause-p_bound : goal.values_of-requires-clause-p_bound
values_of-requires-clause-p_bound c = place< (sound_of c.args.v.now.sound) (blk, c.args.p) c.requires

pub put_row-requires-2 : goal.put_row-requires-2
put_row-requires-2 c = place< (sound_of c.args.v.now.sound) (blk, c.args.p) c.requires

pub use_set_of-requires-clause-p_bound : goal.use_set_of-requires-clause-p_bound
use_set_of-requires-clause-p_bound c = place< (sound_of c.args.v.now.sound) (blk, c.args.p) c.requires

pub put_uses-requires-clause-live : goal.put_uses-requires-clause-live
put_uses-requires-clause-live c = list_lives c.use_set_of.ensures (state_of c.args.v.now.layout c.args.v.now.words.now) c.requires

pub returns : goal.returns
returns c =
    block_line (sound_of c.args.v.now.sound) c.args.p c.requires c.values_of.ensures c.use_set_of.ensures (field_is (rules.text "block") c.number_of.ensures.is c.field.ensures) c.put_home.ensures c.put_row.ensures c.put_row-2.ensures c.put_uses.ensures c.put.ensures
