use Rattle.rules.specs.Listing as rules
use Rattle.places.specs.Store.{reg}
use Rattle.context.proofs.Places.{place<}
use Rattle.context.proofs.Viewed.{sound_of}
use Rattle.listing.proofs.Nodes.{field_is}
use Rattle.listing.proofs.Texts.{region_line}
use Rattle.listing.proofs.put_region.Goals as goal

pub put_row-requires : goal.put_row-requires
put_row-requires c = place< (sound_of c.args.v.now.sound) (reg, c.args.p) c.requires

pub returns : goal.returns
returns c =
    region_line (sound_of c.args.v.now.sound) c.args.p c.requires (field_is (rules.text "region") c.number_of.ensures.is c.field.ensures) c.put_home.ensures c.put_row.ensures c.put.ensures
