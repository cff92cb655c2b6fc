use Rattle.context.proofs.Viewed.{sound_of}
use Rattle.listing.proofs.Pens.{and_then, same_text}
use Rattle.listing.proofs.Nodes.{inside, nowhere, holder_live, holder_number}
use Rattle.listing.proofs.put_home.Goals as goal

pub home_of-requires : goal.home_of-requires
home_of-requires c = inside (sound_of c.args.v.now.sound) c.args.holder c.from.result c.from.ensures c.requires

pub number_of-requires : goal.number_of-requires
number_of-requires c =
    holder_live (sound_of c.args.v.now.sound) c.args.holder c.from.result c.from.ensures c.home_of.ensures c.from-in-Some.result c.from-in-Some.ensures c.in-Some.is

pub returns-in-Some : goal.returns-in-Some
returns-in-Some c =
    and_then c.text.ensures (same_text (holder_number (sound_of c.args.v.now.sound) c.args.holder c.from.result c.from.ensures c.home_of.ensures c.from-in-Some.result c.from-in-Some.ensures c.in-Some.is c.number_of.ensures.is) c.number.ensures)

pub returns-in-None : goal.returns-in-None
returns-in-None c =
    and_then c.text.ensures (same_text (nowhere (sound_of c.args.v.now.sound) c.args.holder c.from.result c.from.ensures c.home_of.ensures c.in-None.is) c.text-in-None.ensures)
