use Rattle.context.proofs.Viewed.{sound_of}
use Rattle.listing.proofs.Texts.{listing_is}
use Rattle.listing.proofs.write_listing.Goals as goal

pub returns : goal.returns
returns c = listing_is (sound_of c.args.v.now.sound) c.put_store.ensures c.put_things.ensures c.put_things-2.ensures c.put_things-3.ensures c.put_things-4.ensures
