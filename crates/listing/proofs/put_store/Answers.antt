use Rattle.context.proofs.Viewed.{sound_of}
use Rattle.listing.proofs.Texts.{store_line}
use Rattle.listing.proofs.put_store.Goals as goal

pub returns : goal.returns
returns c =
    store_line (sound_of c.args.v.now.sound) c.text.ensures c.put_count.ensures c.put_count-2.ensures c.put_count-3.ensures c.put_count-4.ensures c.put_count-5.ensures c.put.ensures
