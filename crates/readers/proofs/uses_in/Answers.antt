use Rattle.context.proofs.Viewed.{sound_of}
use Rattle.readers.proofs.Telling.{too_short, with_room}
use Rattle.readers.proofs.uses_in.Goals as goal

pub returns-then-out-row_length : goal.returns-then-out-row_length
returns-then-out-row_length c =
    too_short (sound_of c.args.v.now.sound) c.args.k c.requires.live c.row_length.result c.args.out.now c.row_length.ensures c.if-out-row_length.true

pub returns : goal.returns
returns c =
    with_room (sound_of c.args.v.now.sound) c.args.k c.requires.live c.row_length.result c.args.out.now c.row_length.ensures c.if-out-row_length.false c.fill_uses.ensures
