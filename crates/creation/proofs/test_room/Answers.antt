use Rattle.std.proofs.Common.{sym, of_calls}
use Rattle.context.proofs.Viewed.{sound_of}
use Rattle.creation.specs.Room.{five_of, spare, left}
use Rattle.creation.proofs.Rooms.{Holds, is_20, is_21, is_0}
use Rattle.creation.proofs.test_room.Goals as goal

pub returns-then-over : goal.returns-then-over
returns-then-over c =
    let x : Holds (five_of c.by-places.result) (spare c.args.v.now.layout c.args.v.now.words.now) = search of_calls in
    is_20 (sound_of c.args.v.now.sound) (five_of c.args.want) x (sym c.if-over.ensures)

pub returns-then-over-2 : goal.returns-then-over-2
returns-then-over-2 c =
    let x : Holds (five_of c.by-places.result) (spare c.args.v.now.layout c.args.v.now.words.now) = search of_calls in
    let y : Holds (five_of c.by-numbers.result) (left c.args.v.now.layout c.args.v.now.words.now) = search of_calls in
    is_21 (sound_of c.args.v.now.sound) (five_of c.args.want) x (sym c.if-over.ensures) y (sym c.if-over-2.ensures)

pub returns : goal.returns
returns c =
    let x : Holds (five_of c.by-places.result) (spare c.args.v.now.layout c.args.v.now.words.now) = search of_calls in
    let y : Holds (five_of c.by-numbers.result) (left c.args.v.now.layout c.args.v.now.words.now) = search of_calls in
    is_0 (sound_of c.args.v.now.sound) (five_of c.args.want) x (sym c.if-over.ensures) y (sym c.if-over-2.ensures)
