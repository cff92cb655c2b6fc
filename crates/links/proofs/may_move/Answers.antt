use Rattle.std.proofs.Common.{refl, true, false}
use native.Mathlib.Omega.{arith}
use Rattle.context.proofs.Places.{place<}
use Rattle.context.proofs.Viewed.{sound_of}
use Rattle.places.specs.Store.{op, reg}
use Rattle.links.proofs.Climb.{operation_walk}
use Rattle.links.proofs.Moving.{same_yes, same_no, move_stays, move_17, move_19, move_0}
use Rattle.links.proofs.may_move.Goals as goal

pub home_of-requires : goal.home_of-requires
home_of-requires c = place< (sound_of c.args.v.now.sound) (reg, c.args.n) c.requires.live

pub returns-then-eq : goal.returns-then-eq
returns-then-eq c = move_stays c.args.n c.home_of.result c.home_of.ensures c.args.k (same_yes c.home_of.result c.args.k c.if-eq.ensures)

pub returns-then-operation_in : goal.returns-then-operation_in
returns-then-operation_in c =
    move_17 c.args.n c.home_of.result c.home_of.ensures c.args.k (same_no c.home_of.result c.args.k c.if-eq.ensures)
    (operation_walk (sound_of c.args.v.now.sound).sound.linked (reg, c.args.n) (op, c.args.k) c.requires.live_2 c.live_count.result c.live_count.ensures.is true refl c.if-operation_in.ensures)

pub row_length-requires : goal.row_length-requires
row_length-requires c = place< (sound_of c.args.v.now.sound) (op, c.args.k) c.requires.live_2

pub returns-then-row_length-ge-MOST_LISTED : goal.returns-then-row_length-ge-MOST_LISTED
returns-then-row_length-ge-MOST_LISTED c =
    move_19 c.args.n c.home_of.result c.home_of.ensures c.args.k (same_no c.home_of.result c.args.k c.if-eq.ensures)
    (operation_walk (sound_of c.args.v.now.sound).sound.linked (reg, c.args.n) (op, c.args.k) c.requires.live_2 c.live_count.result c.live_count.ensures.is false refl c.if-operation_in.ensures)
    c.row_length.result c.row_length.ensures (λ h. omega (arith, h, c.if-row_length-ge-MOST_LISTED.true))

pub returns : goal.returns
returns c =
    move_0 c.args.n c.home_of.result c.home_of.ensures c.args.k (same_no c.home_of.result c.args.k c.if-eq.ensures)
    (operation_walk (sound_of c.args.v.now.sound).sound.linked (reg, c.args.n) (op, c.args.k) c.requires.live_2 c.live_count.result c.live_count.ensures.is false refl c.if-operation_in.ensures)
    c.row_length.result c.row_length.ensures (omega (arith, c.if-row_length-ge-MOST_LISTED.false))
