use native.Mathlib.Omega.{arith}
use Rattle.context.specs.Memory.{state_of}
use Rattle.places.specs.Store.{usg}
use Rattle.listing.specs.Lines.{definition_at}
use Rattle.listing.proofs.Pens.{begun, turn}
use Rattle.listing.proofs.Uses.{among_pieces}
use Rattle.readers.proofs.Telling.{put_written, put_left}
use Rattle.readers.proofs.fill_uses.Goals.{in-Some, in_default}
use Rattle.readers.proofs.fill_uses.Goals as goal

pub loop-i-init : goal.loop-i-init
loop-i-init c = begun (among_pieces (state_of c.args.v.now.layout c.args.v.now.words.now) (definition_at c.args.v.now.layout c.args.v.now.words.now c.args.k))

pub loop-i-preserved : goal.loop-i-preserved
loop-i-preserved c =
    turn (among_pieces (state_of c.args.v.now.layout c.args.v.now.words.now) (definition_at c.args.v.now.layout c.args.v.now.words.now c.args.k)) ((state_of c.args.v.now.layout c.args.v.now.words.now).tab usg).order c.loop-i.i 0 (omega (arith, c.loop-i-test.true, c.live_count-i-end.ensures.is)) c.loop-i.invariant
    (elim c.match-nth_use.branch [
      | in-Some w ↦ put_written c.nth_use.ensures w.in-Some.is w.pen-is w.put.ensures
      | in_default w ↦ put_left c.nth_use.ensures w.in_default.is w.pen-is
    ])
