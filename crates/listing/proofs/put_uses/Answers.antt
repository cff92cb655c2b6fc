use native.Mathlib.Omega.{arith}
use Rattle.context.specs.Memory.{state_of}
use Rattle.places.specs.Store.{usg}
use Rattle.listing.specs.Lines.{definition_at}
use Rattle.listing.proofs.Uses.{uses_pieces, use_written, use_left}
use Rattle.listing.proofs.Pens.{and_then, begun, turn, done}
use Rattle.listing.proofs.put_uses.Goals.{in-Some, in_default}
use Rattle.listing.proofs.put_uses.Goals as goal

pub loop-i-init : goal.loop-i-init
loop-i-init c = begun (uses_pieces (state_of c.args.v.now.layout c.args.v.now.words.now) (definition_at c.args.v.now.layout c.args.v.now.words.now c.args.k))

pub loop-i-preserved : goal.loop-i-preserved
loop-i-preserved c =
    turn (uses_pieces (state_of c.args.v.now.layout c.args.v.now.words.now) (definition_at c.args.v.now.layout c.args.v.now.words.now c.args.k)) ((state_of c.args.v.now.layout c.args.v.now.words.now).tab usg).order c.loop-i.i 0 (omega (arith, c.loop-i-test.true, c.live_count-i-end.ensures.is)) c.loop-i.invariant
    (elim c.match-nth_use.branch [
      | in-Some w ↦ use_written c.nth_use.ensures w.in-Some.is w.pen-is w.number.ensures
      | in_default w ↦ use_left c.nth_use.ensures w.in_default.is w.pen-is
    ])

pub returns : goal.returns
returns c =
    and_then c.text.ensures (done (uses_pieces (state_of c.args.v.now.layout c.args.v.now.words.now) (definition_at c.args.v.now.layout c.args.v.now.words.now c.args.k)) ((state_of c.args.v.now.layout c.args.v.now.words.now).tab usg).order c.loop-i.i (omega (arith, c.loop-i-test.false, c.live_count-i-end.ensures.is)) c.loop-i.invariant)
