use mathlib.Core.Path.{ap}
use Prim.Native.Nat.{ℕ}
use mathlib.Core.List.{[], ◌∷◌}
use native.Mathlib.Omega.{arith}
use Rattle.context.specs.Memory.{state_of}
use Rattle.context.specs.Performed.{abs}
use Rattle.context.specs.Kinds.{kind_of}
use Rattle.listing.specs.Lines.{lines}
use Rattle.listing.proofs.Texts.{lines_pieces}
use Rattle.listing.proofs.Pens.{begun, turn, same_text}
use Rattle.listing.proofs.put_things.Goals as goal

pub loop-i-init : goal.loop-i-init
loop-i-init c = begun (lines_pieces (abs c.args.v.now.layout c.args.v.now.words.now) (state_of c.args.v.now.layout c.args.v.now.words.now) (kind_of c.args.k))

pub loop-i-preserved : goal.loop-i-preserved
loop-i-preserved c =
    turn (lines_pieces (abs c.args.v.now.layout c.args.v.now.words.now) (state_of c.args.v.now.layout c.args.v.now.words.now) (kind_of c.args.k)) ((state_of c.args.v.now.layout c.args.v.now.words.now).tab (kind_of c.args.k)).order c.loop-i.i 0 (omega (arith, c.loop-i-test.true, c.live_count-i-end.ensures.is)) c.loop-i.invariant
    (same_text (ap (λ (p : ℕ). lines (abs c.args.v.now.layout c.args.v.now.words.now) (state_of c.args.v.now.layout c.args.v.now.words.now) (kind_of c.args.k) (p ∷ [])) c.nth_live.ensures.is) c.put_thing.ensures)
