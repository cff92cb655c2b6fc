use mathlib.Core.Path.{sym}
use Rattle.std.proofs.lemmas.List.{take_more}
use Rattle.listing.proofs.Pens.{nothing, and_then, same_text}
use Rattle.listing.proofs.Pen+u8.text.Goals as goal

pub loop-b-init : goal.loop-b-init
loop-b-init c = nothing

pub loop-b-preserved : goal.loop-b-preserved
loop-b-preserved c =
    same_text (sym (take_more c.args.t.now c.loop-b.b-index 0 c.loop-b-test.true)) (and_then c.loop-b.invariant c.put.ensures)
