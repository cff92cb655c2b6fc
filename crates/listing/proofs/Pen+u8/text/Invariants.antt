use lib.ListN.{take}
use Rattle.listing.specs.Writer.{Wrote}
use Rattle.listing.proofs.Pen+u8.text.Given as goal

abbrev pub invariant-loop-b : goal.invariant-loop-b
invariant-loop-b l = Wrote (take l.b-index l.t) l.initial.pen l.pen
