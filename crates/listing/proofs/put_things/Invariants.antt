use lib.ListN.{take}
use Rattle.context.specs.Memory.{state_of}
use Rattle.context.specs.Performed.{abs}
use Rattle.context.specs.Kinds.{kind_of}
use Rattle.listing.specs.Writer.{Wrote}
use Rattle.listing.specs.Lines.{lines}
use Rattle.listing.proofs.put_things.Given as goal

abbrev pub invariant-loop-i : goal.invariant-loop-i
invariant-loop-i l = Wrote (lines (abs l.v.layout l.v.words.now) (state_of l.v.layout l.v.words.now) (kind_of l.k) (take l.i ((state_of l.v.layout l.v.words.now).tab (kind_of l.k)).order)) l.initial.pen l.pen
