use lib.ListN.{take}
use Rattle.context.specs.Memory.{state_of}
use Rattle.places.specs.Store.{usg}
use Rattle.listing.specs.Writer.{Wrote}
use Rattle.listing.specs.Lines.{definition_at}
use Rattle.listing.proofs.Uses.{uses_text}
use Rattle.listing.proofs.put_uses.Given as goal

abbrev pub invariant-loop-i : goal.invariant-loop-i
invariant-loop-i l = Wrote (uses_text (state_of l.v.layout l.v.words.now) (definition_at l.v.layout l.v.words.now l.k) (take l.i ((state_of l.v.layout l.v.words.now).tab usg).order)) l.initial.pen l.pen
