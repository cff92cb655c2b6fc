use Rattle.rules.specs.Listing as rules
use Rattle.listing.specs.Writer.{Wrote}
use Rattle.listing.specs.Lines.{replies_from}
use Rattle.listing.proofs.write_answers.Given as goal

abbrev pub invariant-loop-i : goal.invariant-loop-i
invariant-loop-i l = Wrote (rules.edit_lines 0 (replies_from l.answers 0 l.i)) l.initial.pen l.pen
