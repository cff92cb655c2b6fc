use Rattle.context.specs.Kinds.{fam_of}
use Rattle.listing.proofs.Rows.{Row}
use Rattle.listing.proofs.put_row.Given as goal

abbrev pub invariant-loop-p : goal.invariant-loop-p
invariant-loop-p l = Row l.v.layout l.v.words.now (fam_of l.f) l.k l.p-iterator l.initial.pen l.pen
