use lib.ListN.{drop}
use Rattle.edit.specs.Taken.{fields_of}
use Rattle.places.specs.Store.{use_sets}
use Rattle.context.proofs.Cursor.{ahead}
use Rattle.uses.proofs.Retargeting.{Going}
use Rattle.uses.proofs.retarget_listed.Given as goal

abbrev pub invariant-loop-next : goal.invariant-loop-next
invariant-loop-next l = Going l.l l.d l.e (drop 2 (fields_of l.rec)) l.marks l.initial.m l.next l.m

abbrev pub decreases-loop-next : goal.decreases-loop-next
decreases-loop-next l = ahead l.l use_sets l.d l.m l.next
