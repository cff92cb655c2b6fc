use Rattle.edit.specs.Taken.{fields_of}
use Rattle.uses.proofs.Placing.{Going}
use Rattle.uses.proofs.place_listed.Given as goal

abbrev pub invariant-loop-i : goal.invariant-loop-i
invariant-loop-i l = Going l.l l.d l.e (fields_of l.rec) l.initial.m l.i l.m
