use Rattle.std.proofs.Common.{List, ℕ}
use Rattle.edit.specs.Taken.{fields_of}
use Rattle.creation.specs.Made.{grown, OperationPartly}
use Rattle.creation.proofs.bear_results.Given as goal

abbrev pub invariant-loop-j : goal.invariant-loop-j
invariant-loop-j l = (start : List ℕ) → OperationPartly l.l (fields_of l.rec) l.fn.n l.o (grown (fields_of l.rec) l.fn.n 0 0 0 0) start l.initial.m → OperationPartly l.l (fields_of l.rec) l.fn.n l.o (grown (fields_of l.rec) l.fn.n l.j 0 0 0) start l.m
