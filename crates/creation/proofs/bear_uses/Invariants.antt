use Rattle.std.proofs.Common.{List, ℕ}
use Rattle.edit.specs.Kinds.{slot_of}
use Rattle.edit.specs.Taken.{fields_of}
use Rattle.creation.specs.Made.{with_uses, OperationPartly}
use Rattle.creation.proofs.bear_uses.Given as goal

abbrev pub invariant-loop-j : goal.invariant-loop-j
invariant-loop-j l = (start : List ℕ) → OperationPartly l.l (fields_of l.rec) l.fn.n l.o (with_uses (fields_of l.rec) l.fn.n (slot_of l.sl) 0) start l.initial.m → OperationPartly l.l (fields_of l.rec) l.fn.n l.o (with_uses (fields_of l.rec) l.fn.n (slot_of l.sl) l.j) start l.m
