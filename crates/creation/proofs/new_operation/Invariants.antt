use Rattle.std.proofs.Common.{◌≡◌, List, ℕ}
use Rattle.edit.specs.Taken.{fields_of}
use Rattle.creation.specs.declared.Parts.{Parts}
use Rattle.creation.specs.Made.{grown, OperationPartly}
use Rattle.creation.proofs.new_operation.Given as goal

abbrev pub invariant-loop : goal.invariant-loop
invariant-loop l =
    (c : Parts) (start : List ℕ) → l.end ≡ c.regions
    → OperationPartly l.l (fields_of l.fn.rec) c l.o (grown (fields_of l.fn.rec) c c.results c.operands c.successors 0) start l.initial.m
    → OperationPartly l.l (fields_of l.fn.rec) c l.o (grown (fields_of l.fn.rec) c c.results c.operands c.successors l.counter) start l.m
