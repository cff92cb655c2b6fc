use Rattle.std.proofs.Common.{ℕ, List}
use Rattle.edit.specs.Taken.{fields_of}
use Rattle.creation.specs.Made.{BlockPartly}
use Rattle.creation.proofs.new_block.Given as goal

abbrev pub invariant-loop-j : goal.invariant-loop-j
invariant-loop-j l = (e : List ℕ) → BlockPartly l.l (fields_of l.rec) l.b 0 e l.initial.m → BlockPartly l.l (fields_of l.rec) l.b l.j e l.m
