-- The loop's invariant: the slice is an arena. Assumes nothing.
use Rattle.arena.specs.Packed.{Packed}
use Rattle.arena_demo.proofs.fill.Given as goal

abbrev pub invariant-loop : goal.invariant-loop
invariant-loop g l = Packed l.n l.m
