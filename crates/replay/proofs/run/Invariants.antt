use Rattle.std.proofs.Common.{◌≤◌}
use Rattle.replay.proofs.run.Given as goal

abbrev pub invariant-loop-i : goal.invariant-loop-i
invariant-loop-i l = (l.scripts ≤ l._i) × (l.differ ≤ l.scripts)
