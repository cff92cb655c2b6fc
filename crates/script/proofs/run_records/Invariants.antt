-- A script's records: the run of the whole is what was answered so far, before the run of what is left. The measure is what is left of the bytes.
-- Assumes nothing.
use Rattle.std.proofs.Common.{◌≡◌, ◌-◌, length}
use Rattle.script.specs.Records.{Going}
use Rattle.script.proofs.run_records.Given as goal

abbrev pub invariant-loop-at : goal.invariant-loop-at
invariant-loop-at l = record {
  going : Going l.l l.script l.initial.store l.store l.initial.answers l.answers l.at l.count;
  scratch : l.scratch ≡ l.initial.scratch;
}

abbrev pub decreases-loop-at : goal.decreases-loop-at
decreases-loop-at l = length l.script - l.at
