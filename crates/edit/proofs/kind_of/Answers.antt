-- The kind of a record. Assumes nothing.
use native.Mathlib.Omega.{arith}
use Rattle.edit.specs.Taken.{record_kind}
use Rattle.edit.proofs.kind_of.Goals as goal

pub returns : goal.returns
unfolding record_kind
returns c = omega arith
