-- Four bytes as a number, the lowest first. Assumes nothing.
use native.Mathlib.Omega.{arith}
use Rattle.edit.specs.Taken.{number_at}
use Rattle.edit.proofs.number.Goals as goal

pub returns : goal.returns
unfolding number_at
returns c = omega (arith, c.from_le_bytes.ensures)
