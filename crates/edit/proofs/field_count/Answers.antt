-- The number of fields of a record. Assumes nothing.
use native.Mathlib.Omega.{arith}
use Rattle.edit.proofs.Cuts.{fields_length}
use Rattle.edit.proofs.field_count.Goals as goal

pub returns : goal.returns
returns c = omega (arith, c.saturating_sub.ensures, fields_length c.args.rec.now)
