-- A field of a record, or 0 where it has no such field. Assumes nothing.
use mathlib.Core.Path.{sym, ◌∙◌}
use native.Mathlib.Omega.{arith}
use Rattle.edit.proofs.Cuts.{field_fits, field_in}
use Rattle.edit.proofs.field.Goals as goal

pub overflow_mul-i : goal.overflow_mul-i
overflow_mul-i c = omega (arith, field_fits c.args.rec.now c.args.i (omega arith))

pub overflow_add-i : goal.overflow_add-i
overflow_add-i c = omega (arith, field_fits c.args.rec.now c.args.i (omega arith))

pub number-requires : goal.number-requires
number-requires c = field_fits c.args.rec.now c.args.i (omega arith)

pub returns : goal.returns
returns c = c.number.ensures ∙ sym (field_in _ _ (omega arith))
