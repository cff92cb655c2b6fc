use Rattle.std.proofs.lemmas.Result.{err_from_is_err_and}
use native.Mathlib.Omega.{arith}
use Rattle.std.proofs.Common.{refl}
use Rattle.edit.specs.Kinds.{number_of, code_of}
use Rattle.edit.specs.Record.{successor}
use Rattle.edit.specs.Taken.{fields_of}
use Rattle.edit.proofs.Numbers.{number_of-positive}
use Rattle.context.proofs.Viewed.{sound_of}
use Rattle.creation.proofs.Operations.{uses_fit, value_lost, block_lost, room_tested}
use Rattle.creation.proofs.test_operation.Goals as goal

pub returns-in_err-test_names : goal.returns-in_err-test_names
returns-in_err-test_names c =
    let p = err_from_is_err_and c.from_residual.result c.from_residual.ensures.1 in
    rw (p.1, p.2) (value_lost (sound_of c.args.v.now.sound) (fields_of c.args.rec.now) c.requires.passed c.args.n c.requires.counts (number_of c.in_err-test_names.field-0.0) c.in_err-test_names.ensures (λ z. omega (arith, z, number_of-positive c.in_err-test_names.field-0.0)))

pub returns-in_err-test_names-2 : goal.returns-in_err-test_names-2
returns-in_err-test_names-2 c =
    let p = err_from_is_err_and c.from_residual-in_err-test_names-2.result c.from_residual-in_err-test_names-2.ensures.1 in
    rw (p.1, p.2) (block_lost (sound_of c.args.v.now.sound) (fields_of c.args.rec.now) c.requires.passed c.args.n c.requires.counts 0 c.in_ok-test_names.ensures refl (number_of c.in_err-test_names-2.field-0.0) c.in_err-test_names-2.ensures (λ z. omega (arith, z, number_of-positive c.in_err-test_names-2.field-0.0)))

pub overflow_add-want : goal.overflow_add-want
overflow_add-want c = omega (arith, (uses_fit (sound_of c.args.v.now.sound) (fields_of c.args.rec.now) c.requires.passed c.args.n c.requires.counts successor).1)

pub returns : goal.returns
returns c = room_tested (sound_of c.args.v.now.sound) (fields_of c.args.rec.now) c.requires.passed c.args.n c.requires.counts 0 c.in_ok-test_names.ensures refl 0 c.in_ok-test_names-2.ensures refl (code_of c.test_room.result) (rw c.default.ensures.1.0 at c.test_room.ensures)
