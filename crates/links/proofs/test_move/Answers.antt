use Rattle.std.proofs.Common.{refl}
use Rattle.std.proofs.lemmas.Result.{err_from_is_err_and}
use Rattle.edit.specs.Kinds.{number_of}
use Rattle.context.proofs.Viewed.{sound_of}
use Rattle.links.proofs.Moving.{no_region, no_operation, move_tests, moving}
use Rattle.links.proofs.test_move.Goals as goal

pub returns-in_err-n : goal.returns-in_err-n
returns-in_err-n c =
    let p = err_from_is_err_and c.from_residual.result c.from_residual.ensures.1 in
    rw (p.1, p.2) (no_region (sound_of c.args.v.now.sound) c.args.r c.args.o c.in_err-n.field-0.0 c.in_err-n.ensures)

pub returns-in_err-k : goal.returns-in_err-k
returns-in_err-k c =
    let p = err_from_is_err_and c.from_residual-in_err-k.result c.from_residual-in_err-k.ensures.1 in
    rw (p.1, p.2) (no_operation (sound_of c.args.v.now.sound) c.args.r c.args.o c.in_ok-n.n c.in_ok-n.ensures c.in_err-k.field-0.0 c.in_err-k.ensures)

pub returns-in_err-may_move : goal.returns-in_err-may_move
returns-in_err-may_move c =
    let p = err_from_is_err_and c.from_residual-in_err-may_move.result c.from_residual-in_err-may_move.ensures.1 in
    rw (p.1, p.2) (move_tests (sound_of c.args.v.now.sound) c.args.r c.args.o c.in_ok-n.n c.in_ok-n.ensures c.in_ok-k.k c.in_ok-k.ensures (number_of c.in_err-may_move.field-0.0) c.in_err-may_move.ensures)

pub returns : goal.returns
returns c = moving (sound_of c.args.v.now.sound) c.args.r c.args.o c.in_ok-n.n c.in_ok-n.ensures c.in_ok-k.k c.in_ok-k.ensures 0 c.in_ok-may_move.ensures refl
