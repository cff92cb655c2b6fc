use mathlib.Core.Path.{sym}
use Rattle.std.proofs.lemmas.Result.{err_from_is_err_and}
use Rattle.walk.proofs.EraseEdit.{refused_answer, can_erase, done_answer}
use Rattle.walk.proofs.erase_found.Goals as goal

pub returns-in_err-test_erase-clause-erase_answer : goal.returns-in_err-test_erase-clause-erase_answer
returns-in_err-test_erase-clause-erase_answer c =
    let p = err_from_is_err_and c.from_residual.result c.from_residual.ensures.1 in
    rw (p.1, p.2, sym c.own_reach.ensures) (refused_answer c.in_err-test_erase.ensures)

pub erase_inside-requires : goal.erase_inside-requires
erase_inside-requires c = can_erase c.requires.sound_store c.requires.testable.0 c.in_ok-test_erase.ensures c.drop_tallied-t.ensures

pub returns-clause-erase_answer : goal.returns-clause-erase_answer
returns-clause-erase_answer c = rw (sym c.own_reach.ensures) (done_answer c.requires.sound_store c.requires.testable.0 c.in_ok-test_erase.ensures c.drop_tallied-t.ensures c.erase_inside.ensures)
