-- What was read is turned away, or found not ready, or carried out. Assumes nothing.
use Rattle.std.proofs.lemmas.Result.{err_from_is_err_and}
use Rattle.script.proofs.Judging.{answered_refused, answered_unready, answered_done}
use Rattle.script.proofs.answer.Goals as goal

pub returns-in_err-kind : goal.returns-in_err-kind
returns-in_err-kind c =
    let p = err_from_is_err_and c.from_residual.result c.from_residual.ensures.1 in
    rw (p.1, p.2) (answered_refused c.args.rec.now c.args.store.now c.args.scratch.now c.in_err-kind.ensures)

pub returns-in_err-l : goal.returns-in_err-l
returns-in_err-l c =
    let p = err_from_is_err_and c.from_residual-in_err-l.result c.from_residual-in_err-l.ensures.1 in
    rw (p.1, p.2) (answered_unready c.args.rec.now c.args.store.now c.args.scratch.now c.in_ok-kind.ensures c.in_err-l.ensures)

pub returns : goal.returns
returns c = answered_done c.args.rec.now c.args.store.now c.args.scratch.now c.in_ok-kind.ensures c.in_ok-l.ensures c.perform.ensures
