use Rattle.std.proofs.lemmas.Result.{err_from_is_err_and}
use Rattle.script.proofs.Running.{obeyed_refused, obeyed_asks}
use Rattle.script.proofs.obey.Goals as goal

pub returns-in_err-kind : goal.returns-in_err-kind
returns-in_err-kind c =
    let p = err_from_is_err_and c.from_residual.result c.from_residual.ensures.1 in
    rw (p.1, p.2) (obeyed_refused c.requires.sound_store c.args.rec.now c.in_err-kind.ensures c.args.scratch.now)

pub returns : goal.returns
returns c = obeyed_asks c.requires.sound_store c.args.rec.now c.in_ok-kind.ensures c.perform.ensures
