use Rattle.std.proofs.lemmas.Result.{err_from_is_err_and}
use Rattle.walk.proofs.EraseEdit.{none_to_erase, member_there, did_erase}
use Rattle.walk.proofs.erase.Goals as goal

pub returns-in_err-place-clause-performed : goal.returns-in_err-place-clause-performed
returns-in_err-place-clause-performed c =
    let p = err_from_is_err_and c.from_residual.result c.from_residual.ensures.1 in
    rw (p.1, p.2) (none_to_erase c.requires.sound_store c.args.w c.args.number c.from.ensures c.in_err-place.ensures)

pub erase_found-requires-clause-testable : goal.erase_found-requires-clause-testable
erase_found-requires-clause-testable c =
    (record { live = (member_there c.requires.sound_store c.args.w c.args.number c.in_ok-place.place c.from.ensures c.from-kind.ensures c.in_ok-place.ensures).0; long = c.requires.scratch.long }, c.requires.scratch.zeros)

pub returns-clause-performed : goal.returns-clause-performed
returns-clause-performed c = did_erase c.requires.sound_store c.args.w c.args.number c.in_ok-place.place c.from.ensures c.from-kind.ensures c.in_ok-place.ensures _ _ c.erase_found.ensures.erase_answer
