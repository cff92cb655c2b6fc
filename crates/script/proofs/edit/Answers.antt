-- A single edit: its bytes are one record or not, and then the record is answered. Assumes nothing.
use Rattle.std.proofs.lemmas.Result.{err_from_is_err_and}
use Rattle.script.proofs.Judging.{edited_broken, edited_part, edited_one}
use Rattle.script.proofs.edit.Goals as goal

pub returns-in_err-next_record : goal.returns-in_err-next_record
returns-in_err-next_record c =
    let p = err_from_is_err_and c.from_residual.result c.from_residual.ensures.1 in
    rw (p.1, p.2) (edited_broken c.args.bytes.now c.args.store.now c.args.scratch.now c.fill.new.self (c.fill.ensures.after (λ y e. e)) c.in_err-next_record.ensures)

pub returns-then-ne : goal.returns-then-ne
returns-then-ne c =
    edited_part c.args.bytes.now c.args.store.now c.args.scratch.now c.fill.new.self (c.fill.ensures.after (λ y e. e)) c.in_ok-next_record.ensures c.if-ne.ensures

pub returns : goal.returns
returns c =
    edited_one c.args.bytes.now c.args.store.now c.args.scratch.now c.fill.new.self (c.fill.ensures.after (λ y e. e)) c.in_ok-next_record.ensures c.if-ne.ensures c.answer.ensures
