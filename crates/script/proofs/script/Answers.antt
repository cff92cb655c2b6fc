-- A script of a store that is not ready ends before its first record. Assumes nothing.
use Rattle.std.proofs.Common.{length}
use Rattle.script.proofs.Judging.{scratch_by, scripted_unready, scripted_done}
use Rattle.script.proofs.script.Goals as goal

pub run_records-requires-clause-scratch : goal.run_records-requires-clause-scratch
run_records-requires-clause-scratch c = scratch_by c.args.store.now c.fill.new.self (length c.args.scratch.now) c.in-Ok.ensures (c.fill.ensures.after (λ y e. e))

pub returns-in-Err : goal.returns-in-Err
returns-in-Err c = scripted_unready c.args.script.now c.args.store.now c.args.scratch.now c.fill.new.self c.args.answers.now (c.fill.ensures.after (λ y e. e)) c.in-Err.ensures

pub returns-in-Ok : goal.returns-in-Ok
returns-in-Ok c = scripted_done c.args.script.now c.args.store.now c.args.scratch.now c.fill.new.self c.args.answers.now (c.fill.ensures.after (λ y e. e)) c.in-Ok.ensures c.run_records.ensures
