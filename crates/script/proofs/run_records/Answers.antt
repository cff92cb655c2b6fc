use Rattle.std.proofs.Common.{arith, refl, ◌∙◌}
use Rattle.script.proofs.Running.{going_first, going_stop, going_last, going_on, going_end}
use Rattle.script.proofs.run_records.Goals as goal

pub loop-at-init : goal.loop-at-init
loop-at-init c = record { going = going_first c.args.script.now c.args.answers.now c.requires.sound_store; scratch = refl }

pub loop-at-preserved : goal.loop-at-preserved
loop-at-preserved c =
    let T = rw c.in-Ok-Some.field-0-is at c.in-Ok-Some.ensures in
    record { going = going_on c.loop-at.invariant.going T; scratch = T.scratch ∙ c.loop-at.invariant.scratch }

pub returns-in-Ok-None : goal.returns-in-Ok-None
returns-in-Ok-None c =
    let T = rw c.in-Ok-None.field-0-is at c.in-Ok-None.ensures in
    record { ran = going_last c.loop-at.invariant.going T; scratch = T.scratch ∙ c.loop-at.invariant.scratch }

pub returns-in-Err : goal.returns-in-Err
returns-in-Err c = record { ran = going_stop c.loop-at.invariant.going c.in-Err.ensures; scratch = c.in-Err.ensures.scratch ∙ c.loop-at.invariant.scratch }

pub returns : goal.returns
returns c = record { ran = going_end c.loop-at.invariant.going (omega arith); scratch = c.loop-at.invariant.scratch }
