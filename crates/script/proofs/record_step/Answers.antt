-- One record of a script is the rules' turn at it. Assumes nothing.
use Rattle.std.proofs.Common.{arith, sym, ◌∙◌, refl}
use Rattle.script.proofs.Running.{found, step_full, step_last, step_whole}
use Rattle.script.proofs.record_step.Goals as goal

pub returns-then-answers-count : goal.returns-then-answers-count
returns-then-answers-count c =
    step_full c.args.l c.args.script.now c.args.at c.args.count c.args.store.now c.args.scratch.now c.args.answers.now c.requires.at_in_bounds c.if-answers-count.true

pub returns-in_default : goal.returns-in_default
returns-in_default c =
    step_last c.args.l c.args.script.now c.args.at c.args.count c.args.store.now c.args.scratch.now c.args.answers.now c.requires.at_in_bounds c.next_record.result c.next_record.ensures (sym c.unwrap_or.ensures ∙ c.in_default.is) c.if-answers-count.false c.put_answer.ensures

pub slice_bounds-obey-count : goal.slice_bounds-obey-count
slice_bounds-obey-count c =
    let N = found c.next_record.result c.next_record.ensures (sym c.unwrap_or.ensures ∙ c.in-Some.is) in
    omega (arith, (N.lies c.in-Some.end refl).head)

pub slice_bounds-obey-start : goal.slice_bounds-obey-start
slice_bounds-obey-start c =
    let N = found c.next_record.result c.next_record.ensures (sym c.unwrap_or.ensures ∙ c.in-Some.is) in
    omega (arith, (N.lies c.in-Some.end refl).head)

pub slice_bounds-obey-end : goal.slice_bounds-obey-end
slice_bounds-obey-end c =
    let N = found c.next_record.result c.next_record.ensures (sym c.unwrap_or.ensures ∙ c.in-Some.is) in
    omega (arith, (N.lies c.in-Some.end refl).inside)

pub returns : goal.returns
returns c =
    step_whole c.args.l c.args.script.now c.args.at c.args.count c.args.store.now c.args.scratch.now c.args.answers.now (found c.next_record.result c.next_record.ensures (sym c.unwrap_or.ensures ∙ c.in-Some.is)) c.if-answers-count.false c.obey-a.ensures c.put_answer-2.ensures
