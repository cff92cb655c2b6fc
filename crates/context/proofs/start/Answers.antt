use Rattle.std.proofs.Common.{arith, refl, sym, ◌∙◌}
use Rattle.std.proofs.lemmas.Result.{err_from_is_err_and}
use Rattle.context.proofs.Begun.{start_refused, start_done, no_store, a_store, was_some, was_none}
use Rattle.context.proofs.start.Goals as goal

pub returns-in_err-n : goal.returns-in_err-n
returns-in_err-n c =
    let p = err_from_is_err_and c.from_residual.result c.from_residual.ensures.1 in
    let w = was_none _ (sym c.ok_or.ensures.value ∙ c.in_err-n.was) in
    start_refused c.args.l c.args.m.now _ (λ C f. no_store c.words_needed.ensures w.0 C) (rw p.1 (rw (p.2 ∙ w.1) refl))

pub returns-then-m-n : goal.returns-then-m-n
returns-then-m-n c =
    let w = a_store c.words_needed.ensures (was_some _ (sym c.ok_or.ensures.value ∙ c.in_ok-n.was)) in
    start_refused c.args.l c.args.m.now _ (λ C f. omega (arith, f, w.1, c.if-m-n.true)) refl

pub returns : goal.returns
returns c =
    let w = a_store c.words_needed.ensures (was_some _ (sym c.ok_or.ensures.value ∙ c.in_ok-n.was)) in
    start_done c.args.l c.args.m.now _ w.0 (omega (arith, w.1, c.if-m-n.false)) c.set_up.ensures
