-- The kind with a number. Assumes nothing.
use Rattle.std.proofs.Common.{sym, ap, subst, ◌∙◌, Err}
use Rattle.std.proofs.lemmas.Result.{err_from_is_err_and}
use Rattle.std.specs.Option.{ok_or}
use Rattle.edit.specs.Kinds.{Names}
use Rattle.edit.specs.declared.Refusal.TheVariants.{UnknownKind}
use Rattle.edit.proofs.Numbers.{names_none, names_entry}
use Rattle.edit.proofs.KindTryFromU32.try_from.Goals as goal

pub returns-in_err-index : goal.returns-in_err-index
returns-in_err-index c =
    let p = err_from_is_err_and c.from_residual.result c.from_residual.ensures.1 in
    subst (Names c.args.number) (sym (p.1 ∙ ap Err p.2)) (names_none _ c.checked_sub.result _ c.checked_sub.ensures (sym c.in_err-index.ensures.value))

pub returns : goal.returns
returns c =
    let copied = c.ok_or-2.ensures.value ∙ ap (λ o. ok_or o UnknownKind) c.copied.ensures in
    subst (Names c.args.number) (sym copied) (names_entry _ _ _ _ c.checked_sub.ensures (sym c.in_ok-index.ensures.value) c.get.ensures.lookup)
