use mathlib.Core.Path.{refl}
use Rattle.rules.specs.Refusal.{named}
use Rattle.context.proofs.Performing.{passed_on}
use Rattle.values.proofs.Growing.{lost_owner}
use Rattle.values.proofs.Taking.{remove_past, remove_used, removed}
use Rattle.values.proofs.remove_value.Goals as goal

pub returns-in_err-k : goal.returns-in_err-k
unfolding named
returns-in_err-k c = passed_on _ c.from_residual.ensures (lost_owner c.requires _ _ _ refl c.in_err-k.ensures)

pub returns-then-row_length-i : goal.returns-then-row_length-i
returns-then-row_length-i c = remove_past c.requires c.in_ok-k.ensures c.row_length.ensures c.if-row_length-i.true

pub returns-in_err-take_value : goal.returns-in_err-take_value
returns-in_err-take_value c = passed_on _ c.from_residual-in_err-take_value.ensures (remove_used c.requires c.in_ok-k.ensures c.row_length.ensures c.if-row_length-i.false c.in_err-take_value.ensures refl)

pub returns : goal.returns
returns c = removed c.requires c.in_ok-k.ensures c.row_length.ensures c.if-row_length-i.false c.in_ok-take_value.ensures refl
