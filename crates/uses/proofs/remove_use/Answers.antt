use mathlib.Core.Path.{refl}
use Rattle.rules.specs.Refusal.{named}
use Rattle.context.proofs.Performing.{passed_on}
use Rattle.uses.proofs.Growing.{lost_op}
use Rattle.uses.proofs.Taking.{remove_refused, removed}
use Rattle.uses.proofs.remove_use.Goals as goal

pub returns-in_err-s : goal.returns-in_err-s
unfolding named
returns-in_err-s c = passed_on _ c.from_residual.ensures (lost_op c.requires _ _ refl c.in_err-s.ensures)

pub returns-then-row_length-i : goal.returns-then-row_length-i
returns-then-row_length-i c = remove_refused c.requires c.in_ok-s.ensures c.row_length.ensures c.if-row_length-i.true

pub returns : goal.returns
returns c = removed c.requires c.in_ok-s.ensures c.row_length.ensures c.if-row_length-i.false c.take_use.ensures
