use mathlib.Core.Path.{refl}
use Rattle.rules.specs.Refusal.{named}
use Rattle.context.proofs.Performing.{passed_on}
use Rattle.values.proofs.Growing.{lost_owner, push_refused, pushed}
use Rattle.values.proofs.push_value.Goals as goal

pub returns-in_err-k : goal.returns-in_err-k
unfolding named
returns-in_err-k c = passed_on _ c.from_residual.ensures (lost_owner c.requires _ _ _ refl c.in_err-k.ensures)

pub returns-in_err-may_grow : goal.returns-in_err-may_grow
returns-in_err-may_grow c = passed_on _ c.from_residual-in_err-may_grow.ensures (push_refused c.requires c.in_ok-k.ensures c.row_length-n.ensures c.args.ty c.in_err-may_grow.ensures)

pub returns : goal.returns
returns c = pushed c.requires c.in_ok-k.ensures c.row_length-n.ensures c.args.ty c.in_ok-may_grow.ensures c.birth_value.ensures
