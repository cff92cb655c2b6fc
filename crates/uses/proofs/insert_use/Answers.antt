use mathlib.Core.Path.{refl}
use Rattle.rules.specs.Refusal.{named}
use Rattle.context.proofs.Performing.{passed_on}
use Rattle.uses.proofs.Growing.{lost_op, lost_def, can_bear, insert_refused, inserted}
use Rattle.uses.proofs.insert_use.Goals as goal

pub returns-in_err-s : goal.returns-in_err-s
unfolding named
returns-in_err-s c = passed_on _ c.from_residual.ensures (lost_op c.requires _ _ refl c.in_err-s.ensures)

pub returns-in_err-d : goal.returns-in_err-d
unfolding named
returns-in_err-d c = passed_on _ c.from_residual-in_err-d.ensures (lost_def c.requires _ refl c.in_ok-s.ensures c.in_err-d.ensures)

pub returns-in_err-may_grow : goal.returns-in_err-may_grow
returns-in_err-may_grow c = passed_on _ c.from_residual-in_err-may_grow.ensures (insert_refused c.requires c.in_ok-s.ensures c.in_ok-d.ensures c.row_length-n.ensures c.in_err-may_grow.ensures)

pub birth_use-requires-clause-can_bear : goal.birth_use-requires-clause-can_bear
birth_use-requires-clause-can_bear c = can_bear c.requires c.in_ok-s.ensures c.in_ok-d.ensures c.row_length-n.ensures c.in_ok-may_grow.ensures

pub returns : goal.returns
returns c = inserted c.requires c.in_ok-s.ensures c.in_ok-d.ensures c.row_length-n.ensures c.in_ok-may_grow.ensures c.birth_use.ensures
