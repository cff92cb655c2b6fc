use native.Mathlib.Omega.{arith}
use mathlib.Core.Path.{refl}
use Rattle.rules.specs.Refusal.{named}
use Rattle.context.proofs.Performing.{passed_on}
use Rattle.uses.proofs.Growing.{lost_op}
use Rattle.uses.proofs.Taking.{pop_refused, popped}
use Rattle.uses.proofs.pop_use.Goals as goal

pub returns-in_err-s : goal.returns-in_err-s
unfolding named
returns-in_err-s c = passed_on _ c.from_residual.ensures (lost_op c.requires _ _ refl c.in_err-s.ensures)

pub returns-then-n-eq0 : goal.returns-then-n-eq0
returns-then-n-eq0 c = pop_refused c.requires c.in_ok-s.ensures c.row_length-n.ensures c.if-n-eq0.true

pub returns : goal.returns
returns c = popped c.requires c.in_ok-s.ensures c.row_length-n.ensures (omega (arith, c.if-n-eq0.false)) c.take_use.ensures refl
