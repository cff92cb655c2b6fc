use mathlib.Core.Path.{refl}
use native.Mathlib.Omega.{arith}
use Rattle.rules.specs.Refusal.{named}
use Rattle.context.proofs.Performing.{passed_on}
use Rattle.values.proofs.Growing.{lost_owner}
use Rattle.values.proofs.Taking.{pop_empty, pop_used, popped}
use Rattle.values.proofs.pop_value.Goals as goal

pub returns-in_err-k : goal.returns-in_err-k
unfolding named
returns-in_err-k c = passed_on _ c.from_residual.ensures (lost_owner c.requires _ _ _ refl c.in_err-k.ensures)

pub returns-then-n-eq0 : goal.returns-then-n-eq0
returns-then-n-eq0 c = pop_empty c.requires c.in_ok-k.ensures c.row_length-n.ensures c.if-n-eq0.true

pub returns-in_err-take_value : goal.returns-in_err-take_value
returns-in_err-take_value c = passed_on _ c.from_residual-in_err-take_value.ensures (pop_used c.requires c.in_ok-k.ensures c.row_length-n.ensures (omega (arith, c.if-n-eq0.false)) c.in_err-take_value.ensures refl refl)

pub returns : goal.returns
returns c = popped c.requires c.in_ok-k.ensures c.row_length-n.ensures (omega (arith, c.if-n-eq0.false)) c.in_ok-take_value.ensures refl refl
