-- The header names the layout of a sound store. Assumes nothing.
use Rattle.std.proofs.Common.{inr, arith, refl, ap}
use Rattle.context.specs.declared.Layout.{Layout}
use Rattle.context.proofs.Checking.{headed}
use Rattle.script.proofs.ready.Goals as goal

pub returns-then-room-l : goal.returns-then-room-l
returns-then-room-l c = inr (c.if-not-check.ensures, omega (arith, ap (λ (x : Layout). x.ops) (headed c.layout_of-l.ensures)), refl)

pub returns : goal.returns
returns c = (headed c.layout_of-l.ensures, c.if-not-check.ensures, omega (arith, ap (λ (x : Layout). x.ops) (headed c.layout_of-l.ensures)))
