use native.Mathlib.Omega.{arith}
use Rattle.uses.proofs.Placing.{goes_on, ends}
use Rattle.uses.proofs.place_listed.Goals as goal

pub loop-i-preserved : goal.loop-i-preserved
loop-i-preserved c = goes_on c.loop-i.invariant (omega (arith, c.loop-i-test.true, c.field_count-i-end.ensures)) c.field.ensures c.place_one.ensures

pub returns : goal.returns
returns c = ends c.loop-i.invariant (omega (arith, c.loop-i-test.false, c.field_count-i-end.ensures))
