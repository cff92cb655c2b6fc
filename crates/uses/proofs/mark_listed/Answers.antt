use native.Mathlib.Omega.{arith}
use Rattle.edit.specs.Taken.{fields_of}
use Rattle.context.proofs.Viewed.{sound_of}
use Rattle.uses.proofs.Marking.{begins, goes_on, ends}
use Rattle.uses.proofs.mark_listed.Goals as goal

pub loop-i-init : goal.loop-i-init
loop-i-init c = begins (fields_of c.args.rec.now) (sound_of c.args.v.now.sound) c.requires

pub loop-i-preserved : goal.loop-i-preserved
loop-i-preserved c = goes_on (fields_of c.args.rec.now) c.loop-i.invariant (omega (arith, c.loop-i-test.true, c.field_count-i-end.ensures)) c.field.ensures c.mark_one.ensures

pub returns : goal.returns
returns c = ends (fields_of c.args.rec.now) c.loop-i.invariant (omega (arith, c.loop-i-test.false, c.field_count-i-end.ensures))
