use Rattle.context.proofs.Viewed.{sound_of}
use Rattle.uses.proofs.Marking.{block<, one_marked}
use Rattle.uses.proofs.mark_one.Goals as goal

pub bounds-marks-b : goal.bounds-marks-b
bounds-marks-b c = block< (sound_of c.args.v.now.sound) c.in-Some.b c.in-Some.ensures.0

pub returns-in-Some : goal.returns-in-Some
returns-in-Some c = one_marked (sound_of c.args.v.now.sound) c.args.number c.in-Some.b c.in-Some.ensures c.args.marks.now c.told-marks
