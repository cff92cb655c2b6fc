use mathlib.Core.Path.{refl}
use Rattle.edit.specs.Answer.{found, clean, numbers_of}
use Rattle.walk.proofs.answer_of.Goals as goal

pub returns-in-Ok : goal.returns-in-Ok
unfolding numbers_of found clean
returns-in-Ok c = rw c.in-Ok.is refl

pub returns-in-Err : goal.returns-in-Err
returns-in-Err c = rw c.in-Err.is c.from.ensures
