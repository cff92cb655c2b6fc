use mathlib.Core.Path.{refl}
use Rattle.edit.specs.Answer.{numbers_of}
use Rattle.walk.specs.Judge.{fault_reply}
use Rattle.walk.proofs.AnswerFromFault.from.Goals as goal

pub returns-in-Unlinked : goal.returns-in-Unlinked
unfolding numbers_of fault_reply
returns-in-Unlinked c = rw c.in-Unlinked.is refl

pub returns-in-NoTerminator : goal.returns-in-NoTerminator
unfolding numbers_of fault_reply
returns-in-NoTerminator c = rw c.in-NoTerminator.is refl

pub returns-in-TooEarly : goal.returns-in-TooEarly
unfolding numbers_of fault_reply
returns-in-TooEarly c = rw c.in-TooEarly.is refl

pub returns-in-LostPredecessor : goal.returns-in-LostPredecessor
unfolding numbers_of fault_reply
returns-in-LostPredecessor c = rw c.in-LostPredecessor.is refl

pub returns-in-StrayUser : goal.returns-in-StrayUser
unfolding numbers_of fault_reply
returns-in-StrayUser c = rw c.in-StrayUser.is refl
