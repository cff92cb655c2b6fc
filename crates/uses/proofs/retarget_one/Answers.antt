use Rattle.uses.specs.Retarget.{RetargetedOne}
use Rattle.uses.proofs.retarget_one.Goals as goal

pub returns-then-is_chosen : goal.returns-then-is_chosen
returns-then-is_chosen c = RetargetedOne.moved c.if-is_chosen.ensures c.move_use.ensures

pub returns-else-is_chosen : goal.returns-else-is_chosen
returns-else-is_chosen c = RetargetedOne.stayed c.if-is_chosen.ensures
