use Rattle.context.proofs.Users.{value_live, value_number, block_holds, block_number}
use Rattle.context.proofs.value.definition_number.Goals as goal

pub number_of-requires-clause-live : goal.number_of-requires-clause-live
number_of-requires-clause-live c = value_live c.args.l c.args.m.now c.if-d-l.true c.requires.live

pub number_of-requires-else-d-l-clause-live : goal.number_of-requires-else-d-l-clause-live
number_of-requires-else-d-l-clause-live c = block_holds c.args.l c.args.m.now c.if-d-l.false c.requires.live

pub returns-then-d-l : goal.returns-then-d-l
returns-then-d-l c = value_number c.if-d-l.true c.number_of.ensures

pub returns-else-d-l : goal.returns-else-d-l
returns-else-d-l c = block_number c.if-d-l.false c.number_of-else-d-l.ensures
