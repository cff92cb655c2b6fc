use Rattle.std.specs.Int.{from_bool}
use Rattle.walk.proofs.Marks.{given_op, given_other}
use Rattle.walk.proofs.mark_own.Goals as goal

pub returns-in-Operation : goal.returns-in-Operation
returns-in-Operation c = rw (c.in-Operation.is, c.from.ensures) (given_op c.args.x.place (from_bool c.args.marked) c.args.s.now (c.requires c.in-Operation.is))

pub returns-in_default : goal.returns-in_default
returns-in_default c = given_other c.args.x.kind c.args.x.place (from_bool c.args.marked) c.args.s.now c.in_default.not-Operation
