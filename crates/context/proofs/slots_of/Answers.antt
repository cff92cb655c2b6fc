use Rattle.context.proofs.Numbers.{operands_list, successors_list}
use Rattle.context.proofs.slots_of.Goals as goal

pub returns-in-Operand : goal.returns-in-Operand
returns-in-Operand c = rw c.in-Operand.is (operands_list c.args.l c.args.o c.requires.o_bound)

pub returns-in-Successor : goal.returns-in-Successor
returns-in-Successor c = rw c.in-Successor.is (successors_list c.args.l c.args.o c.requires.o_bound)
