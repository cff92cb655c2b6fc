use Rattle.context.proofs.Numbers.{value_uses_list, block_uses_list}
use Rattle.context.proofs.use_set_of.Goals as goal

pub returns-in-Operand : goal.returns-in-Operand
returns-in-Operand c = let h = c.requires.p_bound in rw c.in-Operand.is (value_uses_list c.args.l c.args.p (rw c.in-Operand.is at h))

pub returns-in-Successor : goal.returns-in-Successor
returns-in-Successor c = let h = c.requires.p_bound in rw c.in-Successor.is (block_uses_list c.args.l c.args.p (rw c.in-Successor.is at h))
