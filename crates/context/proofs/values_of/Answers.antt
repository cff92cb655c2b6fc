use Rattle.context.proofs.Numbers.{results_list, arguments_list}
use Rattle.context.proofs.values_of.Goals as goal

pub returns-in-Operation : goal.returns-in-Operation
returns-in-Operation c = let h = c.requires.p_bound in rw c.in-Operation.is (results_list c.args.l c.args.p (rw c.in-Operation.is at h))

pub returns-in-Block : goal.returns-in-Block
returns-in-Block c = let h = c.requires.p_bound in rw c.in-Block.is (arguments_list c.args.l c.args.p (rw c.in-Block.is at h))
