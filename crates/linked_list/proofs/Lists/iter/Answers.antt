use Rattle.std.proofs.Common.{zero-le}
use Rattle.linked_list.proofs.Along.{rest_head}
use Rattle.linked_list.proofs.Getters.{head_is}
use Rattle.linked_list.proofs.Lists.iter.Goals as goal

pub invariant_of-result : goal.invariant_of-result
invariant_of-result c =
    record { linked = c.requires.linked; cont = c.args.c; index = 0; cont< = c.requires.c_lt_nc; index≤ = zero-le; there = head_is (c.requires.linked.row c.args.c c.requires.c_lt_nc) }

pub returns : goal.returns
returns c = rest_head c.requires.linked c.args.c c.requires.c_lt_nc (head_is (c.requires.linked.row c.args.c c.requires.c_lt_nc))
