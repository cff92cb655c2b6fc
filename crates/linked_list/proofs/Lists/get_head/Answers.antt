use Rattle.std.proofs.Common.{◌∙◌}
use Rattle.linked_list.proofs.Getters.{head_is}
use Rattle.linked_list.proofs.Lists.get_head.Goals as goal

pub returns : goal.returns
returns c = c.decode.ensures ∙ head_is (c.requires.linked.row c.args.c c.requires.c_lt_nc)
