use Rattle.std.proofs.Common.{◌∙◌}
use Rattle.linked_list.proofs.Getters.{tail_is}
use Rattle.linked_list.proofs.Lists.get_tail.Goals as goal

pub returns : goal.returns
returns c = c.decode.ensures ∙ tail_is (c.requires.linked.row c.args.c c.requires.c_lt_nc)
