use Rattle.std.proofs.Common.{◌∙◌}
use Rattle.linked_list.proofs.Getters.{cells}
use Rattle.linked_list.proofs.Lists.get_next.Goals as goal

pub returns : goal.returns
returns c = rw c.next_slot.ensures.0 at c.decode.ensures ∙ (cells c.requires.linked c.args.n c.requires.n_lt_nn).next
