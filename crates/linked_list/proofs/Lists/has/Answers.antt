use Rattle.linked_list.proofs.Getters.{has_is}
use Rattle.linked_list.proofs.Lists.has.Goals as goal

pub returns : goal.returns
returns c = rw (c.home_slot.ensures.0, c.encode.ensures) (has_is c.requires.linked c.args.n c.args.c c.requires.n_lt_nn)
