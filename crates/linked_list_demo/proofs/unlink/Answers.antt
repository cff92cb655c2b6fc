use Rattle.linked_list.proofs.Getters.{home_held}
use Rattle.linked_list_demo.proofs.unlink.Goals as goal

pub unlink-requires-clause-nonzero : goal.unlink-requires-clause-nonzero
unlink-requires-clause-nonzero c = home_held c.requires.linked c.args.n c.if-n-lists.false c.if-not-is_linked.ensures
