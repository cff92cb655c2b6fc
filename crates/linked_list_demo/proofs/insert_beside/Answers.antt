use Rattle.linked_list.proofs.Getters.{home_free, home_held}
use Rattle.linked_list_demo.proofs.insert_beside.Goals as goal

pub insert_after-requires-clause-nonzero : goal.insert_after-requires-clause-nonzero
insert_after-requires-clause-nonzero c = home_held c.requires.linked c.args.m c.if-m-lists.false c.if-not-is_linked.ensures

pub insert_after-requires-clause-n_value : goal.insert_after-requires-clause-n_value
insert_after-requires-clause-n_value c = home_free c.requires.linked c.args.n c.if-n-lists.false c.if-is_linked.ensures

pub insert_before-requires-clause-nonzero : goal.insert_before-requires-clause-nonzero
insert_before-requires-clause-nonzero c = home_held c.requires.linked c.args.m c.if-m-lists.false c.if-not-is_linked.ensures

pub insert_before-requires-clause-n_value : goal.insert_before-requires-clause-n_value
insert_before-requires-clause-n_value c = home_free c.requires.linked c.args.n c.if-n-lists.false c.if-is_linked.ensures
