use Rattle.linked_list.proofs.Getters.{home_free}
use Rattle.linked_list_demo.proofs.insert.Goals as goal

pub insert_at_front-requires-clause-n_value : goal.insert_at_front-requires-clause-n_value
insert_at_front-requires-clause-n_value c = home_free c.requires.linked c.args.n c.if-n-lists.false c.if-is_linked.ensures

pub insert_at_back-requires-clause-n_value : goal.insert_at_back-requires-clause-n_value
insert_at_back-requires-clause-n_value c = home_free c.requires.linked c.args.n c.if-n-lists.false c.if-is_linked.ensures

pub insert_at-requires-clause-n_value : goal.insert_at-requires-clause-n_value
insert_at-requires-clause-n_value c = home_free c.requires.linked c.args.n c.if-n-lists.false c.if-is_linked.ensures
