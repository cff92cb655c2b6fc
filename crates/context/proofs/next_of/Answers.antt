use Rattle.context.proofs.Thin.{linked}
use Rattle.context.proofs.Neighbours.{next_is}
use Rattle.context.proofs.next_of.Goals as goal

pub get_next-requires-clause-linked : goal.get_next-requires-clause-linked
get_next-requires-clause-linked c = linked c.requires.well c.family_span-s.ensures

pub returns : goal.returns
returns c = next_is c.requires.well c.family_span-s.ensures c.requires.n_bound c.get_next.ensures
