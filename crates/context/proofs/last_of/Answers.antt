use Rattle.context.proofs.Thin.{linked}
use Rattle.context.proofs.Neighbours.{last_is}
use Rattle.context.proofs.last_of.Goals as goal

pub get_tail-requires-clause-linked : goal.get_tail-requires-clause-linked
get_tail-requires-clause-linked c = linked c.requires.well c.family_span-s.ensures

pub returns : goal.returns
returns c = last_is c.requires.well c.family_span-s.ensures c.get_tail.ensures
