use Rattle.context.proofs.Thin.{linked, first_is}
use Rattle.context.proofs.first_of.Goals as goal

pub get_head-requires-clause-linked : goal.get_head-requires-clause-linked
get_head-requires-clause-linked c = linked c.requires.well c.family_span-s.ensures

pub returns : goal.returns
returns c = first_is c.requires.well c.family_span-s.ensures c.get_head.ensures
