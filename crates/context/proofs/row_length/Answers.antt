use Rattle.context.proofs.Thin.{linked, length_is}
use Rattle.context.proofs.row_length.Goals as goal

pub count-requires-clause-linked : goal.count-requires-clause-linked
count-requires-clause-linked c = linked c.requires.well c.family_span-s.ensures

pub returns : goal.returns
returns c = length_is c.requires.well c.family_span-s.ensures c.count.ensures
