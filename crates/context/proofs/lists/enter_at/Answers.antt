use Rattle.context.proofs.Thin.{linked, unlinked, entered_at}
use Rattle.context.proofs.lists.enter_at.Goals as goal

pub insert_at-requires-clause-linked : goal.insert_at-requires-clause-linked
insert_at-requires-clause-linked c = linked c.requires.well c.family_span-s.ensures

pub insert_at-requires-clause-n_value : goal.insert_at-requires-clause-n_value
insert_at-requires-clause-n_value c = unlinked c.requires.well c.family_span-s.ensures _ c.requires.f_value

pub returns : goal.returns
returns c = entered_at c.requires.well c.family_span-s.ensures _ c.insert_at.auto.s c.insert_at.ensures
