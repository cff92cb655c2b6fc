use Rattle.context.proofs.Thin.{linked, unlinked, entered_back}
use Rattle.context.proofs.lists.enter_back.Goals as goal

pub insert_at_back-requires-clause-linked : goal.insert_at_back-requires-clause-linked
insert_at_back-requires-clause-linked c = linked c.requires.well c.family_span-s.ensures

pub insert_at_back-requires-clause-n_value : goal.insert_at_back-requires-clause-n_value
insert_at_back-requires-clause-n_value c = unlinked c.requires.well c.family_span-s.ensures _ c.requires.f_value

pub returns : goal.returns
returns c = entered_back c.requires.well c.family_span-s.ensures _ c.insert_at_back.auto.s c.requires.k_bound.0 c.insert_at_back.ensures
