use Rattle.std.proofs.Common.{arith}
use Rattle.context.proofs.Thin.{linked, unlink_asked, unlinked}
use Rattle.context.proofs.Marks.{entered_after}
use Rattle.context.proofs.lists.enter_after.Goals as goal

pub insert_after-requires-clause-linked : goal.insert_after-requires-clause-linked
insert_after-requires-clause-linked c = linked c.requires.well c.family_span-s.ensures

pub insert_after-requires-clause-m_lt_nn : goal.insert_after-requires-clause-m_lt_nn
insert_after-requires-clause-m_lt_nn c = ((unlink_asked c.requires.well c.family_span-s.ensures c.requires.stands).0, omega (arith, c.requires.n_bound, c.family_span-s.ensures.nodes))

pub insert_after-requires-clause-nonzero : goal.insert_after-requires-clause-nonzero
insert_after-requires-clause-nonzero c = (unlink_asked c.requires.well c.family_span-s.ensures c.requires.stands).1

pub insert_after-requires-clause-n_value : goal.insert_after-requires-clause-n_value
insert_after-requires-clause-n_value c = unlinked c.requires.well c.family_span-s.ensures _ c.requires.f_value

pub returns : goal.returns
returns c = entered_after c.requires.well c.family_span-s.ensures _ c.insert_after.auto.s _ _ c.requires.stands c.insert_after.ensures
