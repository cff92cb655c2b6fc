use Rattle.std.proofs.Common.{arith}
use Rattle.context.proofs.Thin.{linked, unlink_asked, unlinked}
use Rattle.context.proofs.Marks.{entered_before}
use Rattle.context.proofs.lists.enter_before.Goals as goal

pub insert_before-requires-clause-linked : goal.insert_before-requires-clause-linked
insert_before-requires-clause-linked c = linked c.requires.well c.family_span-s.ensures

pub insert_before-requires-clause-m_lt_nn : goal.insert_before-requires-clause-m_lt_nn
insert_before-requires-clause-m_lt_nn c = ((unlink_asked c.requires.well c.family_span-s.ensures c.requires.stands).0, omega (arith, c.requires.n_bound, c.family_span-s.ensures.nodes))

pub insert_before-requires-clause-nonzero : goal.insert_before-requires-clause-nonzero
insert_before-requires-clause-nonzero c = (unlink_asked c.requires.well c.family_span-s.ensures c.requires.stands).1

pub insert_before-requires-clause-n_value : goal.insert_before-requires-clause-n_value
insert_before-requires-clause-n_value c = unlinked c.requires.well c.family_span-s.ensures _ c.requires.f_value

pub returns : goal.returns
returns c = entered_before c.requires.well c.family_span-s.ensures _ c.insert_before.auto.s _ _ c.requires.stands c.insert_before.ensures
