use Rattle.context.proofs.Thin.{linked, unlink_asked, left}
use Rattle.context.proofs.lists.leave.Goals as goal

pub unlink-requires-clause-linked : goal.unlink-requires-clause-linked
unlink-requires-clause-linked c = linked c.requires.well c.family_span-s.ensures

pub unlink-requires-clause-n_lt_nn : goal.unlink-requires-clause-n_lt_nn
unlink-requires-clause-n_lt_nn c = (unlink_asked c.requires.well c.family_span-s.ensures c.requires.stands).0

pub unlink-requires-clause-nonzero : goal.unlink-requires-clause-nonzero
unlink-requires-clause-nonzero c = (unlink_asked c.requires.well c.family_span-s.ensures c.requires.stands).1

pub returns : goal.returns
returns c = left c.requires.well c.family_span-s.ensures _ c.unlink.auto.s c.requires.stands c.unlink.ensures
