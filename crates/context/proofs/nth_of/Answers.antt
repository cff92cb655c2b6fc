use Rattle.context.proofs.Thin.{linked}
use Rattle.context.proofs.Neighbours.{nth_asked, nth_is}
use Rattle.context.proofs.nth_of.Goals as goal

pub nth-requires-clause-linked : goal.nth-requires-clause-linked
nth-requires-clause-linked c = linked c.requires.well c.family_span-s.ensures

pub nth-requires-clause-i_in_bounds : goal.nth-requires-clause-i_in_bounds
nth-requires-clause-i_in_bounds c = nth_asked c.requires.well c.family_span-s.ensures _ c.requires.i_in_bounds

pub returns : goal.returns
returns c = nth_is c.requires.well c.family_span-s.ensures c.requires.k_bound c.requires.i_in_bounds c.nth.ensures
