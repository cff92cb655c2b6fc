use Rattle.context.proofs.Thin.{linked, home_is}
use Rattle.context.proofs.home_of.Goals as goal

pub get_container-requires-clause-linked : goal.get_container-requires-clause-linked
get_container-requires-clause-linked c = linked c.requires.well c.family_span-s.ensures

pub returns : goal.returns
returns c = home_is c.requires.well c.family_span-s.ensures c.requires.n_bound c.get_container.ensures.home
