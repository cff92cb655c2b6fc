use Rattle.context.proofs.Checking.{family_says}
use Rattle.context.proofs.family_ok.Goals as goal

pub returns : goal.returns
returns c = family_says _ c.family_span-s.ensures c.check_links.result c.check_links.ensures
