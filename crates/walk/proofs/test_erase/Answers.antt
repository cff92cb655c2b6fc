use Rattle.walk.proofs.Marks.{tested_is}
use Rattle.walk.proofs.test_erase.Goals as goal

pub returns : goal.returns
returns c =
    tested_is c.requires.0 c.requires.1 c.depth-deep.ensures c.mark_within.ensures c.test_marked-r.ensures c.mark_within-2.ensures
