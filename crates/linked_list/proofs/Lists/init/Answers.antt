use Rattle.linked_list.proofs.Moves.{filled}
use Rattle.linked_list.proofs.Lists.init.Goals as goal

pub returns : goal.returns
returns c = filled c.fill.ensures.len c.requires.s_len (c.fill.ensures.after (λ y e. e))
