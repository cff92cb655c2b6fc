use Rattle.std.proofs.Common.{arith, rules}
use lib.ListN.{length-set}
use Rattle.context.proofs.Starting.{filled, started_all}
use Rattle.context.proofs.set_up.Goals as goal

pub returns : goal.returns
returns c = started_all c.args.l c.args.m.now _ c.requires.caps c.requires.l_in_bounds c.size-n.ensures.is (filled c.args.m.now (omega (arith, c.size-n.ensures.is, c.requires.l_in_bounds)) c.fill.ensures.len (c.fill.ensures.after (λ y e. e))) (simp length-set (search rules))
