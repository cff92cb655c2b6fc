use mathlib.Core.Logic.{inl}
use Rattle.std.proofs.Common.{length, arith, ap}
use Rattle.linked_list.proofs.View.{row_short}
use Rattle.linked_list.proofs.Lists.count.Goals as goal

pub count-requires-clause-fits : goal.count-requires-clause-fits
count-requires-clause-fits c =
    inl (omega (arith, ap length c.iter.ensures, row_short (c.requires.linked.row c.args.c c.requires.c_lt_nc), c.args.self.sizes.nodes))
