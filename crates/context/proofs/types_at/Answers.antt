use Rattle.std.proofs.Common.{arith}
use Rattle.context.specs.Layout.{arena}
use Rattle.context.proofs.types_at.Goals as goal

pub returns : goal.returns
unfolding arena
returns c = record { starts = omega (arith, c.flags_at.ensures.starts); fits = omega (arith, c.flags_at.ensures.starts); small = omega (arith, c.flags_at.ensures.starts, c.requires.ops, c.requires.blocks, c.requires.regions, c.requires.values, c.requires.uses) }
