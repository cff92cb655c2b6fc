-- A flip. Assumes nothing.
use Rattle.bits.proofs.Digits.{flipped}
use Rattle.bits.proofs.flip.Goals as goal

pub returns : goal.returns
returns c = flipped c.args.b.now c.args.p c.requires
