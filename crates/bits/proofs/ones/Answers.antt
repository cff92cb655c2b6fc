-- The ones at the low end. Assumes nothing.
use Rattle.bits.proofs.Digits.{ones_of}
use Rattle.bits.proofs.ones.Goals as goal

pub returns : goal.returns
returns c = ones_of c.args.w c.ranges.w.fits
