use Rattle.rules.specs.Listing as rules
use Rattle.listing.proofs.Pens.{and_then}
use Rattle.listing.proofs.Pen+u8.number.Goals as goal

pub returns : goal.returns
unfolding rules.num
returns c = and_then c.put.ensures c.digits.ensures
