use Rattle.listing.proofs.Pens.{and_then}
use Rattle.listing.proofs.Pen+u8.field.Goals as goal

pub returns : goal.returns
returns c = and_then c.text.ensures c.number.ensures
