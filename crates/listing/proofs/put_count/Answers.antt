use mathlib.Core.Path.{ap}
use native.Mathlib.Omega.{arith}
use Rattle.rules.specs.Listing as rules
use Rattle.context.specs.Kinds.{kind_of}
use Rattle.context.proofs.Viewed.{well_of}
use Rattle.listing.proofs.Pens.{same_text}
use Rattle.listing.proofs.Nodes.{cap_small}
use Rattle.listing.proofs.put_count.Goals as goal

pub overflow_cast-live_count : goal.overflow_cast-live_count
overflow_cast-live_count c = omega (arith, c.live_count.ensures.small, cap_small (well_of c.args.v.now.sound).caps (kind_of c.args.k))

pub returns : goal.returns
returns c = same_text (ap rules.num c.live_count.ensures.is) c.number.ensures
