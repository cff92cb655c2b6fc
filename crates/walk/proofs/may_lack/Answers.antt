use mathlib.Core.Path.{ap}
use lib.Dec.{leb}
use Rattle.places.specs.Store.{op}
use Rattle.places.specs.Verdict.{lackable}
use Rattle.context.proofs.Places.{place<}
use Rattle.context.proofs.Viewed.{sound_of}
use Rattle.walk.proofs.may_lack.Goals as goal

pub flags_of-requires : goal.flags_of-requires
flags_of-requires c = place< (sound_of c.args.v.now.sound) (op, c.args.o) c.requires

pub returns : goal.returns
unfolding lackable
returns c = ap (leb 2) c.flags_of.ensures.is
