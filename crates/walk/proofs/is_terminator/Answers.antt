use mathlib.Core.Path.{ap}
use Prim.Native.Nat.{ℕ, ◌%◌}
use lib.Dec.{eqb}
use Rattle.places.specs.Store.{op}
use Rattle.places.specs.Verdict.{terminates}
use Rattle.context.proofs.Places.{place<}
use Rattle.context.proofs.Viewed.{sound_of}
use Rattle.walk.proofs.is_terminator.Goals as goal

pub flags_of-requires : goal.flags_of-requires
flags_of-requires c = place< (sound_of c.args.v.now.sound) (op, c.args.o) c.requires

pub returns : goal.returns
unfolding terminates
returns c = ap (λ (n : ℕ). eqb (n % 2) 1) c.flags_of.ensures.is
