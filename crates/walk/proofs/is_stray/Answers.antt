use native.Mathlib.Omega.{arith}
use Rattle.places.specs.Store.{op}
use Rattle.context.specs.Memory.{state_of}
use Rattle.context.proofs.Places.{place<}
use Rattle.context.proofs.Users.{user_live}
use Rattle.context.proofs.Viewed.{sound_of, well_of}
use Rattle.walk.specs.Tests.{marks_in}
use Rattle.walk.proofs.Strays.{stray_is}
use Rattle.walk.proofs.is_stray.Goals as goal

pub offset_bounds-s-o : goal.offset_bounds-s-o
offset_bounds-s-o c =
    omega (arith, (well_of c.args.v.now.sound).caps.ops, place< (sound_of c.args.v.now.sound) (op, c.user_of-o.result) (user_live (sound_of c.args.v.now.sound) c.args.u c.user_of-o.result c.requires.live c.user_of-o.ensures))

pub bounds-s-o : goal.bounds-s-o
bounds-s-o c =
    omega (arith, c.requires.long, place< (sound_of c.args.v.now.sound) (op, c.user_of-o.result) (user_live (sound_of c.args.v.now.sound) c.args.u c.user_of-o.result c.requires.live c.user_of-o.ensures))

pub returns : goal.returns
returns c =
    stray_is (state_of c.args.v.now.layout c.args.v.now.words.now) (marks_in c.args.s.now) c.args.u c.user_of-o.result c.user_of-o.ensures.is
