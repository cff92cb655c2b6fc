use mathlib.Core.Path.{◌∙◌}
use Rattle.places.specs.Store.{blk}
use Rattle.context.proofs.Places.{place<}
use Rattle.context.proofs.Viewed.{sound_of}
use Rattle.walk.proofs.JudgeLaws.{last_some, ends_none, ends_some}
use Rattle.walk.proofs.ends_well.Goals as goal

pub last_of-requires : goal.last_of-requires
last_of-requires c = place< (sound_of c.args.v.now.sound) (blk, c.args.b) c.requires

pub is_terminator-requires : goal.is_terminator-requires
is_terminator-requires c = (last_some (sound_of c.args.v.now.sound) c.args.b c.last_of.ensures c.in-Some.is).1

pub returns-in-Some : goal.returns-in-Some
returns-in-Some c = c.is_terminator.ensures ∙ ends_some (sound_of c.args.v.now.sound) c.args.b c.last_of.ensures c.in-Some.is

pub returns-in-None : goal.returns-in-None
returns-in-None c = ends_none (sound_of c.args.v.now.sound) c.args.b c.last_of.ensures c.in-None.is
