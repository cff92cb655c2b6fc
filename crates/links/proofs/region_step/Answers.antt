use Rattle.context.proofs.Places.{place<}
use Rattle.context.specs.Nest.{thing_at}
use Rattle.context.proofs.Viewed.{sound_of}
use Rattle.places.specs.Store.{reg}
use Rattle.links.proofs.Climb.{region_met}
use Rattle.links.proofs.Stepping.{region_from}
use Rattle.links.proofs.region_step.Goals as goal

pub returns-then-is_at : goal.returns-then-is_at
returns-then-is_at c = region_met (sound_of c.args.v.now.sound).sound (thing_at c.args.x) c.args.r c.if-is_at.ensures

pub home_of-requires : goal.home_of-requires
home_of-requires c = place< (sound_of c.args.v.now.sound) (reg, c.args.r) c.requires

pub returns : goal.returns
returns c = region_from (sound_of c.args.v.now.sound) (thing_at c.args.x) c.args.r c.home_of.result c.map_or.result c.if-is_at.ensures c.home_of.ensures c.map_or.ensures
