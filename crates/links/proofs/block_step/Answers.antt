use Rattle.context.proofs.Places.{place<}
use Rattle.context.specs.Nest.{thing_at}
use Rattle.context.proofs.Viewed.{sound_of}
use Rattle.places.specs.Store.{blk}
use Rattle.links.proofs.Climb.{block_met}
use Rattle.links.proofs.Stepping.{block_on, block_end, region_live}
use Rattle.links.proofs.block_step.Goals as goal

pub returns-then-is_at : goal.returns-then-is_at
returns-then-is_at c = block_met (sound_of c.args.v.now.sound).sound (thing_at c.args.x) c.args.b c.if-is_at.ensures

pub home_of-requires : goal.home_of-requires
home_of-requires c = place< (sound_of c.args.v.now.sound) (blk, c.args.b) c.requires

pub region_step-requires : goal.region_step-requires
region_step-requires c = region_live (sound_of c.args.v.now.sound) c.args.b c.in-Some.r c.in-Some.ensures

pub returns : goal.returns
returns c = block_on (sound_of c.args.v.now.sound) (thing_at c.args.x) c.args.b c.in-Some.r c.region_step.result c.if-is_at.ensures c.in-Some.ensures c.region_step.ensures

pub returns-in_default : goal.returns-in_default
returns-in_default c = block_end (sound_of c.args.v.now.sound) (thing_at c.args.x) c.args.b c.if-is_at.ensures c.in_default.ensures
