use Rattle.context.specs.Nest.{thing_at}
use Rattle.walk.proofs.Asked.{starts}
use Rattle.walk.proofs.drop_tallied.Goals as goal

pub drop_inside-requires : goal.drop_inside-requires
drop_inside-requires c = starts c.requires.sound_store (thing_at c.args.x) c.live_count-left.result c.live_count-left.ensures c.requires.live
