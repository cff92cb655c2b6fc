use Rattle.context.proofs.Viewed.{sound_of}
use Rattle.walk.proofs.Deep.{deep_enough}
use Rattle.walk.proofs.depth.Goals as goal

pub returns : goal.returns
returns c =
    deep_enough (sound_of c.args.v.now.sound) c.live_count-a.result c.live_count-b.result c.live_count-c.result c.live_count-d.result c.live_count-e.result c.live_count-a.ensures c.live_count-b.ensures c.live_count-c.ensures c.live_count-d.ensures c.live_count-e.ensures
