use Rattle.places.specs.Store.{op}
use Rattle.context.proofs.Places.{place<}
use Rattle.context.proofs.Viewed.{sound_of}
use Rattle.uses.proofs.slot_of.Goals as goal

pub slots_of-requires-clause-o_bound : goal.slots_of-requires-clause-o_bound
slots_of-requires-clause-o_bound c = place< (sound_of c.args.v.now.sound) (op, c.in_ok-o.o) c.in_ok-o.ensures.0
