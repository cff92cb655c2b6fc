use Rattle.edit.specs.Kinds.{slot_of}
use Rattle.places.specs.Roles.{def_kind}
use Rattle.context.proofs.Places.{place<}
use Rattle.context.proofs.Viewed.{sound_of}
use Rattle.uses.proofs.def_of.Goals as goal

pub use_set_of-requires-clause-p_bound : goal.use_set_of-requires-clause-p_bound
use_set_of-requires-clause-p_bound c = place< (sound_of c.args.v.now.sound) (def_kind (slot_of c.args.sl), c.in_ok-p.p) (rw c.definition_kind.ensures at c.in_ok-p.ensures.0)
