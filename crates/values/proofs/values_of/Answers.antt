use Rattle.edit.specs.Kinds.{member_of}
use Rattle.places.specs.Roles.{member_kind}
use Rattle.context.proofs.Places.{place<}
use Rattle.context.proofs.Viewed.{sound_of}
use Rattle.values.proofs.values_of.Goals as goal

pub values_of-requires-clause-p_bound : goal.values_of-requires-clause-p_bound
values_of-requires-clause-p_bound c =
    let h = c.in_ok-p.ensures in place< (sound_of c.args.v.now.sound) (member_kind (member_of c.args.w), c.in_ok-p.p) (rw c.from.ensures at h.0)
