use mathlib.Core.Path.{refl}
use Rattle.places.specs.Store.{op, val}
use Rattle.context.proofs.Places.{place<}
use Rattle.context_demo.proofs.Steps.{can_bear}
use Rattle.context_demo.proofs.push_operand.Goals as goal

pub slots_of-s-requires-clause-o_bound : goal.slots_of-s-requires-clause-o_bound
slots_of-s-requires-clause-o_bound c = place< c.requires (op, c.in_ok-o.o) c.in_ok-o.ensures.0

pub use_set_of-d-requires-clause-p_bound : goal.use_set_of-d-requires-clause-p_bound
use_set_of-d-requires-clause-p_bound c = place< c.requires (val, c.in_ok-v.v) c.in_ok-v.ensures.0

pub row_length-n-requires : goal.row_length-n-requires
row_length-n-requires c = c.slots_of-s.ensures.inside

pub birth_use-requires-clause-s_bound : goal.birth_use-requires-clause-s_bound
birth_use-requires-clause-s_bound c = (c.slots_of-s.ensures.inside, c.use_set_of-d.ensures.inside)

pub birth_use-requires-clause-can_bear : goal.birth_use-requires-clause-can_bear
birth_use-requires-clause-can_bear c =
    can_bear c.requires c.slots_of-s.ensures c.use_set_of-d.ensures c.in_ok-o.ensures.0 c.in_ok-v.ensures.0 c.row_length-n.ensures
    (c.in_ok-may_grow.ensures.short refl) (c.in_ok-may_grow.ensures.room refl)
