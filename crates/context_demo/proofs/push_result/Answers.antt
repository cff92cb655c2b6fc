use Rattle.places.specs.Store.{op}
use Rattle.context.specs.Memory.{state_of}
use Rattle.context.proofs.Places.{place<}
use Rattle.context.proofs.Numbers.{list_lives}
use Rattle.context_demo.proofs.push_result.Goals as goal

pub values_of-requires-clause-p_bound : goal.values_of-requires-clause-p_bound
values_of-requires-clause-p_bound c = place< c.requires (op, c.in_ok-o.o) c.in_ok-o.ensures.0

pub push_value-requires-clause-k_bound : goal.push_value-requires-clause-k_bound
push_value-requires-clause-k_bound c = c.values_of.ensures.inside

pub push_value-requires-clause-live : goal.push_value-requires-clause-live
push_value-requires-clause-live c = list_lives c.values_of.ensures (state_of _ _) c.in_ok-o.ensures.0
