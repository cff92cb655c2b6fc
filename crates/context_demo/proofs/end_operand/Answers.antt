use Rattle.places.specs.Store.{op}
use Rattle.context.proofs.Places.{place<}
use Rattle.context_demo.proofs.Steps.{nth_lives}
use Rattle.context_demo.proofs.end_operand.Goals as goal

pub slots_of-s-requires-clause-o_bound : goal.slots_of-s-requires-clause-o_bound
slots_of-s-requires-clause-o_bound c = place< c.requires (op, c.in_ok-o.o) c.in_ok-o.ensures.0

pub row_length-requires : goal.row_length-requires
row_length-requires c = c.slots_of-s.ensures.inside

pub nth_of-u-requires-clause-k_bound : goal.nth_of-u-requires-clause-k_bound
nth_of-u-requires-clause-k_bound c = c.slots_of-s.ensures.inside

pub end_use-requires-clause-live : goal.end_use-requires-clause-live
end_use-requires-clause-live c = nth_lives c.requires _ c.args.i c.nth_of-u.result c.nth_of-u.ensures
