use native.Mathlib.Omega.{arith}
use Rattle.places.specs.Store.{op}
use Rattle.context.proofs.Places.{place<}
use Rattle.walk.proofs.OwnUses.{few_both, own_tallied}
use Rattle.walk.proofs.drop_own.Goals as goal

pub slots_of-requires-clause-o_bound : goal.slots_of-requires-clause-o_bound
slots_of-requires-clause-o_bound c = place< c.requires.store (op, c.args.o) c.requires.live

pub slots_of-requires-2-clause-o_bound : goal.slots_of-requires-2-clause-o_bound
slots_of-requires-2-clause-o_bound c = place< c.requires.store (op, c.args.o) c.requires.live

pub overflow_add-t-2 : goal.overflow_add-t-2
overflow_add-t-2 c = omega (arith, few_both c.args.o c.requires.store c.requires.live c.slots_of.ensures c.drop_slots-operands.ensures c.slots_of-2.ensures c.drop_slots-successors.ensures)

pub overflow_cast-t : goal.overflow_cast-t
overflow_cast-t c = omega (arith, few_both c.args.o c.requires.store c.requires.live c.slots_of.ensures c.drop_slots-operands.ensures c.slots_of-2.ensures c.drop_slots-successors.ensures)

pub overflow_add-t-3 : goal.overflow_add-t-3
overflow_add-t-3 c =
    omega (arith, c.requires.uses, few_both c.args.o c.requires.store c.requires.live c.slots_of.ensures c.drop_slots-operands.ensures c.slots_of-2.ensures c.drop_slots-successors.ensures)

pub returns : goal.returns
returns c = own_tallied c.args.o c.requires.store c.requires.live c.slots_of.ensures c.drop_slots-operands.ensures c.slots_of-2.ensures c.drop_slots-successors.ensures c.args.t.now
