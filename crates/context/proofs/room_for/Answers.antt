use Rattle.std.proofs.Common.{arith}
use Rattle.context.proofs.Books.{packed, full, ran_out, roomy}
use Rattle.context.proofs.room_for.Goals as goal

pub taken-requires : goal.taken-requires
taken-requires c = packed c.requires c.table_span-t.ensures

pub returns-then-taken-t : goal.returns-then-taken-t
returns-then-taken-t c = full c.requires c.table_span-t.ensures c.taken.ensures (λ h. omega (arith, h, c.table_span-t.ensures.capacity, c.if-taken-t.true))

pub upcoming-requires : goal.upcoming-requires
upcoming-requires c = packed c.requires c.table_span-t.ensures

pub returns-then-upcoming : goal.returns-then-upcoming
returns-then-upcoming c = ran_out c.requires c.table_span-t.ensures c.taken.ensures c.upcoming.ensures (omega (arith, c.table_span-t.ensures.capacity, c.if-taken-t.false)) (λ h. omega (arith, h, c.if-upcoming.true))

pub returns : goal.returns
returns c = roomy c.requires c.table_span-t.ensures c.taken.ensures c.upcoming.ensures (omega (arith, c.table_span-t.ensures.capacity, c.if-taken-t.false)) (omega (arith, c.upcoming.type_inv, c.if-upcoming.false))
