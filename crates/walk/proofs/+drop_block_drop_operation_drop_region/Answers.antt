use mathlib.Core.Path.{refl}
use native.Mathlib.Omega.{arith}
use Rattle.walk.proofs.DropWalk.{in_op, in_region, in_block, ready_region, ready_block, ready_op, blk_no_op, reg_no_op, row<, begun, child, no_more, asked, turn, less, whole, whole_op}
use Rattle.walk.proofs.OwnUses.{may_own, one_left, own_dropped}
use Rattle.walk.proofs.+drop_block_drop_operation_drop_region.Goals as goal

pub drop_block-first_of-next-requires : goal.drop_block-first_of-next-requires
drop_block-first_of-next-requires t c = row< (in_block c.args.l c.args.b) c.requires.store c.requires.live

pub drop_block-loop-next-init : goal.drop_block-loop-next-init
drop_block-loop-next-init t c = begun (in_block c.args.l c.args.b) c.first_of-next.result (ready_block c.args.b c.requires) c.first_of-next.ensures

pub drop_block-drop_operation-n-requires : goal.drop_block-drop_operation-n-requires
drop_block-drop_operation-n-requires t c = (omega (arith, no_more (in_block c.args.l c.args.b) c.loop-next.invariant c.in-Some.is), child (in_block c.args.l c.args.b) c.loop-next.invariant c.in-Some.is)

pub drop_block-next_of-next-requires : goal.drop_block-next_of-next-requires
drop_block-next_of-next-requires t c = asked (in_block c.args.l c.args.b) c.loop-next.invariant c.in-Some.is c.drop_operation-n.ensures

pub drop_block-loop-next-smaller : goal.drop_block-loop-next-smaller
drop_block-loop-next-smaller t c = less (in_block c.args.l c.args.b) c.loop-next.invariant c.in-Some.is c.drop_operation-n.ensures c.next_of-next.result c.next_of-next.ensures

pub drop_block-loop-next-preserved : goal.drop_block-loop-next-preserved
drop_block-loop-next-preserved t c = turn (in_block c.args.l c.args.b) c.loop-next.invariant c.in-Some.is c.drop_operation-n.ensures c.next_of-next.result c.next_of-next.ensures

pub drop_block-returns : goal.drop_block-returns
drop_block-returns t c = whole (in_block c.args.l c.args.b) c.loop-next.invariant c.in_default.is blk_no_op

pub drop_region-first_of-next-requires : goal.drop_region-first_of-next-requires
drop_region-first_of-next-requires t c = row< (in_region c.args.l c.args.r) c.requires.store c.requires.live

pub drop_region-loop-next-init : goal.drop_region-loop-next-init
drop_region-loop-next-init t c = begun (in_region c.args.l c.args.r) c.first_of-next.result (ready_region c.args.r c.requires) c.first_of-next.ensures

pub drop_region-drop_block-n-requires : goal.drop_region-drop_block-n-requires
drop_region-drop_block-n-requires t c = (omega (arith, no_more (in_region c.args.l c.args.r) c.loop-next.invariant c.in-Some.is), child (in_region c.args.l c.args.r) c.loop-next.invariant c.in-Some.is)

pub drop_region-next_of-next-requires : goal.drop_region-next_of-next-requires
drop_region-next_of-next-requires t c = asked (in_region c.args.l c.args.r) c.loop-next.invariant c.in-Some.is c.drop_block-n.ensures

pub drop_region-loop-next-smaller : goal.drop_region-loop-next-smaller
drop_region-loop-next-smaller t c = less (in_region c.args.l c.args.r) c.loop-next.invariant c.in-Some.is c.drop_block-n.ensures c.next_of-next.result c.next_of-next.ensures

pub drop_region-loop-next-preserved : goal.drop_region-loop-next-preserved
drop_region-loop-next-preserved t c = turn (in_region c.args.l c.args.r) c.loop-next.invariant c.in-Some.is c.drop_block-n.ensures c.next_of-next.result c.next_of-next.ensures

pub drop_region-returns : goal.drop_region-returns
drop_region-returns t c = whole (in_region c.args.l c.args.r) c.loop-next.invariant c.in_default.is reg_no_op

pub drop_operation-drop_own-requires : goal.drop_operation-drop_own-requires
drop_operation-drop_own-requires t c = may_own c.args.o c.args.left c.requires

pub drop_operation-overflow_sub-n : goal.drop_operation-overflow_sub-n
drop_operation-overflow_sub-n t c = one_left c.args.o c.requires

pub drop_operation-first_of-next-requires : goal.drop_operation-first_of-next-requires
drop_operation-first_of-next-requires t c = row< (in_op c.args.l c.args.o) c.requires.store c.requires.live

pub drop_operation-loop-next-init : goal.drop_operation-loop-next-init
drop_operation-loop-next-init t c = begun (in_op c.args.l c.args.o) c.first_of-next.result (ready_op c.args.o c.requires (own_dropped c.args.o c.args.left c.requires c.drop_own.ensures)) c.first_of-next.ensures

pub drop_operation-drop_region-n-requires : goal.drop_operation-drop_region-n-requires
drop_operation-drop_region-n-requires t c = (omega (arith, no_more (in_op c.args.l c.args.o) c.loop-next.invariant c.in-Some.is, one_left c.args.o c.requires), child (in_op c.args.l c.args.o) c.loop-next.invariant c.in-Some.is)

pub drop_operation-next_of-next-requires : goal.drop_operation-next_of-next-requires
drop_operation-next_of-next-requires t c = asked (in_op c.args.l c.args.o) c.loop-next.invariant c.in-Some.is c.drop_region-n.ensures

pub drop_operation-loop-next-smaller : goal.drop_operation-loop-next-smaller
drop_operation-loop-next-smaller t c = less (in_op c.args.l c.args.o) c.loop-next.invariant c.in-Some.is c.drop_region-n.ensures c.next_of-next.result c.next_of-next.ensures

pub drop_operation-loop-next-preserved : goal.drop_operation-loop-next-preserved
drop_operation-loop-next-preserved t c = turn (in_op c.args.l c.args.o) c.loop-next.invariant c.in-Some.is c.drop_region-n.ensures c.next_of-next.result c.next_of-next.ensures

pub drop_operation-returns : goal.drop_operation-returns
drop_operation-returns t c = whole_op (in_op c.args.l c.args.o) c.loop-next.invariant c.in_default.is c.requires.store.sound refl (own_dropped c.args.o c.args.left c.requires c.drop_own.ensures)
