-- An operation leaves fewer operations that are not yet reached; a region or a block hands the number on, so their places in the cycle count too.
use Prim.Native.Nat.{◌+◌, ◌*◌}
use Rattle.places.specs.Store.{op, blk, reg}
use Rattle.walk.specs.Drop.{walked}
use Rattle.walk.proofs.DropWalk.{Dropping, ahead}
use Rattle.walk.proofs.+drop_block_drop_operation_drop_region.Given as goal

abbrev pub decreases-drop_block : goal.decreases-drop_block
decreases-drop_block l = 3 * l.left + 1

abbrev pub decreases-drop_operation : goal.decreases-drop_operation
decreases-drop_operation l = 3 * l.left

abbrev pub decreases-drop_region : goal.decreases-drop_region
decreases-drop_region l = 3 * l.left + 2

abbrev pub invariant-drop_block-loop-next : goal.invariant-drop_block-loop-next
invariant-drop_block-loop-next l = Dropping l.l (blk, l.b) l.initial.m l.m l.next (walked l.initial.n l.initial.t) (walked l.n l.t)

abbrev pub decreases-drop_block-loop-next : goal.decreases-drop_block-loop-next
decreases-drop_block-loop-next l = ahead l.l (blk, l.b) l.m l.next

abbrev pub invariant-drop_region-loop-next : goal.invariant-drop_region-loop-next
invariant-drop_region-loop-next l = Dropping l.l (reg, l.r) l.initial.m l.m l.next (walked l.initial.n l.initial.t) (walked l.n l.t)

abbrev pub decreases-drop_region-loop-next : goal.decreases-drop_region-loop-next
decreases-drop_region-loop-next l = ahead l.l (reg, l.r) l.m l.next

abbrev pub invariant-drop_operation-loop-next : goal.invariant-drop_operation-loop-next
invariant-drop_operation-loop-next l = Dropping l.l (op, l.o) l.initial.m l.m l.next (walked l.initial.n l.initial.t) (walked l.n l.t)

abbrev pub decreases-drop_operation-loop-next : goal.decreases-drop_operation-loop-next
decreases-drop_operation-loop-next l = ahead l.l (op, l.o) l.m l.next
