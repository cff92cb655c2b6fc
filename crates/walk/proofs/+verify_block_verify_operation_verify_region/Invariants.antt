use Rattle.places.specs.Store.{op, blk, reg, regs, ops_in, blocks_in}
use Rattle.context.specs.Memory.{state_of}
use Rattle.places.specs.Verdict.{place_block_verdict, place_region_verdict}
use Rattle.places.proofs.Runs.{measure}
use Rattle.walk.specs.Judge.{on_op}
use Rattle.walk.proofs.Search.{Meeting}
use Rattle.walk.proofs.+verify_block_verify_operation_verify_region.Given as goal

abbrev pub decreases-verify_block : goal.decreases-verify_block
decreases-verify_block l =
    measure (state_of l.v.now.layout l.v.now.words.now) (blk, l.b)

abbrev pub decreases-verify_operation : goal.decreases-verify_operation
decreases-verify_operation l =
    measure (state_of l.v.now.layout l.v.now.words.now) (op, l.o)

abbrev pub decreases-verify_region : goal.decreases-verify_region
decreases-verify_region l =
    measure (state_of l.v.now.layout l.v.now.words.now) (reg, l.r)

abbrev pub invariant-verify_block-loop-o : goal.invariant-verify_block-loop-o
invariant-verify_block-loop-o l =
    Meeting l.v.layout ops_in l.b l.v.words.now l.o-iterator (on_op (state_of l.v.layout l.v.words.now))

abbrev pub invariant-verify_operation-loop-r : goal.invariant-verify_operation-loop-r
invariant-verify_operation-loop-r l =
    Meeting l.v.layout regs l.o l.v.words.now l.r-iterator (place_region_verdict (state_of l.v.layout l.v.words.now) (on_op (state_of l.v.layout l.v.words.now)))

abbrev pub invariant-verify_region-loop-b : goal.invariant-verify_region-loop-b
invariant-verify_region-loop-b l =
    Meeting l.v.layout blocks_in l.r l.v.words.now l.b-iterator (place_block_verdict (state_of l.v.layout l.v.words.now) (on_op (state_of l.v.layout l.v.words.now)))
