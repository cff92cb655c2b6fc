use native.Mathlib.Omega.{arith}
use Rattle.std.proofs.lemmas.Result.{err_from_is_err_and}
use Rattle.context.proofs.Rest.{first_here}
use Rattle.context.proofs.Viewed.{sound_of}
use Rattle.walk.proofs.DropWalk.{in_op, in_region, in_block, row<}
use Rattle.walk.proofs.Search.{on}
use Rattle.walk.proofs.VerifyLaws.{kid_falls, op_hit, op_end, region_hit, region_end, block_self, block_hit, block_end}
use Rattle.walk.proofs.+verify_block_verify_operation_verify_region.Goals as goal

pub verify_block-returns-in_err-judge_block : goal.verify_block-returns-in_err-judge_block
verify_block-returns-in_err-judge_block t c =
    let p = err_from_is_err_and c.from_residual.result c.from_residual.ensures.1 in
    rw (p.1, p.2) (block_self (sound_of c.args.v.now.sound) c.args.b c.in_err-judge_block.ensures)

pub verify_block-nodes-o-items-requires : goal.verify_block-nodes-o-items-requires
verify_block-nodes-o-items-requires t c = row< (in_block c.args.v.now.layout c.args.b) (sound_of c.args.v.now.sound) c.requires

pub verify_block-verify_operation-requires : goal.verify_block-verify_operation-requires
verify_block-verify_operation-requires t c =
    let R = rw c.in-Some.ensures.steps at c.loop-o.invariant.rest in
    (omega (arith, c.decreases, kid_falls (in_block c.args.v.now.layout c.args.b) (sound_of c.args.v.now.sound) R), (first_here R (sound_of c.args.v.now.sound)).live)

pub verify_block-loop-o-preserved : goal.verify_block-loop-o-preserved
verify_block-loop-o-preserved t c = on (rw c.in-Some.ensures.steps at c.loop-o.invariant) c.in_ok-verify_operation.ensures.is

pub verify_block-returns-in_err-verify_operation : goal.verify_block-returns-in_err-verify_operation
verify_block-returns-in_err-verify_operation t c =
    let p = err_from_is_err_and c.from_residual-in_err-verify_operation.result c.from_residual-in_err-verify_operation.ensures.1 in
    rw (p.1, p.2) (block_hit (sound_of c.args.v.now.sound) c.args.b c.in_ok-judge_block.ensures (rw c.in-Some.ensures.steps at c.loop-o.invariant) c.in_err-verify_operation.ensures)

pub verify_block-returns : goal.verify_block-returns
verify_block-returns t c = block_end (sound_of c.args.v.now.sound) c.args.b c.in_ok-judge_block.ensures (rw c.in-None.ensures.steps.0 at c.loop-o.invariant)

pub verify_operation-nodes-r-items-requires : goal.verify_operation-nodes-r-items-requires
verify_operation-nodes-r-items-requires t c = row< (in_op c.args.v.now.layout c.args.o) (sound_of c.args.v.now.sound) c.requires

pub verify_operation-verify_region-requires : goal.verify_operation-verify_region-requires
verify_operation-verify_region-requires t c =
    let R = rw c.in-Some.ensures.steps at c.loop-r.invariant.rest in
    (omega (arith, c.decreases, kid_falls (in_op c.args.v.now.layout c.args.o) (sound_of c.args.v.now.sound) R), (first_here R (sound_of c.args.v.now.sound)).live)

pub verify_operation-loop-r-preserved : goal.verify_operation-loop-r-preserved
verify_operation-loop-r-preserved t c = on (rw c.in-Some.ensures.steps at c.loop-r.invariant) c.in_ok-verify_region.ensures.is

pub verify_operation-returns-in_err-verify_region : goal.verify_operation-returns-in_err-verify_region
verify_operation-returns-in_err-verify_region t c =
    let p = err_from_is_err_and c.from_residual.result c.from_residual.ensures.1 in
    rw (p.1, p.2) (op_hit (sound_of c.args.v.now.sound) c.args.o c.requires (rw c.in-Some.ensures.steps at c.loop-r.invariant) c.in_err-verify_region.ensures)

pub verify_operation-returns : goal.verify_operation-returns
verify_operation-returns t c =
    op_end (sound_of c.args.v.now.sound) c.args.o c.judge_end.result c.requires (rw c.in-None.ensures.steps.0 at c.loop-r.invariant) c.judge_end.ensures

pub verify_region-nodes-b-items-requires : goal.verify_region-nodes-b-items-requires
verify_region-nodes-b-items-requires t c = row< (in_region c.args.v.now.layout c.args.r) (sound_of c.args.v.now.sound) c.requires

pub verify_region-verify_block-requires : goal.verify_region-verify_block-requires
verify_region-verify_block-requires t c =
    let R = rw c.in-Some.ensures.steps at c.loop-b.invariant.rest in
    (omega (arith, c.decreases, kid_falls (in_region c.args.v.now.layout c.args.r) (sound_of c.args.v.now.sound) R), (first_here R (sound_of c.args.v.now.sound)).live)

pub verify_region-loop-b-preserved : goal.verify_region-loop-b-preserved
verify_region-loop-b-preserved t c = on (rw c.in-Some.ensures.steps at c.loop-b.invariant) c.in_ok-verify_block.ensures.is

pub verify_region-returns-in_err-verify_block : goal.verify_region-returns-in_err-verify_block
verify_region-returns-in_err-verify_block t c =
    let p = err_from_is_err_and c.from_residual.result c.from_residual.ensures.1 in
    rw (p.1, p.2) (region_hit (sound_of c.args.v.now.sound) c.args.r (rw c.in-Some.ensures.steps at c.loop-b.invariant) c.in_err-verify_block.ensures)

pub verify_region-returns : goal.verify_region-returns
verify_region-returns t c = region_end (sound_of c.args.v.now.sound) c.args.r (rw c.in-None.ensures.steps.0 at c.loop-b.invariant)
