use Rattle.std.proofs.Common.{◌≡◌, refl, ℕ, subst}
use Rattle.std.proofs.lemmas.Result.{err_from_is_err_and}
use native.Mathlib.Omega.{arith}
use Rattle.edit.specs.Taken.{fields_of}
use Rattle.creation.specs.Made.{grown, OperationPartly}
use Rattle.creation.proofs.Operations.{operation_refused, operation_begun, region_can, region_on, operation_done}
use Rattle.creation.proofs.new_operation.Goals as goal

pub returns-in_err-test_operation : goal.returns-in_err-test_operation
returns-in_err-test_operation c =
    let p = err_from_is_err_and c.from_residual.result c.from_residual.ensures.1 in
    rw (p.1, p.2) (operation_refused c.requires.sound_store (fields_of c.args.rec.now) c.of-n.result c.in_err-test_operation.field-0.0 c.in_err-test_operation.ensures)

pub bear_results-requires : goal.bear_results-requires
bear_results-requires c = record { from = c.args.m.now; partly = operation_begun (fields_of c.args.rec.now) c.of-n.result (c.in_ok-test_operation.ensures.ready refl) c.field.result c.birth_op-o.result c.field.ensures c.birth_op-o.ensures }

pub bear_uses-requires : goal.bear_uses-requires
bear_uses-requires c =
    let a0 = operation_begun (fields_of c.args.rec.now) c.of-n.result (c.in_ok-test_operation.ensures.ready refl) c.field.result c.birth_op-o.result c.field.ensures c.birth_op-o.ensures in
    let a1 = c.bear_results.ensures.on c.args.m.now a0 in
    record { from = c.args.m.now; partly = a1 }

pub bear_uses-requires-2 : goal.bear_uses-requires-2
bear_uses-requires-2 c =
    let a0 = operation_begun (fields_of c.args.rec.now) c.of-n.result (c.in_ok-test_operation.ensures.ready refl) c.field.result c.birth_op-o.result c.field.ensures c.birth_op-o.ensures in
    let a1 = c.bear_results.ensures.on c.args.m.now a0 in
    let a2 = c.bear_uses.ensures.on c.args.m.now a1 in
    record { from = c.args.m.now; partly = a2 }

pub birth_region-requires-clause-sound_store : goal.birth_region-requires-clause-sound_store
birth_region-requires-clause-sound_store c =
    let a0 = operation_begun (fields_of c.args.rec.now) c.of-n.result (c.in_ok-test_operation.ensures.ready refl) c.field.result c.birth_op-o.result c.field.ensures c.birth_op-o.ensures in
    let a1 = c.bear_results.ensures.on c.args.m.now a0 in
    let a2 = c.bear_uses.ensures.on c.args.m.now a1 in
    let a3 = c.bear_uses-2.ensures.on c.args.m.now a2 in
    let a = c.loop.invariant c.of-n.result c.args.m.now refl a3 in
    a.made.sound

pub birth_region-requires-clause-can_hold : goal.birth_region-requires-clause-can_hold
birth_region-requires-clause-can_hold c =
    let a0 = operation_begun (fields_of c.args.rec.now) c.of-n.result (c.in_ok-test_operation.ensures.ready refl) c.field.result c.birth_op-o.result c.field.ensures c.birth_op-o.ensures in
    let a1 = c.bear_results.ensures.on c.args.m.now a0 in
    let a2 = c.bear_uses.ensures.on c.args.m.now a1 in
    let a3 = c.bear_uses-2.ensures.on c.args.m.now a2 in
    let a = c.loop.invariant c.of-n.result c.args.m.now refl a3 in
    region_can (fields_of c.args.rec.now) c.of-n.result c.birth_op-o.result c.loop.counter a c.loop-test.true

pub loop-preserved : goal.loop-preserved
loop-preserved c = λ n start e A. region_on (fields_of c.args.rec.now) n c.birth_op-o.result c.loop.counter (c.loop.invariant n start e A) (omega (arith, e, c.loop-test.true)) c.birth_region.result c.birth_region.ensures

pub returns : goal.returns
returns c =
    let a0 = operation_begun (fields_of c.args.rec.now) c.of-n.result (c.in_ok-test_operation.ensures.ready refl) c.field.result c.birth_op-o.result c.field.ensures c.birth_op-o.ensures in
    let a1 = c.bear_results.ensures.on c.args.m.now a0 in
    let a2 = c.bear_uses.ensures.on c.args.m.now a1 in
    let a3 = c.bear_uses-2.ensures.on c.args.m.now a2 in
    let a = c.loop.invariant c.of-n.result c.args.m.now refl a3 in
    let e : c.loop.counter ≡ c.of-n.result.regions = omega (arith, c.loop-test.false, c.loop.auto.counter-end) in
    operation_done (fields_of c.args.rec.now) c.of-n.result (c.in_ok-test_operation.ensures.ready refl) c.birth_op-o.result c.next_number-x.result
    (subst (λ (j : ℕ). OperationPartly c.args.l (fields_of c.args.rec.now) c.of-n.result c.birth_op-o.result (grown (fields_of c.args.rec.now) c.of-n.result c.of-n.result.results c.of-n.result.operands c.of-n.result.successors j) c.args.m.now c.loop.m) e a)
    c.in_ok-test_operation.ensures.is c.requires.passed c.next_number-x.ensures
