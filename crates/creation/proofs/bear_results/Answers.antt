use Rattle.std.proofs.Common.{◌≡◌, ℕ, subst}
use native.Mathlib.Omega.{arith}
use Rattle.edit.specs.Taken.{fields_of}
use Rattle.places.specs.Store.{op}
use Rattle.context.proofs.Places.{place<}
use Rattle.creation.specs.Made.{grown, OperationPartly}
use Rattle.creation.proofs.Operations.{result_can, result_on}
use Rattle.creation.proofs.bear_results.Goals as goal

pub values_of-k-requires-clause-p_bound : goal.values_of-k-requires-clause-p_bound
values_of-k-requires-clause-p_bound c = place< c.requires.partly.made.sound (op, c.args.o) c.requires.partly.made.live

pub birth_value-requires-clause-can_bear_value : goal.birth_value-requires-clause-can_bear_value
birth_value-requires-clause-can_bear_value c = result_can (fields_of c.args.rec.now) c.args.n c.args.o c.loop-j.j (c.loop-j.invariant c.requires.from c.requires.partly) c.values_of-k.ensures c.loop-j-test.true

pub loop-j-preserved : goal.loop-j-preserved
loop-j-preserved c = λ start A. result_on (fields_of c.args.rec.now) c.args.n c.args.o c.loop-j.j (c.loop-j.invariant start A) c.values_of-k.ensures c.loop-j-test.true c.field-t.result c.birth_value.result c.field-t.ensures c.birth_value.ensures

pub returns : goal.returns
returns c =
    let e : c.loop-j.j ≡ c.args.n.results = omega (arith, c.loop-j-test.false, c.loop-j.auto.j-end) in
    record { on = λ start A. subst (λ (j : ℕ). OperationPartly c.args.l (fields_of c.args.rec.now) c.args.n c.args.o (grown (fields_of c.args.rec.now) c.args.n j 0 0 0) start c.loop-j.m) e (c.loop-j.invariant start A) }
