use Rattle.std.proofs.Common.{◌≡◌, ◌∙◌, ap, ℕ, ◌+◌, get_or, subst}
use native.Mathlib.Omega.{arith}
use Rattle.edit.specs.Kinds.{slot_of}
use Rattle.edit.specs.Taken.{fields_of}
use Rattle.creation.specs.Made.{uses_many, with_uses, OperationPartly}
use Rattle.creation.proofs.Operations.{use_can, use_on}
use Rattle.creation.proofs.bear_uses.Goals as goal

pub bear_use-requires-clause-can_use : goal.bear_use-requires-clause-can_use
bear_use-requires-clause-can_use c =
    use_can (fields_of c.args.rec.now) c.args.n c.args.o (slot_of c.args.sl) c.loop-j.j (c.loop-j.invariant c.requires.from c.requires.partly) (omega (arith, c.loop-j-test.true, c.uses_at-at.ensures.many)) c.field-d.result
    (c.field-d.ensures ∙ ap (λ (a : ℕ). get_or (fields_of c.args.rec.now) (a + c.loop-j.j) 0) c.uses_at-at.ensures.from)

pub loop-j-preserved : goal.loop-j-preserved
loop-j-preserved c = λ start A.
    use_on (fields_of c.args.rec.now) c.args.n c.args.o (slot_of c.args.sl) c.loop-j.j (c.loop-j.invariant start A) (omega (arith, c.loop-j-test.true, c.uses_at-at.ensures.many)) c.field-d.result
    (c.field-d.ensures ∙ ap (λ (a : ℕ). get_or (fields_of c.args.rec.now) (a + c.loop-j.j) 0) c.uses_at-at.ensures.from) c.bear_use.ensures

pub returns : goal.returns
returns c =
    let e : c.loop-j.j ≡ uses_many c.args.n (slot_of c.args.sl) = omega (arith, c.loop-j-test.false, c.loop-j.auto.j-end, c.uses_at-at.ensures.many) in
    record { on = λ start A. subst (λ (j : ℕ). OperationPartly c.args.l (fields_of c.args.rec.now) c.args.n c.args.o (with_uses (fields_of c.args.rec.now) c.args.n (slot_of c.args.sl) j) start c.loop-j.m) e (c.loop-j.invariant start A) }
