use Rattle.std.proofs.Common.{◌∙◌, ap, ℕ, ◌+◌, get_or}
use Rattle.std.proofs.lemmas.Result.{err_from_is_err_and}
use native.Mathlib.Omega.{arith}
use Rattle.edit.specs.Kinds.{slot_of}
use Rattle.edit.specs.Taken.{fields_of}
use Rattle.context.specs.Kinds.{kind_of}
use Rattle.context.proofs.Viewed.{sound_of}
use Rattle.creation.specs.Made.{uses_from, uses_many}
use Rattle.creation.proofs.Names.{names_done, one_more, one_lost}
use Rattle.creation.proofs.Operations.{uses_small, uses_fit}
use Rattle.creation.proofs.test_names.Goals as goal

pub uses_at-at-requires : goal.uses_at-at-requires
uses_at-at-requires c = uses_small (sound_of c.args.v.now.sound) (fields_of c.args.rec.now) c.requires.passed c.args.n c.requires.counts

pub overflow_add-at : goal.overflow_add-at
overflow_add-at c = omega (arith, (uses_fit (sound_of c.args.v.now.sound) (fields_of c.args.rec.now) c.requires.passed c.args.n c.requires.counts (slot_of c.args.sl)).1, c.uses_at-at.ensures.from, c.uses_at-at.ensures.many, c.loop-j-test.true)

pub returns-in_err-look_up : goal.returns-in_err-look_up
returns-in_err-look_up c =
    let p = err_from_is_err_and c.from_residual.result c.from_residual.ensures.1 in
    rw (p.1, p.2) (one_lost (sound_of c.args.v.now.sound) (slot_of c.args.sl) (fields_of c.args.rec.now) (uses_from c.args.n (slot_of c.args.sl)) (uses_many c.args.n (slot_of c.args.sl))
    (uses_fit (sound_of c.args.v.now.sound) (fields_of c.args.rec.now) c.requires.passed c.args.n c.requires.counts (slot_of c.args.sl)).0
    c.loop-j.j c.field-d.result (omega (arith, c.loop-j-test.true, c.uses_at-at.ensures.many)) c.loop-j.invariant (c.field-d.ensures ∙ ap (λ (a : ℕ). get_or (fields_of c.args.rec.now) (a + c.loop-j.j) 0) c.uses_at-at.ensures.from)
    (kind_of c.definition_kind.result) c.definition_kind.ensures c.in_err-look_up.field-0.0 c.in_err-look_up.ensures)

pub loop-j-preserved : goal.loop-j-preserved
loop-j-preserved c =
    one_more (sound_of c.args.v.now.sound) (slot_of c.args.sl) (fields_of c.args.rec.now) (uses_from c.args.n (slot_of c.args.sl)) (uses_many c.args.n (slot_of c.args.sl))
    (uses_fit (sound_of c.args.v.now.sound) (fields_of c.args.rec.now) c.requires.passed c.args.n c.requires.counts (slot_of c.args.sl)).0
    c.loop-j.j c.field-d.result (omega (arith, c.loop-j-test.true, c.uses_at-at.ensures.many)) c.loop-j.invariant (c.field-d.ensures ∙ ap (λ (a : ℕ). get_or (fields_of c.args.rec.now) (a + c.loop-j.j) 0) c.uses_at-at.ensures.from)
    (kind_of c.definition_kind.result) c.definition_kind.ensures c.in_ok-look_up.field-0 c.in_ok-look_up.ensures

pub returns : goal.returns
returns c =
    names_done (sound_of c.args.v.now.sound) (slot_of c.args.sl) (fields_of c.args.rec.now) (uses_from c.args.n (slot_of c.args.sl)) (uses_many c.args.n (slot_of c.args.sl))
    (uses_fit (sound_of c.args.v.now.sound) (fields_of c.args.rec.now) c.requires.passed c.args.n c.requires.counts (slot_of c.args.sl)).0
    c.loop-j.j (omega (arith, c.loop-j-test.false, c.uses_at-at.ensures.many)) c.loop-j.invariant
