use mathlib.Core.Path.{refl, ◌∙◌}
use Rattle.edit.specs.Kinds.{thing_of}
use Rattle.edit.specs.Record.{verdict}
use Rattle.rules.specs.Refusal.{named}
use Rattle.std.proofs.lemmas.Result.{err_from_is_err_and}
use Rattle.context.proofs.Viewed.{sound_of}
use Rattle.walk.proofs.Asked.{no_thing, found_at}
use Rattle.walk.proofs.VerdictEdit.{did_judge}
use Rattle.walk.proofs.verdict.Goals as goal

pub returns-in_err-p : goal.returns-in_err-p
unfolding named
returns-in_err-p c =
    let p = err_from_is_err_and c.from_residual.result c.from_residual.ensures.1 in
    rw (p.1, p.2) (no_thing (sound_of c.args.v.now.sound) (verdict (thing_of c.args.kind c.args.number)) c.args.kind c.args.number c.from.ensures c.in_err-p.ensures refl)

pub returns-in-Operation : goal.returns-in-Operation
returns-in-Operation c =
    did_judge (sound_of c.args.v.now.sound) c.args.kind c.args.number c.in_ok-p.p (found_at (sound_of c.args.v.now.sound) c.args.kind c.args.number c.in_ok-p.p c.from.ensures c.in_ok-p.ensures) c.answer_of.result (rw c.in-Operation.is (c.answer_of.ensures ∙ c.verify_operation.ensures.is))

pub returns-in-Block : goal.returns-in-Block
returns-in-Block c =
    did_judge (sound_of c.args.v.now.sound) c.args.kind c.args.number c.in_ok-p.p (found_at (sound_of c.args.v.now.sound) c.args.kind c.args.number c.in_ok-p.p c.from.ensures c.in_ok-p.ensures) c.answer_of-in-Block.result (rw c.in-Block.is (c.answer_of-in-Block.ensures ∙ c.verify_block.ensures.is))

pub returns-in-Region : goal.returns-in-Region
returns-in-Region c =
    did_judge (sound_of c.args.v.now.sound) c.args.kind c.args.number c.in_ok-p.p (found_at (sound_of c.args.v.now.sound) c.args.kind c.args.number c.in_ok-p.p c.from.ensures c.in_ok-p.ensures) c.answer_of-in-Region.result (rw c.in-Region.is (c.answer_of-in-Region.ensures ∙ c.verify_region.ensures.is))
