use mathlib.Core.Path.{sym, ◌∙◌}
use Rattle.std.proofs.lemmas.Result.{err_from_is_err_and}
use Rattle.places.specs.Store.{blk}
use Rattle.context.proofs.Places.{place<}
use Rattle.context.proofs.Viewed.{sound_of}
use Rattle.walk.specs.Judge.{fault_reply}
use Rattle.walk.proofs.JudgeLaws.{was_some, was_none, block_in_live, alone_1, alone_2, alone_18, alone_4, alone_0}
use Rattle.walk.proofs.judge_block.Goals as goal

pub home_of-requires : goal.home_of-requires
home_of-requires c = place< (sound_of c.args.v.now.sound) (blk, c.args.b) c.requires

pub returns-in_err-r : goal.returns-in_err-r
unfolding fault_reply
returns-in_err-r c =
    let p = err_from_is_err_and c.from_residual.result c.from_residual.ensures.1 in
    let w = was_none _ (sym c.ok_or.ensures.value ∙ c.in_err-r.was) in
    rw (p.1, p.2 ∙ w.1) (record { is = alone_1 (sound_of c.args.v.now.sound) c.args.b c.number_of-n.result c.home_of.ensures w.0 c.number_of-n.ensures })

pub ended-requires : goal.ended-requires
ended-requires c = (c.requires, block_in_live (sound_of c.args.v.now.sound) c.args.b c.home_of.ensures (was_some _ (sym c.ok_or.ensures.value ∙ c.in_ok-r.was)))

pub returns-then-not-ended : goal.returns-then-not-ended
unfolding fault_reply
returns-then-not-ended c =
    record { is = alone_2 (sound_of c.args.v.now.sound) c.args.b c.number_of-n.result c.home_of.ensures (was_some _ (sym c.ok_or.ensures.value ∙ c.in_ok-r.was)) c.number_of-n.ensures (sym c.if-not-ended.ensures) }

pub returns-then-stray_user : goal.returns-then-stray_user
unfolding fault_reply
returns-then-stray_user c =
    record { is = alone_18 (sound_of c.args.v.now.sound) c.args.b c.home_of.ensures (was_some _ (sym c.ok_or.ensures.value ∙ c.in_ok-r.was)) (sym c.if-not-ended.ensures) (sym c.if-stray_user.ensures) }

pub returns-then-lost_pred : goal.returns-then-lost_pred
unfolding fault_reply
returns-then-lost_pred c =
    record { is = alone_4 (sound_of c.args.v.now.sound) c.args.b c.number_of-n.result c.home_of.ensures (was_some _ (sym c.ok_or.ensures.value ∙ c.in_ok-r.was)) c.number_of-n.ensures (sym c.if-not-ended.ensures) (sym c.if-stray_user.ensures) (sym c.if-lost_pred.ensures) }

pub returns : goal.returns
returns c =
    record { is = alone_0 (sound_of c.args.v.now.sound) c.args.b c.home_of.ensures (was_some _ (sym c.ok_or.ensures.value ∙ c.in_ok-r.was)) (sym c.if-not-ended.ensures) (sym c.if-stray_user.ensures) (sym c.if-lost_pred.ensures) }
