use Rattle.seqs.specs.Seqs.{Says}
use Rattle.places.specs.Store.{Sound}
use Rattle.context.specs.Memory.{state_of}
use Rattle.sound_parts.proofs.Loops.{says_both, says_first, says_last, says_failed}
use Rattle.sound.specs.Crossing.{UsesCross, ValsCross}
use Rattle.sound.proofs.Laws.{sound_of, sound_uses, sound_vals, sound_nest}
use Rattle.sound.proofs.check_crossing.Goals.{then-cross_uses, else-cross_uses}
use Rattle.sound.proofs.check_crossing.Goals as goal

pub returns-then-cross_values : goal.returns-then-cross_values
returns-then-cross_values c =
    let l = c.args.l in
    let m = c.args.m.now in
    let both : Says c.if-cross_uses.value (UsesCross l m × ValsCross l m) = elim c.if-cross_uses.branch [
      | then-cross_uses w ↦ says_both _ _ w.cross_values.result _ _ w.value-is w.if-cross_uses.true c.cross_uses.ensures w.cross_values.ensures
      | else-cross_uses w ↦ says_first _ c.cross_uses.result _ _ w.value-is w.if-cross_uses.false c.cross_uses.ensures
    ] in
    says_last c.if-cross_uses.value _ _ _ (Sound (state_of l m)) c.if-cross_values.true both (λ p q. sound_of l m c.requires p.0 p.1 q) (sound_nest l m c.requires) c.cross_nest.ensures

pub returns-else-cross_values : goal.returns-else-cross_values
returns-else-cross_values c =
    let l = c.args.l in
    let m = c.args.m.now in
    let both : Says c.if-cross_uses.value (UsesCross l m × ValsCross l m) = elim c.if-cross_uses.branch [
      | then-cross_uses w ↦ says_both _ _ w.cross_values.result _ _ w.value-is w.if-cross_uses.true c.cross_uses.ensures w.cross_values.ensures
      | else-cross_uses w ↦ says_first _ c.cross_uses.result _ _ w.value-is w.if-cross_uses.false c.cross_uses.ensures
    ] in
    says_failed c.if-cross_uses.value _ (Sound (state_of l m)) c.if-cross_values.false both (λ z. (sound_uses l m c.requires z, sound_vals l m c.requires z))
