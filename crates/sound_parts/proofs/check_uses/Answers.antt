use Rattle.std.proofs.Common.{rules, tests, ◌+◌, ◌*◌}
use Rattle.seqs.specs.Seqs.{Says}
use Rattle.sound_parts.specs.Tests.{LivesIn, Slots, Must, UsesOk}
use Rattle.sound_parts.proofs.Loops.{homes_as, slots_as, says_both, says_first, says_last, says_failed}
use Rattle.sound_parts.proofs.check_uses.Goals.{then-check_slots, else-check_slots}
use Rattle.sound_parts.proofs.check_uses.Goals as goal

pub returns-then-check_must : goal.returns-then-check_must
returns-then-check_must c =
    let o = c.args.ops.now in
    let b = c.args.blocks.now in
    let v = c.args.values.now in
    let s = c.args.slots.now in
    let d = c.args.sets.now in
    let u = d.nodes in
    let slots = slots_as o.places v.places u.places o.words.now u.words.now s.words.now d.words.now c.check_slots.result c.requires.sets_sized c.check_slots.ensures in
    let both : Says c.if-check_slots.value (Slots o.places v.places (v.places + b.places) u.places o.words.now u.words.now s.words.now d.words.now × Must (2 * o.places) u.places s.words.now u.words.now) = elim c.if-check_slots.branch [
      | then-check_slots w ↦ says_both _ _ w.check_must.result _ _ w.value-is w.if-check_slots.true slots (rw (c.requires.slots_sized, c.requires.same_uses.0, c.requires.same_uses.1) at w.check_must.ensures)
      | else-check_slots w ↦ says_first _ _ _ _ w.value-is w.if-check_slots.false slots
    ] in
    says_last c.if-check_slots.value _ _ _ (UsesOk o.places b.places v.places u.places o.words.now b.words.now v.words.now u.words.now s.words.now d.words.now) c.if-check_must.true both (λ p q. record { slots = p.0; must = p.1; sets = q }) (λ R. R.sets) (homes_as c.requires.sets_sized (LivesIn v.places b.places v.words.now b.words.now) c.check_homes.ensures (λ k b h. search (rules, tests)))

pub returns-else-check_must : goal.returns-else-check_must
returns-else-check_must c =
    let o = c.args.ops.now in
    let b = c.args.blocks.now in
    let v = c.args.values.now in
    let s = c.args.slots.now in
    let d = c.args.sets.now in
    let u = d.nodes in
    let slots = slots_as o.places v.places u.places o.words.now u.words.now s.words.now d.words.now c.check_slots.result c.requires.sets_sized c.check_slots.ensures in
    let both : Says c.if-check_slots.value (Slots o.places v.places (v.places + b.places) u.places o.words.now u.words.now s.words.now d.words.now × Must (2 * o.places) u.places s.words.now u.words.now) = elim c.if-check_slots.branch [
      | then-check_slots w ↦ says_both _ _ w.check_must.result _ _ w.value-is w.if-check_slots.true slots (rw (c.requires.slots_sized, c.requires.same_uses.0, c.requires.same_uses.1) at w.check_must.ensures)
      | else-check_slots w ↦ says_first _ _ _ _ w.value-is w.if-check_slots.false slots
    ] in
    says_failed c.if-check_slots.value _ (UsesOk o.places b.places v.places u.places o.words.now b.words.now v.words.now u.words.now s.words.now d.words.now) c.if-check_must.false both (λ R. (R.slots, R.must))
