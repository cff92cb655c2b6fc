use mathlib.Core.Path.{sym, subst}
use Rattle.seqs.proofs.Says.{says_yes}
use Rattle.context.specs.declared.Layout.{Layout}
use Rattle.context.specs.Memory.{layout_of, SoundStore}
use Rattle.context.proofs.Checking.{headed}
use Rattle.readers.proofs.Public.{told}
use Rattle.readers.proofs.uses_of.Goals as goal

pub invariant_of-v : goal.invariant_of-v
invariant_of-v c =
    record { sound = ∣ subst (λ (l : Layout). SoundStore l c.args.store.now) (sym (headed c.layout_of.ensures)) (says_yes c.check.result (SoundStore (layout_of c.args.store.now) c.args.store.now) c.if-not-check.false c.check.ensures) ∣₁ }

pub returns : goal.returns
returns c =
    told (says_yes c.check.result (SoundStore (layout_of c.args.store.now) c.args.store.now) c.if-not-check.false c.check.ensures) (headed c.layout_of.ensures) c.sound_uses.auto.out c.sound_uses.ensures
