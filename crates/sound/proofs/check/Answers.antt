use Rattle.seqs.proofs.Says.{says_yes}
use Rattle.context.specs.Memory.{layout_of, SoundStore}
use Rattle.context.proofs.Checking.{headed}
use Rattle.sound_parts.proofs.Loops.{says_failed}
use Rattle.sound.proofs.Laws.{store_says, well_of}
use Rattle.sound.proofs.check.Goals as goal

pub returns-then-check_parts : goal.returns-then-check_parts
returns-then-check_parts c =
    store_says c.check_crossing.result (headed c.layout_of-l.ensures) (says_yes c.check_parts.result _ c.if-check_parts.true c.check_parts.ensures) c.check_crossing.ensures

pub returns-else-check_parts : goal.returns-else-check_parts
returns-else-check_parts c =
    says_failed c.check_parts.result _ (SoundStore (layout_of c.args.m.now) c.args.m.now) c.if-check_parts.false c.check_parts.ensures (well_of (headed c.layout_of-l.ensures))
