use mathlib.Core.Path.{refl}
use Rattle.std.proofs.Common.{rules, tests}
use Rattle.sound_parts.specs.Tests.{ClimbAt}
use Rattle.seqs.proofs.Each.{says_all}
use Rattle.sound_parts.proofs.check_climbs.Goals as goal

pub returns : goal.returns
returns c =
    let e = c.args.nest.now in
    let o = e.ops.nodes in
    says_all _ _ o.places (λ x. ClimbAt o.places e.blocks.nodes.places e.regions.nodes.places o.words.now e.ops.words.now e.blocks.words.now e.regions.words.now c.args.n x) c.all.result refl c.all.ensures.ran (λ x b q k. search (rules, tests))
