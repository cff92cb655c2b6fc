use mathlib.Core.Path.{refl}
use Rattle.std.proofs.Common.{rules, tests}
use Rattle.sound_parts.specs.Tests.{MustAt}
use Rattle.seqs.proofs.Each.{says_all}
use Rattle.sound_parts.proofs.check_must.Goals as goal

pub returns : goal.returns
returns c = let a = c.args.rows.now in let t = a.nodes in says_all _ _ t.places (λ x. MustAt a.lists.nc t.places a.words.now t.words.now x) c.all.result refl c.all.ensures.ran (λ x b q k. search (rules, tests))
