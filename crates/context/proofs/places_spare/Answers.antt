use mathlib.Core.Path.{refl}
use Rattle.std.proofs.Common.{rules, tests}
use Rattle.seqs.proofs.Says.{says_map}
use Rattle.context.specs.Checked.{SpareAt}
use Rattle.seqs.proofs.Each.{says_all}
use Rattle.context.proofs.places_spare.Goals as goal

pub returns : goal.returns
returns c =
    says_map c.all.result (λ h. record { all = h }) (λ h. h.all)
    (says_all _ _ c.args.n (λ p. SpareAt c.args.n c.args.t.now c.args.s.now p) c.all.result refl c.all.ensures.ran (λ p b q k. search (rules, tests)))
