use Rattle.std.proofs.Common.{rules, tests}
use Rattle.sound_parts.specs.Tests.{LivesIn, ValsOk}
use Rattle.sound_parts.proofs.Loops.{homes_as, listed_as, says_last, says_failed}
use Rattle.sound_parts.proofs.check_values.Goals as goal

pub returns-then-check_homes : goal.returns-then-check_homes
returns-then-check_homes c =
    let o = c.args.ops.now in
    let b = c.args.blocks.now in
    let v = c.args.values.now in
    let home = homes_as c.requires.values_sized (LivesIn o.places b.places o.words.now b.words.now) c.check_homes.ensures (λ k b h. search (rules, tests)) in
    says_last c.check_homes.result _ _ _ (ValsOk o.places b.places v.nodes.places o.words.now b.words.now v.nodes.words.now v.words.now) c.if-check_homes.true home (λ p q. record { node = p; must = q.0; short = q.1 }) (λ R. (R.must, R.short)) (listed_as v.words.now v.nodes.words.now c.check_listed.result c.requires.values_sized v.sized c.check_listed.ensures)

pub returns-else-check_homes : goal.returns-else-check_homes
returns-else-check_homes c =
    let o = c.args.ops.now in
    let b = c.args.blocks.now in
    let v = c.args.values.now in
    let home = homes_as c.requires.values_sized (LivesIn o.places b.places o.words.now b.words.now) c.check_homes.ensures (λ k b h. search (rules, tests)) in
    says_failed c.check_homes.result _ (ValsOk o.places b.places v.nodes.places o.words.now b.words.now v.nodes.words.now v.words.now) c.if-check_homes.false home (λ R. R.node)
