use Rattle.std.proofs.Common.{rules, tests, ◌<◌}
use Rattle.table.specs.Table.{stamp}
use Rattle.sound_parts.specs.Tests.{RegionsOk}
use Rattle.sound_parts.proofs.Loops.{homes_as, listed_as, says_last, says_failed}
use Rattle.sound_parts.proofs.check_regions.Goals as goal

pub returns-then-check_homes : goal.returns-then-check_homes
returns-then-check_homes c =
    let e = c.args.nest.now in
    let o = e.ops.nodes in
    let r = e.regions.nodes in
    let home = homes_as e.in_ops (λ k. 0 < stamp o.places o.words.now k) c.check_homes.ensures (λ k b h. search (rules, tests)) in
    says_last c.check_homes.result _ _ _ (RegionsOk o.places r.places o.words.now r.words.now e.regions.words.now) c.if-check_homes.true home (λ p q. record { node = p; must = q.0; short = q.1 }) (λ R. (R.must, R.short)) (listed_as e.regions.words.now r.words.now _ e.in_ops e.regions.sized (search rules))

pub returns-else-check_homes : goal.returns-else-check_homes
returns-else-check_homes c =
    let e = c.args.nest.now in
    let o = e.ops.nodes in
    let r = e.regions.nodes in
    let home = homes_as e.in_ops (λ k. 0 < stamp o.places o.words.now k) c.check_homes.ensures (λ k b h. search (rules, tests)) in
    says_failed c.check_homes.result _ (RegionsOk o.places r.places o.words.now r.words.now e.regions.words.now) c.if-check_homes.false home (λ R. R.node)
