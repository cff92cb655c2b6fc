use Rattle.std.proofs.Common.{rules, tests, ◌<◌}
use Rattle.seqs.proofs.Says.{says_map, says_yes}
use Rattle.table.specs.Table.{stamp}
use Rattle.sound_parts.proofs.Loops.{homes_as, says_failed}
use Rattle.sound_parts.proofs.check_placed.Goals as goal

pub returns-then-check_homes : goal.returns-then-check_homes
returns-then-check_homes c =
    let e = c.args.nest.now in
    let b = e.blocks.nodes in
    let r = e.regions.nodes in
    let ops = homes_as e.in_blocks (λ k. 0 < stamp b.places b.words.now k) c.check_homes.ensures (λ k b h. search (rules, tests)) in
    let blocks = homes_as e.in_regions (λ k. 0 < stamp r.places r.words.now k) c.check_homes-then-check_homes.ensures (λ k b h. search (rules, tests)) in
    says_map c.check_homes-then-check_homes.result (λ y. (says_yes c.check_homes.result _ c.if-check_homes.true ops, y)) (λ z. z.1) blocks

pub returns-else-check_homes : goal.returns-else-check_homes
returns-else-check_homes c =
    let e = c.args.nest.now in
    let b = e.blocks.nodes in
    let ops = homes_as e.in_blocks (λ k. 0 < stamp b.places b.words.now k) c.check_homes.ensures (λ k b h. search (rules, tests)) in
    says_failed c.check_homes.result _ _ c.if-check_homes.false ops (λ z. z.0)
