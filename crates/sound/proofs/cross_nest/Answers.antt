use Rattle.std.proofs.Common.{sym, ap, ◌∙◌}
use Rattle.table.specs.Table.{count}
use Rattle.sound.proofs.Laws.{counted, flags_seen}
use Rattle.sound.proofs.cross_nest.Goals as goal

pub check_nest-requires-clause-alive : goal.check_nest-requires-clause-alive
check_nest-requires-clause-alive c = counted c.requires c.live_count-alive.result c.live_count-alive.ensures ∙ ap count (sym (c.rows.ensures.nodes.1 ∙ c.births-ops.ensures.words))

pub returns : goal.returns
returns c =
    let o = c.births-ops.ensures in
    let b = c.births-blocks.ensures in
    let r = c.births-regions.ensures in
    let x = c.rows.ensures in
    let y = c.rows-2.ensures in
    let z = c.rows-3.ensures in
    rw (flags_seen c.requires c.flags_at-at.result c.births-ops.result.places c.flags_at-at.ensures o.places, x.nodes.0, x.nodes.1, y.nodes.0, y.nodes.1, z.nodes.0, z.nodes.1, o.places, o.words, b.places, b.words, r.places, r.words, x.lists.words, y.lists.words, z.lists.words) at c.check_nest.ensures
