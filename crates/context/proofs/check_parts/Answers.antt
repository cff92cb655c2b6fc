use Rattle.std.proofs.Common.{rules, ◌≡◌, true}
use Rattle.places.specs.Store.{op, val}
use Rattle.context.specs.Layout.{flags, types}
use Rattle.context.specs.Checked.{TablesOk}
use Rattle.context.proofs.Begun.{a_store}
use Rattle.context.proofs.Checking.{well_says}
use Rattle.context.proofs.check_parts.Goals.{then-n-m, else-n-m}
use Rattle.context.proofs.check_parts.Goals as goal

pub spare_ok-requires-clause-has_tag : goal.spare_ok-requires-clause-has_tag
spare_ok-requires-clause-has_tag c = flags

pub spare_ok-requires-clause-table_ok : goal.spare_ok-requires-clause-table_ok
spare_ok-requires-clause-table_ok c =
    let T : TablesOk c.args.l c.args.m.now = search rules in
    T.all op

pub spare_ok-requires-then-spare_ok-clause-has_tag : goal.spare_ok-requires-then-spare_ok-clause-has_tag
spare_ok-requires-then-spare_ok-clause-has_tag c = types

pub spare_ok-requires-then-spare_ok-clause-table_ok : goal.spare_ok-requires-then-spare_ok-clause-table_ok
spare_ok-requires-then-spare_ok-clause-table_ok c =
    let families : c.if-tables_ok.value ≡ true = search rules in
    let tables : c.if-n-m.value ≡ true = search (rules, families) in
    let T : TablesOk c.args.l c.args.m.now = elim c.if-n-m.branch [ then-n-m w ↦ search (rules, tables) | else-n-m w ↦ search (rules, tables) ] in
    T.all val

pub returns-then-spare_ok : goal.returns-then-spare_ok
returns-then-spare_ok c =
    let w = a_store c.words_needed.ensures c.in-Some.is in
    well_says c.args.l c.args.m.now c.requires _ (search (rules, w.0, w.1))

pub returns-else-spare_ok : goal.returns-else-spare_ok
returns-else-spare_ok c =
    let w = a_store c.words_needed.ensures c.in-Some.is in
    well_says c.args.l c.args.m.now c.requires _ (search (rules, w.0, w.1))
