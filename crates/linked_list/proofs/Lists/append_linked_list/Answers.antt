use Rattle.std.proofs.Common.{arith, sym, ◌∙◌}
use Rattle.linked_list.proofs.Moves.{mover, moved_more, moved_all}
use Rattle.linked_list.proofs.Lists.append_linked_list.Goals as goal

pub unlink-requires-clause-n_lt_nn : goal.unlink-requires-clause-n_lt_nn
unlink-requires-clause-n_lt_nn c =
    let (to, from, apart) = c.requires.donee_lt_nc in
    let first = sym c.get_head.ensures ∙ c.in-Some.is in
    (mover to from apart c.loop-n.invariant c.in-Some.n first).0

pub unlink-requires-clause-nonzero : goal.unlink-requires-clause-nonzero
unlink-requires-clause-nonzero c =
    let (to, from, apart) = c.requires.donee_lt_nc in
    let first = sym c.get_head.ensures ∙ c.in-Some.is in
    omega (arith, (mover to from apart c.loop-n.invariant c.in-Some.n first).1)

pub insert_at_back-requires-clause-c_lt_nc : goal.insert_at_back-requires-clause-c_lt_nc
insert_at_back-requires-clause-c_lt_nc c =
    let (to, from, apart) = c.requires.donee_lt_nc in
    let first = sym c.get_head.ensures ∙ c.in-Some.is in
    (to, (mover to from apart c.loop-n.invariant c.in-Some.n first).0)

pub loop-n-smaller : goal.loop-n-smaller
loop-n-smaller c =
    let (to, from, apart) = c.requires.donee_lt_nc in
    let first = sym c.get_head.ensures ∙ c.in-Some.is in
    (moved_more to from apart c.loop-n.invariant c.in-Some.n first c.unlink.ensures c.insert_at_back.ensures).1

pub loop-n-preserved : goal.loop-n-preserved
loop-n-preserved c =
    let (to, from, apart) = c.requires.donee_lt_nc in
    let first = sym c.get_head.ensures ∙ c.in-Some.is in
    (moved_more to from apart c.loop-n.invariant c.in-Some.n first c.unlink.ensures c.insert_at_back.ensures).0

pub returns : goal.returns
returns c =
    let (to, from, apart) = c.requires.donee_lt_nc in
    moved_all to from apart c.loop-n.invariant c.requires.linked.count (sym c.get_head.ensures ∙ c.in_default.is)
