use Rattle.std.proofs.Common.{arith}
use Rattle.linked_list.proofs.Index.{nth_home, before_nth, back_nth}
use Rattle.linked_list.proofs.Lists.insert_at.Goals as goal

pub insert_before-requires-clause-m_lt_nn : goal.insert_before-requires-clause-m_lt_nn
insert_before-requires-clause-m_lt_nn c =
    let within = rw c.count.ensures at c.if-i-count.true in
    ((nth_home c.requires.linked c.args.c c.args.i c.args.n c.requires.c_lt_nc.0 c.nth-m.result within c.nth-m.ensures).0, c.requires.c_lt_nc.1)

pub insert_before-requires-clause-nonzero : goal.insert_before-requires-clause-nonzero
insert_before-requires-clause-nonzero c =
    let within = rw c.count.ensures at c.if-i-count.true in
    omega (arith, (nth_home c.requires.linked c.args.c c.args.i c.args.n c.requires.c_lt_nc.0 c.nth-m.result within c.nth-m.ensures).1)

pub returns-then-i-count : goal.returns-then-i-count
returns-then-i-count c =
    let within = rw c.count.ensures at c.if-i-count.true in
    before_nth c.requires.linked c.args.c c.args.i c.args.n c.requires.c_lt_nc.0 c.nth-m.result within c.nth-m.ensures c.insert_before.ensures

pub returns-else-i-count : goal.returns-else-i-count
returns-else-i-count c =
    let past = rw c.count.ensures at c.if-i-count.false in
    back_nth c.requires.linked c.args.c c.args.i c.args.n c.requires.c_lt_nc.0 past c.insert_at_back.ensures
