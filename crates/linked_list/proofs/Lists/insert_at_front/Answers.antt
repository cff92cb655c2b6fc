use Rattle.std.proofs.Common.{add-one, zero-le}
use Rattle.linked_list.proofs.View.{ends, inserts_front}
use Rattle.linked_list.proofs.Getters.{head_stored}
use Rattle.linked_list.proofs.Lists.insert_at_front.Goals as goal

pub put_in-requires-clause-p_le_nn : goal.put_in-requires-clause-p_le_nn
put_in-requires-clause-p_le_nn c =
    let L = c.requires.linked in
    let R = L.row c.args.c c.requires.c_lt_nc.0 in
    (zero-le, rw (head_stored R c.get_head-q.ensures) (ends L c.args.c c.requires.c_lt_nc.0).head≤)

pub returns : goal.returns
returns c =
    let L = c.requires.linked in
    let R = L.row c.args.c c.requires.c_lt_nc.0 in
    rw (c.put_in.ensures, head_stored R c.get_head-q.ensures, add-one c.args.c)
    (inserts_front L c.args.n c.requires.c_lt_nc.1 c.requires.n_value c.args.c c.requires.c_lt_nc.0)
