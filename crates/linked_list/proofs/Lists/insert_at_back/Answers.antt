use Rattle.std.proofs.Common.{add-one, zero-le}
use Rattle.linked_list.proofs.View.{ends, inserts_back}
use Rattle.linked_list.proofs.Getters.{tail_stored}
use Rattle.linked_list.proofs.Lists.insert_at_back.Goals as goal

pub put_in-requires-clause-p_le_nn : goal.put_in-requires-clause-p_le_nn
put_in-requires-clause-p_le_nn c =
    let L = c.requires.linked in
    let R = L.row c.args.c c.requires.c_lt_nc.0 in
    (rw (tail_stored R c.get_tail-p.ensures) (ends L c.args.c c.requires.c_lt_nc.0).tail≤, zero-le)

pub returns : goal.returns
returns c =
    let L = c.requires.linked in
    let R = L.row c.args.c c.requires.c_lt_nc.0 in
    rw (c.put_in.ensures, tail_stored R c.get_tail-p.ensures, add-one c.args.c)
    (inserts_back L c.args.n c.requires.c_lt_nc.1 c.requires.n_value c.args.c c.requires.c_lt_nc.0)
