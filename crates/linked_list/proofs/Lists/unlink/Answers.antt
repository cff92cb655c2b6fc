use Rattle.linked_list.proofs.View.{ranges, unlinks}
use Rattle.linked_list.proofs.Getters.{held_is, container_is, prev_stored, next_stored}
use Rattle.linked_list.proofs.Lists.unlink.Goals as goal

pub unwrap-c-requires : goal.unwrap-c-requires
unwrap-c-requires c = held_is c.requires.linked c.args.n c.requires.n_lt_nn c.get_container.ensures.container c.requires.nonzero

pub take_out-requires-clause-c_lt_nc : goal.take_out-requires-clause-c_lt_nc
take_out-requires-clause-c_lt_nc c =
    let L = c.requires.linked in
    let n = c.args.n in
    let n< = c.requires.n_lt_nn in
    rw (container_is L n n< c.get_container.ensures.container c.unwrap-c.ensures) (ranges L n n< c.requires.nonzero).c<

pub take_out-requires-clause-p_le_nn : goal.take_out-requires-clause-p_le_nn
take_out-requires-clause-p_le_nn c =
    let L = c.requires.linked in
    let n = c.args.n in
    let n< = c.requires.n_lt_nn in
    let r = ranges L n n< c.requires.nonzero in
    (rw (prev_stored L n n< c.get_prev-p.ensures) r.prev≤, rw (next_stored L n n< c.get_next-q.ensures) r.next≤)

pub returns : goal.returns
returns c =
    let L = c.requires.linked in
    let n = c.args.n in
    let n< = c.requires.n_lt_nn in
    rw (c.take_out.ensures, prev_stored L n n< c.get_prev-p.ensures, next_stored L n n< c.get_next-q.ensures, container_is L n n< c.get_container.ensures.container c.unwrap-c.ensures)
    (unlinks L n n< c.requires.nonzero)
