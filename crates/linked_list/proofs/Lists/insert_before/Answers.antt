use Rattle.std.proofs.Common.{add-one}
use Rattle.linked_list.specs.Links.{container}
use Rattle.linked_list.proofs.View.{ranges, inserts_before}
use Rattle.linked_list.proofs.Getters.{held_is, container_is, prev_stored}
use Rattle.linked_list.proofs.Lists.insert_before.Goals as goal

pub unwrap-c-requires : goal.unwrap-c-requires
unwrap-c-requires c = held_is c.requires.linked c.args.m c.requires.m_lt_nn.0 c.get_container.ensures.container c.requires.nonzero

pub put_in-requires-clause-c_lt_nc : goal.put_in-requires-clause-c_lt_nc
put_in-requires-clause-c_lt_nc c =
    let L = c.requires.linked in
    let m = c.args.m in
    let m< = c.requires.m_lt_nn.0 in
    rw (container_is L m m< c.get_container.ensures.container c.unwrap-c.ensures) (ranges L m m< c.requires.nonzero).c<

pub put_in-requires-clause-p_le_nn : goal.put_in-requires-clause-p_le_nn
put_in-requires-clause-p_le_nn c =
    let L = c.requires.linked in
    let m = c.args.m in
    let m< = c.requires.m_lt_nn.0 in
    (rw (prev_stored L m m< c.get_prev-p.ensures) (ranges L m m< c.requires.nonzero).prev≤, m<)

pub returns : goal.returns
returns c =
    let L = c.requires.linked in
    let m = c.args.m in
    let m< = c.requires.m_lt_nn.0 in
    rw (c.put_in.ensures, prev_stored L m m< c.get_prev-p.ensures, container_is L m m< c.get_container.ensures.container c.unwrap-c.ensures, add-one (container c.args.self.nc c.args.self.nn c.args.s.now m))
    (inserts_before L c.args.n c.requires.m_lt_nn.1 c.requires.n_value m m< c.requires.nonzero)
