use Rattle.std.proofs.lemmas.Result.{err_from_is_err_and}
use Rattle.edit.specs.Kinds.{member_of}
use Rattle.edit.specs.Record.{link_before}
use Rattle.links.proofs.Sorts.{member<, can_stand}
use Rattle.links.proofs.Performing.{refused, before_done}
use Rattle.links.proofs.link_before.Goals as goal

pub returns-in_err-n : goal.returns-in_err-n
returns-in_err-n c =
    let p = err_from_is_err_and c.from_residual.result c.from_residual.ensures.1 in
    rw (p.1, p.2) (refused c.requires (link_before (member_of c.args.w) c.args.x c.args.mark) c.in_err-n.field-0.0 c.in_err-n.ensures.second)

pub link_before-requires-clause-n_bound : goal.link_before-requires-clause-n_bound
link_before-requires-clause-n_bound c = member< (member_of c.args.w) c.args.l c.requires c.in_ok-n.n c.in_ok-n.ensures.may.live

pub link_before-requires-clause-can_link_by : goal.link_before-requires-clause-can_link_by
link_before-requires-clause-can_link_by c = can_stand (member_of c.args.w) c.args.l c.args.m.now c.args.x c.in_ok-n.n c.in_ok-n.k c.in_ok-n.ensures.container c.in_ok-n.ensures.may c.in_ok-n.ensures.there

pub returns : goal.returns
returns c = before_done c.requires (member_of c.args.w) c.args.x c.args.mark c.in_ok-n.n c.in_ok-n.k c.in_ok-n.ensures c.link_before.ensures
