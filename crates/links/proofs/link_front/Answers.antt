use Rattle.std.proofs.lemmas.Result.{err_from_is_err_and}
use Rattle.edit.specs.Kinds.{member_of}
use Rattle.edit.specs.Record.{link_front}
use Rattle.links.proofs.Sorts.{member<, container<, can_link}
use Rattle.links.proofs.Performing.{refused, front_done}
use Rattle.links.proofs.link_front.Goals as goal

pub returns-in_err-n : goal.returns-in_err-n
returns-in_err-n c =
    let p = err_from_is_err_and c.from_residual.result c.from_residual.ensures.1 in
    rw (p.1, p.2) (refused c.requires (link_front (member_of c.args.w) c.args.x c.args.c) c.in_err-n.field-0.0 c.in_err-n.ensures.first)

pub link_front-requires-clause-k_bound : goal.link_front-requires-clause-k_bound
link_front-requires-clause-k_bound c =
    (container< (member_of c.args.w) c.args.l c.requires c.in_ok-n.k c.in_ok-n.ensures.may.home, member< (member_of c.args.w) c.args.l c.requires c.in_ok-n.n c.in_ok-n.ensures.may.live)

pub link_front-requires-clause-can_link_to : goal.link_front-requires-clause-can_link_to
link_front-requires-clause-can_link_to c = can_link (member_of c.args.w) c.args.l c.args.m.now c.args.x c.in_ok-n.n c.in_ok-n.k c.in_ok-n.ensures.may

pub returns : goal.returns
returns c = front_done c.requires (member_of c.args.w) c.args.x c.args.c c.in_ok-n.n c.in_ok-n.k c.in_ok-n.ensures c.link_front.ensures
