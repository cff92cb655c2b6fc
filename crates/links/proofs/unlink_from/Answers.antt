use Rattle.std.proofs.lemmas.Result.{err_from_is_err_and}
use Rattle.edit.specs.Kinds.{member_of}
use Rattle.edit.specs.Record.{unlink}
use Rattle.edit.specs.declared.Refusal.TheVariants.{Unlinked}
use Rattle.context.specs.Kinds.{kind_of, fam_of}
use Rattle.context.specs.Memory.{state_of}
use Rattle.links.proofs.Sorts.{node<, member_live}
use Rattle.links.proofs.Performing.{refused, unlink_gone, unlink_16, unlink_can, unlink_done}
use Rattle.links.proofs.unlink_from.Goals as goal

pub returns-in_err-n : goal.returns-in_err-n
returns-in_err-n c =
    let p = err_from_is_err_and c.from_residual.result c.from_residual.ensures.1 in
    rw (p.1, p.2) (refused c.requires (unlink (member_of c.args.w) c.args.x) c.in_err-n.field-0.0 (unlink_gone c.requires (member_of c.args.w) c.args.x (kind_of c.from.result) c.in_err-n.field-0.0 c.in_err-n.ensures c.from.ensures))

pub home_of-requires : goal.home_of-requires
home_of-requires c = node< (member_of c.args.w) c.args.l (fam_of c.from-2.result) c.from-2.ensures c.in_ok-n.n c.requires (member_live (member_of c.args.w) (state_of c.args.l c.args.m.now) (kind_of c.from.result) c.args.x c.in_ok-n.n c.from.ensures c.in_ok-n.ensures).0

pub returns-then-is_none : goal.returns-then-is_none
returns-then-is_none c =
    refused c.requires (unlink (member_of c.args.w) c.args.x) Unlinked
    (unlink_16 c.requires (member_of c.args.w) c.args.x c.in_ok-n.n (member_live (member_of c.args.w) (state_of c.args.l c.args.m.now) (kind_of c.from.result) c.args.x c.in_ok-n.n c.from.ensures c.in_ok-n.ensures)
    (fam_of c.from-2.result) c.from-2.ensures c.home_of.result c.home_of.ensures c.if-is_none.ensures)

pub unlink-requires-clause-stands : goal.unlink-requires-clause-stands
unlink-requires-clause-stands c =
    unlink_can c.requires (member_of c.args.w) c.args.x c.in_ok-n.n (member_live (member_of c.args.w) (state_of c.args.l c.args.m.now) (kind_of c.from.result) c.args.x c.in_ok-n.n c.from.ensures c.in_ok-n.ensures)
    (fam_of c.from-2.result) c.from-2.ensures c.home_of.result c.home_of.ensures c.if-is_none.ensures

pub returns : goal.returns
returns c =
    unlink_done c.requires (member_of c.args.w) c.args.x c.in_ok-n.n (member_live (member_of c.args.w) (state_of c.args.l c.args.m.now) (kind_of c.from.result) c.args.x c.in_ok-n.n c.from.ensures c.in_ok-n.ensures)
    (fam_of c.from-2.result) c.from-2.ensures c.home_of.result c.home_of.ensures c.if-is_none.ensures c.unlink.ensures
