use Rattle.std.proofs.lemmas.Result.{err_from_is_err_and}
use Rattle.edit.specs.Record.{move_region}
use Rattle.places.specs.Store.{reg}
use Rattle.context.proofs.Places.{place<}
use Rattle.links.proofs.Performing.{refused}
use Rattle.links.proofs.Moving.{same_yes, same_no, other_by, same_by, move_nothing, may_go, moved_away}
use Rattle.links.proofs.move_region.Goals as goal

pub returns-in_err-n : goal.returns-in_err-n
returns-in_err-n c =
    let p = err_from_is_err_and c.from_residual.result c.from_residual.ensures.1 in
    rw (p.1, p.2) (refused c.requires (move_region c.args.r c.args.o) c.in_err-n.field-0.0 c.in_err-n.ensures)

pub home_of-requires : goal.home_of-requires
home_of-requires c = place< c.requires (reg, c.in_ok-n.n) c.in_ok-n.ensures.live

pub move_region-requires-clause-can_move_region : goal.move_region-requires-clause-can_move_region
move_region-requires-clause-can_move_region c = may_go c.requires c.args.r c.args.o c.in_ok-n.n c.in_ok-n.k c.in_ok-n.ensures c.home_of.result c.home_of.ensures (same_no c.home_of.result c.in_ok-n.k (other_by _ c.if-ne.ensures))

pub returns-then-ne : goal.returns-then-ne
returns-then-ne c = moved_away c.requires c.args.r c.args.o c.in_ok-n.n c.in_ok-n.k c.in_ok-n.ensures c.home_of.result c.home_of.ensures (same_no c.home_of.result c.in_ok-n.k (other_by _ c.if-ne.ensures)) c.move_region.ensures

pub returns-else-ne : goal.returns-else-ne
returns-else-ne c = move_nothing c.requires c.args.r c.args.o c.in_ok-n.n c.in_ok-n.k c.in_ok-n.ensures c.home_of.result c.home_of.ensures (same_yes c.home_of.result c.in_ok-n.k (same_by _ c.if-ne.ensures))
