use mathlib.Core.Path.{refl, subst}
use Rattle.rules.specs.Refusal.{named}
use Rattle.uses.specs.Some.{HeldIn}
use Rattle.context.proofs.Performing.{passed_on}
use Rattle.uses.proofs.Moving.{lost_this, lost_other, stays, no_use, moved}
use Rattle.uses.proofs.move_use_to.Goals as goal

pub returns-in_err-d : goal.returns-in_err-d
unfolding named
returns-in_err-d c = passed_on _ c.from_residual.ensures (lost_this c.requires _ _ _ refl c.in_err-d.ensures)

pub returns-in_err-e : goal.returns-in_err-e
unfolding named
returns-in_err-e c = passed_on _ c.from_residual-in_err-e.ensures (lost_other c.requires _ _ refl c.in_ok-d.ensures c.in_err-e.ensures)

pub returns-then-this-other : goal.returns-then-this-other
returns-then-this-other c = stays c.requires c.in_ok-d.ensures c.in_ok-e.ensures c.args.number c.if-this-other.true

pub returns-in_err-u : goal.returns-in_err-u
returns-in_err-u c =
    let h = c.in_err-u.ensures in
    passed_on _ c.from_residual-in_err-u.ensures (no_use c.requires c.in_ok-d.ensures c.in_ok-e.ensures c.args.number c.if-this-other.false _ c.held_in.ensures h.ok_part _ h.value)

pub returns : goal.returns
returns c = moved c.requires c.in_ok-d.ensures c.in_ok-e.ensures c.args.number c.if-this-other.false c.in_ok-u.u (subst (HeldIn c.args.l c.in_ok-d.d c.args.number c.args.m.now) c.in_ok-u.ensures.ok_part c.held_in.ensures) c.move_use.ensures
