use mathlib.Core.Path.{refl}
use mathlib.Core.List.{[], ◌∷◌}
use lib.ListN.{get_or, drop}
use Rattle.edit.specs.Record.{successor}
use Rattle.edit.specs.Taken.{fields_of}
use Rattle.rules.specs.Refusal.{named, definition_named}
use Rattle.places.specs.Store.{blk}
use Rattle.context.proofs.Places.{place<}
use Rattle.context.proofs.Performing.{as_asked, passed_on}
use Rattle.uses.proofs.Moving.{lost_this, lost_other}
use Rattle.uses.proofs.RetargetEdit.{retarget_edit, set_at, is_stray, same_block, retargeted}
use Rattle.uses.proofs.retarget_some.Goals as goal

pub returns-in_err-b : goal.returns-in_err-b
unfolding named definition_named
returns-in_err-b c = passed_on _ c.from_residual.ensures (as_asked (retarget_edit (fields_of c.args.rec.now) c.field.ensures refl) (lost_this c.requires _ successor (definition_named successor (get_or (fields_of c.args.rec.now) 1 0) ∷ []) refl c.in_err-b.ensures))

pub returns-in_err-e : goal.returns-in_err-e
unfolding named definition_named
returns-in_err-e c = passed_on _ c.from_residual-in_err-e.ensures (as_asked (retarget_edit (fields_of c.args.rec.now) c.field.ensures c.field-2.ensures) (lost_other c.requires _ _ refl (set_at c.in_ok-b.b c.in_ok-b.ensures c.use_set_of-d.ensures) c.in_err-e.ensures))

pub returns-then-stray_user : goal.returns-then-stray_user
returns-then-stray_user c =
    let fs = fields_of c.args.rec.now in
    as_asked (retarget_edit fs c.field.ensures c.field-2.ensures) (is_stray c.requires c.in_ok-b.b c.in_ok-b.ensures c.in_ok-e.ensures (drop 2 fs) c.stray_user.ensures c.if-stray_user.true)

pub use_set_of-d-requires-clause-p_bound : goal.use_set_of-d-requires-clause-p_bound
use_set_of-d-requires-clause-p_bound c = place< c.requires (blk, c.in_ok-b.b) c.in_ok-b.ensures.0

pub retarget_listed-requires-clause-between : goal.retarget_listed-requires-clause-between
retarget_listed-requires-clause-between c = record { this = c.field.result; other = c.field-2.result; from = set_at c.in_ok-b.b c.in_ok-b.ensures c.use_set_of-d.ensures; to = c.in_ok-e.ensures }

pub returns-then-d-e : goal.returns-then-d-e
returns-then-d-e c =
    let fs = fields_of c.args.rec.now in
    as_asked (retarget_edit fs c.field.ensures c.field-2.ensures) (retargeted c.requires c.in_ok-b.b c.in_ok-b.ensures c.in_ok-e.ensures (drop 2 fs) c.stray_user.ensures c.if-stray_user.false c.use_set_of-d.ensures c.retarget_listed.ensures)

pub returns-else-d-e : goal.returns-else-d-e
returns-else-d-e c =
    let fs = fields_of c.args.rec.now in
    as_asked (retarget_edit fs c.field.ensures c.field-2.ensures) (same_block c.requires c.in_ok-b.b c.in_ok-b.ensures c.in_ok-e.ensures (drop 2 fs) c.stray_user.ensures c.if-stray_user.false c.use_set_of-d.ensures c.if-d-e.false)
