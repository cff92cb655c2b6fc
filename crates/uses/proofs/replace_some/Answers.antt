use mathlib.Core.Path.{refl}
use mathlib.Core.List.{[], ◌∷◌}
use lib.ListN.{get_or}
use Rattle.edit.specs.Record.{operand}
use Rattle.edit.specs.Taken.{fields_of}
use Rattle.rules.specs.Refusal.{named, definition_named}
use Rattle.context.proofs.Performing.{as_asked, passed_on}
use Rattle.uses.proofs.Moving.{lost_this, lost_other}
use Rattle.uses.proofs.Placing.{some_edit, replaced_some}
use Rattle.uses.proofs.replace_some.Goals as goal

pub returns-in_err-d : goal.returns-in_err-d
unfolding named definition_named
returns-in_err-d c = passed_on _ c.from_residual.ensures (as_asked (some_edit (fields_of c.args.rec.now) c.field.ensures refl) (lost_this c.requires _ operand (definition_named operand (get_or (fields_of c.args.rec.now) 1 0) ∷ []) refl c.in_err-d.ensures))

pub returns-in_err-e : goal.returns-in_err-e
unfolding named definition_named
returns-in_err-e c = passed_on _ c.from_residual-in_err-e.ensures (as_asked (some_edit (fields_of c.args.rec.now) c.field.ensures c.field-2.ensures) (lost_other c.requires _ _ refl c.in_ok-d.ensures c.in_err-e.ensures))

pub returns : goal.returns
returns c = as_asked (some_edit (fields_of c.args.rec.now) c.field.ensures c.field-2.ensures) (replaced_some c.requires c.in_ok-d.ensures c.in_ok-e.ensures c.place_listed.ensures)
