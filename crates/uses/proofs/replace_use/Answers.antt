use mathlib.Core.Path.{refl}
use native.Mathlib.Omega.{arith}
use Rattle.rules.specs.Refusal.{named}
use Rattle.context.proofs.Performing.{passed_on}
use Rattle.uses.proofs.Growing.{lost_op, lost_def}
use Rattle.uses.proofs.Taking.{nth_live}
use Rattle.uses.proofs.Replacing.{past_end, no_number, can_bear, replaced}
use Rattle.uses.proofs.replace_use.Goals as goal

pub returns-in_err-s : goal.returns-in_err-s
unfolding named
returns-in_err-s c = passed_on _ c.from_residual.ensures (lost_op c.requires _ _ refl c.in_err-s.ensures)

pub returns-in_err-d : goal.returns-in_err-d
unfolding named
returns-in_err-d c = passed_on _ c.from_residual-in_err-d.ensures (lost_def c.requires _ refl c.in_ok-s.ensures c.in_err-d.ensures)

pub returns-then-row_length-i : goal.returns-then-row_length-i
returns-then-row_length-i c = past_end c.requires c.in_ok-s.ensures c.in_ok-d.ensures c.row_length.ensures c.args.index c.if-row_length-i.true

pub returns-then-next_number : goal.returns-then-next_number
returns-then-next_number c = no_number c.requires c.in_ok-s.ensures c.in_ok-d.ensures c.row_length.ensures c.args.index c.if-row_length-i.false c.next_number.ensures (omega (arith, c.if-next_number.true))

pub end_use-requires-clause-live : goal.end_use-requires-clause-live
end_use-requires-clause-live c = nth_live c.requires c.nth_of-u.ensures

pub birth_use-requires-clause-can_bear : goal.birth_use-requires-clause-can_bear
birth_use-requires-clause-can_bear c = can_bear c.requires c.in_ok-s.ensures c.in_ok-d.ensures c.row_length.ensures c.args.index c.if-row_length-i.false c.next_number.ensures (omega (arith, c.if-next_number.false, c.next_number.type_inv)) c.nth_of-u.ensures c.end_use.ensures

pub returns : goal.returns
returns c = replaced c.requires c.in_ok-s.ensures c.in_ok-d.ensures c.row_length.ensures c.args.index c.if-row_length-i.false c.next_number.ensures (omega (arith, c.if-next_number.false, c.next_number.type_inv)) c.nth_of-u.ensures c.end_use.ensures c.birth_use.ensures
