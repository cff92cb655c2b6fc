-- Refusals 2 to 4 in their order, or the kind of the edit. Assumes nothing.
use mathlib.Core.Path.{◌≡◌, sym, ap, subst, ◌∙◌}
use Prim.Native.Nat.{ℕ, ◌-◌}
use native.Mathlib.Omega.{arith}
use lib.ListN.{get_or}
use Rattle.std.proofs.Common.{Result, Ok, Err}
use Rattle.std.proofs.lemmas.Result.{err_from_is_err_and}
use Rattle.edit.specs.Kinds.{kind_number, Names}
use Rattle.edit.specs.Record.{least}
use Rattle.edit.specs.Taken.{Taken}
use Rattle.edit.specs.declared.Refusal.{Refusal}
use Rattle.edit.specs.declared.Kind.{Kind}
use Rattle.edit.proofs.Numbers.{kind_number-from, kind_number-to}
use Rattle.edit.proofs.Limits.{unknown, too_few, over_limit, not_full, asks_edit}
use Rattle.edit.proofs.read_record.Goals as goal

-- what the number that was read names, the bytes name
named : (r : Result Kind Refusal) {n m : ℕ} → n ≡ m → Names n r → Names m r
named r = subst (λ (x : ℕ). Names x r)

pub returns-in_err-kind : goal.returns-in_err-kind
returns-in_err-kind c =
    let p = err_from_is_err_and c.from_residual.result c.from_residual.ensures.1 in
    subst (Taken c.args.rec.now) (sym (p.1 ∙ ap Err p.2)) (unknown _ _ (named _ c.kind_of-number.ensures c.in_err-kind.ensures))

pub least_fields-fixed-requires-clause-le_kind : goal.least_fields-fixed-requires-clause-le_kind
unfolding Names
least_fields-fixed-requires-clause-le_kind c = omega (arith, kind_number-from c.in_ok-kind.kind, c.in_ok-kind.ensures)

pub least_fields-fixed-requires-clause-kind_bound : goal.least_fields-fixed-requires-clause-kind_bound
unfolding Names
least_fields-fixed-requires-clause-kind_bound c = omega (arith, kind_number-to c.in_ok-kind.kind, c.in_ok-kind.ensures)

-- the table's entry by the kind, for the entry by the number that was read
entry : {fixed : ℕ} (n : ℕ) (k : Kind) → fixed ≡ get_or least (n - 1) 0 → Names n (Ok k) → fixed ≡ get_or least (kind_number k - 1) 0
unfolding Names
entry n k f e = f ∙ ap (λ (x : ℕ). get_or least (x - 1) 0) (sym e)

pub returns-then-count-fixed : goal.returns-then-count-fixed
returns-then-count-fixed c =
    let k = c.in_ok-kind in
    let fixed = entry _ _ c.least_fields-fixed.ensures k.ensures in
    too_few _ k.kind (named _ c.kind_of-number.ensures k.ensures) (omega arith)

pub returns-then-is_over : goal.returns-then-is_over
returns-then-is_over c =
    let k = c.in_ok-kind in
    let fixed = entry _ _ c.least_fields-fixed.ensures k.ensures in
    over_limit _ k.kind (named _ c.kind_of-number.ensures k.ensures) (omega arith) (sym c.is_over.ensures ∙ c.if-is_over.true)

pub filled_by-requires : goal.filled_by-requires
filled_by-requires c = entry _ _ c.least_fields-fixed.ensures c.in_ok-kind.ensures

pub returns-then-count-filled_by : goal.returns-then-count-filled_by
returns-then-count-filled_by c =
    let k = c.in_ok-kind in
    let fixed = entry _ _ c.least_fields-fixed.ensures k.ensures in
    not_full _ k.kind (named _ c.kind_of-number.ensures k.ensures) (omega arith) (sym c.is_over.ensures ∙ c.if-is_over.false) (λ e. c.if-count-filled_by.true (omega arith))

pub returns : goal.returns
returns c =
    let k = c.in_ok-kind in
    let fixed = entry _ _ c.least_fields-fixed.ensures k.ensures in
    asks_edit _ k.kind (named _ c.kind_of-number.ensures k.ensures) (omega arith) (sym c.is_over.ensures ∙ c.if-is_over.false) (omega arith)
