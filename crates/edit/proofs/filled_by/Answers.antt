-- How many fields fill a record, by the kinds that list. Assumes nothing.
use mathlib.Core.Path.{◌≡◌, sym, ap, ◌∙◌}
use mathlib.Core.Logic.{inl, inr}
use Prim.Native.Nat.{ℕ, ◌-◌}
use native.Mathlib.Omega.{arith}
use lib.ListN.{get_or}
use Rattle.edit.specs.Kinds.{kind_number}
use Rattle.edit.specs.Record.{least, filled}
use Rattle.edit.specs.Taken.{fields_of}
use Rattle.edit.specs.declared.Kind.{Kind}
use Rattle.edit.specs.declared.Kind.TheVariants.{NewOperation, NewBlock}
use Rattle.edit.proofs.Limits.{filled_operation, filled_block, filled_uses, filled_blocks, filled_fixed}
use Rattle.edit.proofs.filled_by.Goals as goal

-- the table's entries of the two kinds that make
five : (fixed : ℕ) (k : Kind) → k ≡ NewOperation → fixed ≡ get_or least (kind_number k - 1) 0 → fixed ≡ 5
unfolding least
five fixed k e is = is ∙ ap (λ (x : Kind). get_or least (kind_number x - 1) 0) e

one : (fixed : ℕ) (k : Kind) → k ≡ NewBlock → fixed ≡ get_or least (kind_number k - 1) 0 → fixed ≡ 1
unfolding least
one fixed k e is = is ∙ ap (λ (x : Kind). get_or least (kind_number x - 1) 0) e

pub overflow_add-result : goal.overflow_add-result
overflow_add-result c = omega (arith, five _ _ c.in-NewOperation.is c.requires)

pub overflow_add-result-in-NewOperation : goal.overflow_add-result-in-NewOperation
overflow_add-result-in-NewOperation c = omega (arith, five _ _ c.in-NewOperation.is c.requires)

pub overflow_add-result-in-NewOperation-2 : goal.overflow_add-result-in-NewOperation-2
overflow_add-result-in-NewOperation-2 c = omega (arith, five _ _ c.in-NewOperation.is c.requires)

pub overflow_add-result-in-NewBlock : goal.overflow_add-result-in-NewBlock
overflow_add-result-in-NewBlock c = omega (arith, one _ _ c.in-NewBlock.is c.requires)

pub returns-in-NewOperation : goal.returns-in-NewOperation
returns-in-NewOperation c =
    let fs = fields_of c.args.rec.now in
    omega (arith, five _ _ c.in-NewOperation.is c.requires, filled_operation fs, ap (λ (k : Kind). filled fs (kind_number k)) c.in-NewOperation.is)

pub returns-in-NewBlock : goal.returns-in-NewBlock
returns-in-NewBlock c =
    let fs = fields_of c.args.rec.now in
    omega (arith, one _ _ c.in-NewBlock.is c.requires, filled_block fs, ap (λ (k : Kind). filled fs (kind_number k)) c.in-NewBlock.is)

pub returns-in-ReplaceSome : goal.returns-in-ReplaceSome
returns-in-ReplaceSome c =
    let fs = fields_of c.args.rec.now in
    c.field_count.ensures ∙ elim c.in-ReplaceSome.is [
      | inl is ↦ sym (ap (λ (k : Kind). filled fs (kind_number k)) is ∙ filled_uses fs)
      | inr is ↦ sym (ap (λ (k : Kind). filled fs (kind_number k)) is ∙ filled_blocks fs)
    ]

pub returns-in_default : goal.returns-in_default
returns-in_default c =
    let other = c.in_default in
    c.requires ∙ sym (filled_fixed (fields_of c.args.rec.now) c.args.kind other.not-NewOperation other.not-NewBlock other.not-ReplaceSome other.not-RetargetSome)
