-- Refusal 4, by the kinds that have a limit. Assumes nothing.
use mathlib.Core.Path.{sym, ap, ◌∙◌}
use mathlib.Core.Logic.{inl, inr}
use lib.Dec.{ltb}
use Rattle.edit.specs.Kinds.{kind_number}
use Rattle.edit.specs.Taken.{fields_of}
use Rattle.edit.specs.Record.{over}
use Rattle.edit.specs.declared.Kind.{Kind}
use Rattle.edit.proofs.Limits.{types_over, uses_over, blocks_over, over_none}
use Rattle.edit.proofs.is_over.Goals as goal

pub returns-in-NewBlock : goal.returns-in-NewBlock
returns-in-NewBlock c =
    let fs = fields_of c.args.rec.now in
    ap (ltb 64) c.field.ensures ∙ sym (ap (λ (k : Kind). over fs (kind_number k)) c.in-NewBlock.is ∙ types_over fs)

pub returns-in-ReplaceSome : goal.returns-in-ReplaceSome
returns-in-ReplaceSome c =
    let fs = fields_of c.args.rec.now in
    ap (ltb 258) c.field_count.ensures ∙ elim c.in-ReplaceSome.is [
      | inl is ↦ sym (ap (λ (k : Kind). over fs (kind_number k)) is ∙ uses_over fs)
      | inr is ↦ sym (ap (λ (k : Kind). over fs (kind_number k)) is ∙ blocks_over fs)
    ]

pub returns-in_default : goal.returns-in_default
returns-in_default c =
    let other = c.in_default in
    sym (over_none (fields_of c.args.rec.now) c.args.kind other.not-NewOperation other.not-NewBlock other.not-ReplaceSome other.not-RetargetSome)
