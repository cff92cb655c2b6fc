-- The limits of a new operation: its flags, or one of its counts. Assumes nothing.
use mathlib.Core.Path.{refl, sym, ◌∙◌}
use native.Mathlib.Omega.{arith}
use Rattle.std.proofs.Common.{ltb, get_or, rules, tests}
use Rattle.std.proofs.lemmas.Bool.{lt-ltb}
use Rattle.std.proofs.lemmas.Iterator.{YieldsList-from_range}
use Rattle.std.proofs.lemmas.Iterator.Search.{any_from_yields_List}
use Rattle.edit.specs.Taken.{fields_of}
use Rattle.edit.proofs.Limits.{flags_over, flags_within}
use Rattle.edit.proofs.counts_over.Goals as goal

pub returns-then-field-gt3 : goal.returns-then-field-gt3
returns-then-field-gt3 c = lt-ltb 3 c.field.result c.if-field-gt3.true ∙ sym (flags_over (fields_of c.args.rec.now) (omega arith))

pub returns-else-field-gt3 : goal.returns-else-field-gt3
returns-else-field-gt3 c =
    let fs = fields_of c.args.rec.now in
    let any = any_from_yields_List (λ i. ltb 64 (get_or fs i 0)) _ _ _ c.any.ensures.ran (YieldsList-from_range 1 5 4 refl refl) (λ x b q k. search (rules, tests)) in
    any ∙ sym (flags_within fs (omega arith))
