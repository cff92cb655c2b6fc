use mathlib.Core.Path.{refl, ◌∙◌}
use Rattle.walk.proofs.EndValues.{ending, value_unused, values_less, value_turn, values_ended}
use Rattle.walk.proofs.end_values.Goals as goal

pub loop-v-init : goal.loop-v-init
loop-v-init c = (ending c.requires, refl)

pub end_value-requires-clause-unused : goal.end_value-requires-clause-unused
end_value-requires-clause-unused c = value_unused c.loop-v.invariant.0 c.first_of.ensures c.in-Some.is

pub loop-v-smaller : goal.loop-v-smaller
loop-v-smaller c = values_less c.loop-v.invariant.0 c.first_of.ensures c.in-Some.is c.end_value.ensures

pub loop-v-preserved : goal.loop-v-preserved
loop-v-preserved c = (value_turn c.loop-v.invariant.0 c.first_of.ensures c.in-Some.is c.end_value.ensures, c.end_value.auto.m ∙ c.loop-v.invariant.1)

pub returns : goal.returns
returns c = values_ended c.loop-v.invariant.0 c.first_of.ensures c.in_default.is
