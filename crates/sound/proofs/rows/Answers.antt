use Rattle.std.proofs.Common.{refl, sym, ◌∙◌}
use Rattle.context.proofs.Thin as thin
use Rattle.sound.proofs.rows.Goals as goal

pub invariant_of-result : goal.invariant_of-result
invariant_of-result c = record { linked = ∣ thin.linked c.requires.well c.family_span-s.ensures ∣₁; sized = c.family_span-s.ensures.nodes ∙ sym c.requires.sized }

pub returns : goal.returns
returns c = record {
  lists = record { words = thin.seen c.requires.well c.family_span-s.ensures; lists = c.family_span-s.ensures.containers; nodes = c.family_span-s.ensures.nodes };
  nodes = (refl, refl);
}
