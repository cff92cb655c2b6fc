use Rattle.context.specs.Layout.{types}
use Rattle.context.proofs.Tags.{tag_read}
use Rattle.context.proofs.value.type_of.Goals as goal

pub returns : goal.returns
returns c = tag_read types c.requires.well c.types_at.ensures c.args.p c.requires.p_lt_values
