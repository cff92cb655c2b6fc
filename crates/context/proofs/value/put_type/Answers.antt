use Rattle.context.specs.Layout.{types}
use Rattle.context.proofs.Tags.{tagged}
use Rattle.context.proofs.value.put_type.Goals as goal

pub returns : goal.returns
returns c = tagged types c.requires.well c.types_at.ensures c.args.p c.args.v c.requires.p_lt_values c.requires.may_tag
