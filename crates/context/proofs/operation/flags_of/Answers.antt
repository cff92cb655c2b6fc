use Rattle.context.specs.Layout.{flags}
use Rattle.context.proofs.Tags.{tag_read}
use Rattle.context.proofs.operation.flags_of.Goals as goal

pub returns : goal.returns
returns c = tag_read flags c.requires.well c.flags_at.ensures c.args.p c.requires.p_lt_ops
