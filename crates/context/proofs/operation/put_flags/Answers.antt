use Rattle.context.specs.Layout.{flags}
use Rattle.context.proofs.Tags.{tagged}
use Rattle.context.proofs.operation.put_flags.Goals as goal

pub returns : goal.returns
returns c = tagged flags c.requires.well c.flags_at.ensures c.args.p c.args.v c.requires.p_lt_ops c.requires.may_tag
