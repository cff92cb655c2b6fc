use Rattle.std.proofs.Common.{refl}
use Rattle.context.proofs.Checking.{head_read}
use Rattle.context.proofs.layout_of.Goals as goal

pub returns : goal.returns
returns c = head_read _ c.args.m.now c.requires refl refl refl refl refl
