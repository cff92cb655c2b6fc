use Rattle.std.proofs.Common.{arith}
use Rattle.context.proofs.Books.{borne_live}
use Rattle.context.proofs.OpLaws.{borne_op}
use Rattle.context.proofs.operation.birth_op.Goals as goal

pub put_flags-requires-clause-may_tag : goal.put_flags-requires-clause-may_tag
put_flags-requires-clause-may_tag c = λ z. absurd (omega (arith, z, borne_live c.bear-p.ensures))

pub returns : goal.returns
returns c = borne_op c.args.flags c.bear-p.result c.requires.sound_store c.requires.flags_bound c.bear-p.ensures c.put_flags.ensures
