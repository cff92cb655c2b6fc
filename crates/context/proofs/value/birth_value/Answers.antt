use Rattle.std.proofs.Common.{arith}
use Rattle.context.proofs.Books.{borne_live}
use Rattle.context.proofs.Making.{no_list, borne_value}
use Rattle.context.proofs.value.birth_value.Goals as goal

pub put_type-requires-clause-may_tag : goal.put_type-requires-clause-may_tag
put_type-requires-clause-may_tag c = λ z. absurd (omega (arith, z, borne_live c.bear-p.ensures))

pub enter_at-requires-clause-f_value : goal.enter_at-requires-clause-f_value
enter_at-requires-clause-f_value c = no_list c.args.k c.args.i c.args.t c.requires.sound_store c.requires.can_bear_value c.bear-p.result c.bear-p.ensures c.put_type.ensures

pub returns : goal.returns
returns c = borne_value c.args.k c.args.i c.args.t c.requires.sound_store c.requires.can_bear_value c.bear-p.result c.bear-p.ensures c.put_type.ensures c.enter_at.ensures
