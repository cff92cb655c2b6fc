use Rattle.context.proofs.UseLaws.{no_slot, no_set, borne_use}
use Rattle.context.proofs.value.birth_use.Goals as goal

pub enter_at-requires-clause-f_value : goal.enter_at-requires-clause-f_value
enter_at-requires-clause-f_value c = no_slot c.args.s c.args.i c.args.d c.requires.sound_store c.requires.can_bear c.bear-u.result c.bear-u.ensures

pub enter_back-requires-clause-f_value : goal.enter_back-requires-clause-f_value
enter_back-requires-clause-f_value c = no_set c.args.s c.args.i c.args.d c.requires.sound_store c.requires.can_bear c.bear-u.result c.bear-u.ensures c.enter_at.ensures

pub returns : goal.returns
returns c = borne_use c.args.s c.args.i c.args.d c.requires.sound_store c.requires.can_bear c.bear-u.result c.bear-u.ensures c.enter_at.ensures c.enter_back.ensures
