use Rattle.places.specs.Store.{op}
use Rattle.context.proofs.Places.{place<}
use Rattle.context.proofs.ValueLaws.{no_home, borne_region}
use Rattle.context.proofs.region.birth_region.Goals as goal

pub enter_back-requires-clause-k_bound : goal.enter_back-requires-clause-k_bound
enter_back-requires-clause-k_bound c = (place< c.requires.sound_store (op, c.args.o) c.requires.can_hold.home, c.bear-p.ensures.room)

pub enter_back-requires-clause-f_value : goal.enter_back-requires-clause-f_value
enter_back-requires-clause-f_value c = no_home c.args.o c.requires.sound_store c.requires.can_hold c.bear-p.result c.bear-p.ensures

pub returns : goal.returns
returns c = borne_region c.args.o c.requires.sound_store c.requires.can_hold c.bear-p.result c.bear-p.ensures c.enter_back.ensures
