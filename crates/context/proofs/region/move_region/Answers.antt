use Rattle.places.specs.Store.{op, reg}
use Rattle.context.proofs.Places.{place<}
use Rattle.context.proofs.Moving.{alone, moved_region}
use Rattle.context.proofs.region.move_region.Goals as goal

pub enter_back-requires-clause-k_bound : goal.enter_back-requires-clause-k_bound
enter_back-requires-clause-k_bound c = (place< c.requires.sound_store (op, c.args.o) c.requires.can_move_region.home, place< c.requires.sound_store (reg, c.args.r) c.requires.can_move_region.live)

pub enter_back-requires-clause-f_value : goal.enter_back-requires-clause-f_value
enter_back-requires-clause-f_value c = alone c.args.r c.args.o c.requires.sound_store c.requires.can_move_region c.swap_out.ensures

pub returns : goal.returns
returns c = moved_region c.args.r c.args.o c.requires.sound_store c.requires.can_move_region c.swap_out.ensures c.enter_back.ensures
