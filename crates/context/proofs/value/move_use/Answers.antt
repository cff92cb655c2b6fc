use Rattle.places.specs.Store.{usg}
use Rattle.context.proofs.Places.{place<}
use Rattle.context.proofs.MovedUse.{alone, moved}
use Rattle.context.proofs.value.move_use.Goals as goal

pub enter_back-requires-clause-k_bound : goal.enter_back-requires-clause-k_bound
enter_back-requires-clause-k_bound c = (c.requires.k_bound, place< c.requires.sound_store (usg, c.args.u) c.requires.can_move.live)

pub enter_back-requires-clause-f_value : goal.enter_back-requires-clause-f_value
enter_back-requires-clause-f_value c = alone c.args.u c.args.k c.requires.sound_store c.requires.can_move c.leave.ensures

pub returns : goal.returns
returns c = moved c.args.u c.args.k c.requires.sound_store c.requires.can_move c.leave.ensures c.enter_back.ensures
