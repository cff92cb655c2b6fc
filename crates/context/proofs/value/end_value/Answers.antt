use Rattle.places.specs.Store.{val}
use Rattle.context.proofs.Places.{place<}
use Rattle.context.proofs.Tags.{still_live, tag_now}
use Rattle.context.proofs.ValueLaws.{live₁, ended_value}
use Rattle.context.proofs.value.end_value.Goals as goal

pub put_type-requires-clause-p_lt_values : goal.put_type-requires-clause-p_lt_values
put_type-requires-clause-p_lt_values c = place< c.requires.sound_store (val, c.args.p) c.requires.unused.live

pub finish-requires-clause-live : goal.finish-requires-clause-live
finish-requires-clause-live c = still_live c.put_type.ensures (live₁ c.args.p c.requires.sound_store c.requires.unused c.leave.ensures)

pub finish-requires-clause-p_value : goal.finish-requires-clause-p_value
finish-requires-clause-p_value c = tag_now c.put_type.ensures

pub returns : goal.returns
returns c = ended_value c.args.p c.requires.sound_store c.requires.unused c.leave.ensures c.put_type.ensures c.finish.ensures
