use Rattle.places.specs.Store.{op, ops_in}
use Rattle.context.proofs.Places.{place<}
use Rattle.context.proofs.Tags.{still_live, tag_now}
use Rattle.context.proofs.Ending.{op_not_use, live₁, ended_flags}
use Rattle.context.proofs.operation.end_operation.Goals as goal

pub detach-requires-clause-n_bound : goal.detach-requires-clause-n_bound
detach-requires-clause-n_bound c = place< c.requires.sound_store (op, c.args.o) c.requires.can_end.live

pub put_flags-requires-clause-p_lt_ops : goal.put_flags-requires-clause-p_lt_ops
put_flags-requires-clause-p_lt_ops c = place< c.requires.sound_store (op, c.args.o) c.requires.can_end.live

pub finish-requires-clause-live : goal.finish-requires-clause-live
finish-requires-clause-live c = still_live c.put_flags.ensures (live₁ ops_in c.args.o op_not_use c.requires.sound_store c.requires.can_end c.detach.ensures)

pub finish-requires-clause-p_value : goal.finish-requires-clause-p_value
finish-requires-clause-p_value c = tag_now c.put_flags.ensures

pub returns : goal.returns
returns c = ended_flags ops_in c.args.o op_not_use c.requires.sound_store c.requires.can_end c.detach.ensures c.put_flags.ensures c.finish.ensures
