use Rattle.places.specs.Store.{blk, blocks_in}
use Rattle.context.proofs.Places.{place<}
use Rattle.context.proofs.Tags.{untagged}
use Rattle.context.proofs.Ending.{block_not_use, live₁, ended_plain}
use Rattle.context.proofs.basic_block.end_block.Goals as goal

pub detach-requires-clause-n_bound : goal.detach-requires-clause-n_bound
detach-requires-clause-n_bound c = place< c.requires.sound_store (blk, c.args.b) c.requires.can_end.live

pub finish-requires-clause-live : goal.finish-requires-clause-live
finish-requires-clause-live c = live₁ blocks_in c.args.b block_not_use c.requires.sound_store c.requires.can_end c.detach.ensures

pub finish-requires-clause-p_value : goal.finish-requires-clause-p_value
finish-requires-clause-p_value c = untagged _ _ blk c.args.b (λ h. elim h [ ])

pub returns : goal.returns
returns c = ended_plain blocks_in c.args.b block_not_use c.requires.sound_store c.requires.can_end c.detach.ensures c.finish.ensures
