use Rattle.places.specs.Store.{reg, regs}
use Rattle.context.proofs.Places.{place<}
use Rattle.context.proofs.Tags.{untagged}
use Rattle.context.proofs.Ending.{region_not_use, live₁, ended_plain}
use Rattle.context.proofs.region.end_region.Goals as goal

pub detach-requires-clause-n_bound : goal.detach-requires-clause-n_bound
detach-requires-clause-n_bound c = place< c.requires.sound_store (reg, c.args.r) c.requires.can_end.live

pub finish-requires-clause-live : goal.finish-requires-clause-live
finish-requires-clause-live c = live₁ regs c.args.r region_not_use c.requires.sound_store c.requires.can_end c.detach.ensures

pub finish-requires-clause-p_value : goal.finish-requires-clause-p_value
finish-requires-clause-p_value c = untagged _ _ reg c.args.r (λ h. elim h [ ])

pub returns : goal.returns
returns c = ended_plain regs c.args.r region_not_use c.requires.sound_store c.requires.can_end c.detach.ensures c.finish.ensures
