use Rattle.places.specs.Store.{usg}
use Rattle.context.proofs.Tags.{untagged}
use Rattle.context.proofs.UseLaws.{in_set, live₂, ended}
use Rattle.context.proofs.value.end_use.Goals as goal

pub leave-requires-2-clause-stands : goal.leave-requires-2-clause-stands
leave-requires-2-clause-stands c = in_set c.args.u c.requires.sound_store c.requires.live c.leave.ensures

pub finish-requires-clause-live : goal.finish-requires-clause-live
finish-requires-clause-live c = live₂ c.args.u c.requires.sound_store c.requires.live c.leave.ensures c.leave-2.ensures

pub finish-requires-clause-p_value : goal.finish-requires-clause-p_value
finish-requires-clause-p_value c = untagged _ _ usg c.args.u (λ h. elim h [ ])

pub returns : goal.returns
returns c = ended c.args.u c.requires.sound_store c.requires.live c.leave.ensures c.leave-2.ensures c.finish.ensures
