use Rattle.uses.proofs.Taking.{nth_live}
use Rattle.uses.proofs.take_use.Goals as goal

pub definition_number-n-requires : goal.definition_number-n-requires
definition_number-n-requires c = nth_live c.requires.sound_store c.nth_of-u.ensures

pub end_use-requires-clause-live : goal.end_use-requires-clause-live
end_use-requires-clause-live c = nth_live c.requires.sound_store c.nth_of-u.ensures
