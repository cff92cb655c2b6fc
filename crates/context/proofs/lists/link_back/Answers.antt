use Rattle.context.proofs.Linking.{linked_last}
use Rattle.context.proofs.lists.link_back.Goals as goal

pub returns : goal.returns
returns c = linked_last c.requires.sound_store c.args.w c.from.ensures c.requires.can_link_to c.enter_back.ensures
