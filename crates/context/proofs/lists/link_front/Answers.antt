use Rattle.context.proofs.Linking.{linked_to}
use Rattle.context.proofs.lists.link_front.Goals as goal

pub returns : goal.returns
returns c = linked_to c.requires.sound_store c.args.w c.from.ensures c.requires.can_link_to c.enter_front.ensures
