use Rattle.context.proofs.Linking.{linked_by}
use Rattle.context.proofs.lists.link_after.Goals as goal

pub returns : goal.returns
returns c = linked_by c.requires.sound_store c.args.w c.from.ensures c.requires.can_link_by c.enter_after.ensures
