use Rattle.context.proofs.Linking.{unlinked}
use Rattle.context.proofs.lists.unlink.Goals as goal

pub returns : goal.returns
returns c = unlinked c.requires.sound_store c.args.w c.from.ensures c.requires.stands c.leave.ensures
