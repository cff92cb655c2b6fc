use Rattle.context.proofs.Making.{borne_block}
use Rattle.context.proofs.basic_block.birth_block.Goals as goal

pub returns : goal.returns
returns c = borne_block c.bear.result c.requires.sound_store c.bear.ensures
