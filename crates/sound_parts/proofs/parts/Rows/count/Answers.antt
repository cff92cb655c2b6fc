use Rattle.linked_list.proofs.Truncated.{linked}
use Rattle.sound_parts.proofs.parts.Rows.count.Goals as goal

pub count-requires-clause-linked : goal.count-requires-clause-linked
count-requires-clause-linked c = linked _ _ _ c.args.self.now.linked
