use Rattle.linked_list.proofs.Truncated.{linked}
use Rattle.sound_parts.proofs.parts.Rows.list.Goals as goal

pub iter-requires-clause-linked : goal.iter-requires-clause-linked
iter-requires-clause-linked c = linked _ _ _ c.args.self.now.linked
