use Rattle.linked_list.proofs.Truncated.{linked}
use Rattle.sound_parts.proofs.parts.Rows.first.Goals as goal

pub get_head-requires-clause-linked : goal.get_head-requires-clause-linked
get_head-requires-clause-linked c = linked _ _ _ c.args.self.now.linked
