use native.Mathlib.Omega.{arith}
use mathlib.Core.Path.{sym, ◌∙◌}
use Rattle.seqs.proofs.Cells.{stored}
use Rattle.linked_list.proofs.Getters.{cells}
use Rattle.sound_parts.proofs.Laws.{home_le}
use Rattle.linked_list.proofs.Truncated.{linked}
use Rattle.sound_parts.proofs.parts.Rows.home.Goals as goal

pub get_container-requires-clause-linked : goal.get_container-requires-clause-linked
get_container-requires-clause-linked c = linked _ _ _ c.args.self.now.linked

pub returns : goal.returns
returns c =
    let a = c.args.self.now in let K = linked a.lists.nc a.lists.nn a.words.now a.linked in
    let e = stored (c.get_container.ensures.container ∙ sym (cells K c.args.q c.requires.q_lt_nn).cont) in
    (e, omega (arith, e, home_le a.lists.nc a.lists.nn a.words.now K c.args.q c.requires.q_lt_nn))
