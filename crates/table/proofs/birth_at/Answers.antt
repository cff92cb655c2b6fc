-- A birth: the four stores are `stored`. Assumes nothing.
use Rattle.table.proofs.Laws.{not_full}
use Rattle.table.proofs.Cells.{stored_is, born}
use Rattle.table.proofs.birth_at.Goals as goal

pub returns : goal.returns
returns c =
    let T = c.requires.0 in
    let free = c.requires.1.1 in
    let room = not_full _ _ T c.args.p free.0 free.1 in
    born _ _ _ _ T (stored_is _ _ c.args.p T.size room free.0) free.0 free.1 room c.requires.1.0
