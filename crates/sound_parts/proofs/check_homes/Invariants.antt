use Rattle.std.proofs.Common.{ℕ, suc, ◌≡◌, ◌<◌, get_or, true}
use Rattle.table.specs.Table.{stamp}
use Rattle.linked_list.specs.Links.{home}
use Rattle.sound_parts.proofs.check_homes.Given as goal

abbrev pub invariant-loop-q : goal.invariant-loop-q
invariant-loop-q g l = (p k : ℕ) → p < l.q → get_or l.rows.words.now (home l.rows.lists.nc l.rows.nodes.places p) 0 ≡ suc k → (0 < stamp l.rows.nodes.places l.rows.nodes.words.now p) × goal.H-post g l.has k true
