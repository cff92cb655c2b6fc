use Rattle.std.proofs.Common.{◌≡◌, ℕ, ◌≤◌, ◌<◌, get_or, length}
use Rattle.linked_list.specs.Links.{Free, home}
use Rattle.linked_list.specs.Check.{frees}
use Rattle.linked_list.proofs.Lists.check_frees.Given as goal

abbrev pub invariant-loop-n : goal.invariant-loop-n
invariant-loop-n l = (l.f ≤ l.n) × ((m : ℕ) → m < l.n → get_or l.s (home l.self.nc l.self.nn m) 0 ≡ 0 → Free l.self.nc l.self.nn l.s m) × (length (frees l.self.nc l.self.nn l.s l.n) ≡ l.f)
