-- The scratch that is lent to an edit, and an edit put to a store with it. Assumes nothing: these are definitions.
use Rattle.std.specs.Prelude.{◌≡◌, List, ℕ, ◌≤◌, length, replicate}
use Rattle.edit.specs.Record.{Edit}
use Rattle.edit.specs.Answer.{Answer}
use Rattle.context.specs.declared.Layout.{Layout}
use Rattle.context.specs.Performed.{Performed}

-- a word for each operation place at least, and all of them 0
pub record Scratch (l : Layout) (s : List ℕ) : Type 0 where
  pub long : l.ops ≤ length s
  pub zeros : s ≡ replicate (length s) 0

-- the edit was put to the store, and the scratch is as it was
pub record PerformedWith (l : Layout) (e : Edit) (m m' s s' : List ℕ) (r : Answer) : Type 0 where
  pub performed : Performed l e m m' r
  pub scratch : s' ≡ s
