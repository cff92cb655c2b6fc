-- The places of a table before and after an edit. What lives on keeps its place, and each birth takes the lowest place that is free at its turn, when what
-- the edit ends has ended. Assumes nothing: these are definitions.
use Rattle.std.specs.Prelude.{◌≡◌, List, ℕ, ◌<◌}
use Rattle.std.proofs.Math.Decide.{ℕ_discrete}
use Rattle.seqs.specs.Seqs.{count, In}
use Rattle.places.specs.Store.{Kind, Table, State, born}
use Rattle.places.specs.Walk.{gone_by}

-- q is the lowest place that none of these is
pub record Lowest (taken : List ℕ) (q : ℕ) : Type 0 where
  pub free : count ℕ_discrete q taken ≡ 0
  pub least : (p : ℕ) → p < q → In ℕ_discrete p taken

-- from the table t: the things at the places at which p is not 0 end, and the others keep their places; then one after another is born
pub data Settled (t : Table) : Table → Type 0 where
  kept : (p : ℕ → ℕ) → Settled t (gone_by p t)
  grown : {u : Table} (q : ℕ) → Lowest u.order q → Settled t u → Settled t (born q u)

-- the same of every kind
pub record Settles (P Q : State) : Type 0 where
  pub table : (k : Kind) → Settled (P.tab k) (Q.tab k)
