-- A search through one list of the store for what passes a test. Assumes nothing.
use mathlib.Core.Path.{◌≡◌, sym, ap, ◌∙◌}
use mathlib.Core.Bool.{Bool, true, false, ◌||◌}
use mathlib.Core.List.{List, [], ◌∷◌}
use Prim.Native.Nat.{ℕ}
use Rattle.rules.specs.Table.{any}
use Rattle.places.specs.Store.{Fam, Thing}
use Rattle.places.specs.Parts.{node_in}
use Rattle.context.specs.declared.Layout.{Layout}
use Rattle.context.specs.Reading.{NodesAre}
use Rattle.context.proofs.Cursor.{row}
use Rattle.context.proofs.Rest.{nodes, Rest, rest_all, rest_on}

-- what is left to search says what the whole says
pub record Searching (l : Layout) (f : Fam) (s : ℕ) (m k : List ℕ) (p : Thing → Bool) : Type 0 where
  pub rest : Rest l f s m k
  pub left : any p (nodes f k) ≡ any p (row l f s m)

module _ {l : Layout} {f : Fam} {s : ℕ} {m : List ℕ} {p : Thing → Bool} where
  pub searching : {k : List ℕ} → NodesAre l f s m k → Searching l f s m k p
  searching N = record { rest = rest_all N; left = ap (any p) (sym N.are) }

  module _ {q : ℕ} {k : List ℕ} (G : Searching l f s m (q ∷ k) p) where
    pub hit : p (node_in f, q) ≡ true → true ≡ any p (row l f s m)
    unfolding any
    hit e = sym (ap (λ (b : Bool). b || any p (nodes f k)) e) ∙ G.left

    pub miss : p (node_in f, q) ≡ false → Searching l f s m k p
    unfolding any
    miss e = record { rest = rest_on G.rest; left = sym (ap (λ (b : Bool). b || any p (nodes f k)) e) ∙ G.left }

  pub over : Searching l f s m [] p → false ≡ any p (row l f s m)
  unfolding any
  over G = G.left
