-- A search through one list of the store for what passes a test that is called. Assumes nothing.
use mathlib.Core.Path.{◌≡◌, sym, ap, ◌∙◌}
use mathlib.Core.Bool.{Bool, true, false, ◌||◌}
use mathlib.Core.List.{List, [], ◌∷◌}
use Prim.Native.Nat.{ℕ}
use Rattle.rules.specs.Table.{any}
use Rattle.places.specs.Store.{Fam, Thing, Live}
use Rattle.places.specs.Parts.{node_in}
use Rattle.context.specs.declared.Layout.{Layout}
use Rattle.context.specs.Memory.{state_of, SoundStore}
use Rattle.context.specs.Reading.{NodesAre, AtLive, AnyOf}
use Rattle.context.proofs.Cursor.{row}
use Rattle.context.proofs.Rest.{nodes, Rest, rest_all, first_here, rest_on}

-- what is left to search says what the whole says, for each test that tells what the calls answer
pub record Calling (l : Layout) (f : Fam) (s : ℕ) (m k : List ℕ) (Says : ℕ → Bool → Type 0) : Type 0 where
  pub rest : Rest l f s m k
  pub left : (t : Thing → Bool) → AtLive l f m (λ p. (b : Bool) → Says p b → b ≡ t (node_in f, p)) → any t (nodes f k) ≡ any t (row l f s m)

module _ {l : Layout} {f : Fam} {s : ℕ} {m : List ℕ} {Says : ℕ → Bool → Type 0} where
  pub calling : {k : List ℕ} → NodesAre l f s m k → Calling l f s m k Says
  calling N = record { rest = rest_all N; left = λ t A. ap (any t) (sym N.are) }

  module _ {q : ℕ} {k : List ℕ} (S : SoundStore l m) (G : Calling l f s m (q ∷ k) Says) where
    pub called : Live (state_of l m) (node_in f, q)
    called = (first_here G.rest S).live

    pub passed : Says q true → AnyOf l f s m Says true
    unfolding any
    passed e = λ t A. ap (λ (b : Bool). b || any t (nodes f k)) (A q called true e) ∙ G.left t A

    pub failed : Says q false → Calling l f s m k Says
    unfolding any
    failed e = record { rest = rest_on G.rest; left = λ t A. ap (λ (b : Bool). b || any t (nodes f k)) (A q called false e) ∙ G.left t A }

  pub over : Calling l f s m [] Says → AnyOf l f s m Says false
  unfolding any
  over G = λ t A. G.left t A
