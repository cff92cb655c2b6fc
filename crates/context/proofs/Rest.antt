-- A loop over the nodes of one list of the store: what is left to go through, and its next turn. Assumes nothing.
use mathlib.Core.Path.{◌≡◌, refl, ◌∙◌, sym}
use mathlib.Core.List.{List, [], ◌∷◌, ◌++◌, map}
use Prim.Native.Nat.{ℕ}
use Rattle.std.specs.Prelude.{Some}
use Rattle.places.specs.Store.{Fam, Thing}
use Rattle.places.specs.Parts.{node_in}
use Rattle.places.proofs.DropTurn.{append_assoc}
use Rattle.context.specs.declared.Layout.{Layout}
use Rattle.context.specs.Memory.{SoundStore}
use Rattle.context.specs.Reading.{NodesAre}
use Rattle.context.proofs.Cursor.{row, At, Here, here}

-- the nodes at the places k of a family
abbrev pub nodes : Fam → List ℕ → List Thing
nodes f k = map (λ (p : ℕ). (node_in f, p)) k

-- the loop has gone through `done`, and the places k are left
pub record Rest (l : Layout) (f : Fam) (s : ℕ) (m k : List ℕ) : Type 0 where
  pub done : List Thing
  pub parts : row l f s m ≡ done ++ nodes f k

unfoldable pub rest_all : {l : Layout} {f : Fam} {s : ℕ} {m k : List ℕ} → NodesAre l f s m k → Rest l f s m k
rest_all N = record { done = []; parts = N.are }

module _ {l : Layout} {f : Fam} {s p : ℕ} {m k : List ℕ} (R : Rest l f s m (p ∷ k)) where
  pub at_first : At l f s m (Some p)
  at_first = record { done = R.done; todo = nodes f (p ∷ k); parts = R.parts; first = refl }

  pub first_here : SoundStore l m → Here l f s m p (nodes f (p ∷ k))
  unfolding at_first
  first_here S = here S at_first refl

  unfoldable pub rest_on : Rest l f s m k
  rest_on = record { done = R.done ++ ((node_in f, p) ∷ []); parts = R.parts ∙ sym (append_assoc R.done ((node_in f, p) ∷ []) (nodes f k)) }
