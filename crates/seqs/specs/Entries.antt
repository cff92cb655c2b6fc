-- Lists of entries, each a number and a place: which places stand in one, and with which number. Assumes nothing: these are definitions.
use Rattle.std.proofs.Math.Logic.{ite}
use Rattle.std.specs.Prelude.{List, [], ◌∷◌, map, ℕ}
use Rattle.std.proofs.Math.Decide.{ℕ_discrete}

-- the number that stands with the place p, and 0 where p does not stand
abbrev pub lookup : List (ℕ × ℕ) → ℕ → ℕ
lookup [] p = 0
lookup (e ∷ l) p = ite (ℕ_discrete p e.1) e.0 (lookup l p)

-- the places, in order
abbrev pub places : List (ℕ × ℕ) → List ℕ
places l = map (λ e. e.1) l
