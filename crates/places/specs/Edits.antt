-- The primitives that edits are made of, by places and by numbers. Assumes nothing.
use Rattle.std.specs.Prelude.{List, [], ◌∷◌, ℕ}
use Rattle.places.specs.Store.{usg, Thing, Con, State, birth, end, enter, leave}
use Rattle.places.specs.View.{Names, n_birth, n_end, n_enter, n_hold, amend, change_list}
use Rattle.seqs.specs.Seqs.{without}
use Rattle.std.proofs.Math.Decide.{ℕ_discrete}

-- a new use at the place q, at index i of slot, of the definition whose set is def (j: where in the set)
abbrev pub birth_use : Con → ℕ → Con → ℕ → ℕ → State → State
birth_use slot i def j q P = enter def j (usg, q) (enter slot i (usg, q) (birth (usg, q) 0 P))

abbrev pub n_birth_use : Con → ℕ → Con → Names → Names
n_birth_use slot i def N = n_hold def (usg, N.next usg) (n_enter slot i (usg, N.next usg) (n_birth usg 0 N))

abbrev pub end_use : Con → Con → Thing → State → State
end_use slot def u P = end u (leave def u (leave slot u P))

abbrev pub n_end_use : Con → Thing → Names → Names
n_end_use slot u N = n_end u.0 u.1 (amend slot.1.0 slot.1.1 (change_list slot.0 (without ℕ_discrete u.1)) N)

abbrev pub place_move_use : Con → Con → ℕ → Thing → State → State
place_move_use def def' j u P = enter def' j u (leave def u P)

-- the uses of a list end, from the first on
unfoldable pub n_drop : Con → List ℕ → Names → Names
n_drop c [] N = N
n_drop c (u ∷ us) N = n_drop c us (n_end_use c (usg, u) N)
