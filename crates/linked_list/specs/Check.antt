-- What the parts of `check_links` find, on a slice of any contents. Assumes nothing: these are definitions.
use Rattle.std.specs.Prelude.{◌≡◌, List, [], ◌∷◌, ℕ, zero, suc, ◌+◌, ◌<◌, ◌≤◌, length, get_or, Option, Some}
use Rattle.linked_list.specs.Links.{home, Row, walk, Free}

-- container c's list, as a walk of at most nn nodes from c's head reads it
unfoldable pub row_at : ℕ → ℕ → List ℕ → ℕ → List ℕ
unfolding walk
row_at nc nn s c = walk nc s nn (get_or s c 0)

-- how many nodes the first c lists have
unfoldable pub tot : ℕ → ℕ → List ℕ → ℕ → ℕ
tot nc nn s zero = 0
tot nc nn s (suc c) = tot nc nn s c + length (row_at nc nn s c)

-- r is the length of c's list, where that is well formed and has at most b nodes, and is none where not
pub record RowFound (nc nn : ℕ) (s : List ℕ) (c b : ℕ) (r : Option ℕ) : Type 0 where
  pub sound : (k : ℕ) → r ≡ Some k → Row nc nn s c (row_at nc nn s c) × (length (row_at nc nn s c) ≡ k) × (k ≤ b)
  pub complete : Row nc nn s c (row_at nc nn s c) → length (row_at nc nn s c) ≤ b → r ≡ Some (length (row_at nc nn s c))

-- r is how many nodes all the lists have, where they are well formed and that is at most nn, and is none where not
pub record RowsFound (nc nn : ℕ) (s : List ℕ) (r : Option ℕ) : Type 0 where
  pub sound : (k : ℕ) → r ≡ Some k → ((c : ℕ) → c < nc → Row nc nn s c (row_at nc nn s c)) × (tot nc nn s nc ≡ k) × (k ≤ nn)
  pub complete : ((c : ℕ) → c < nc → Row nc nn s c (row_at nc nn s c)) → tot nc nn s nc ≤ nn → r ≡ Some (tot nc nn s nc)

-- the node k before l, where its container h is none
abbrev pub keep : ℕ → ℕ → List ℕ → List ℕ
keep zero k l = k ∷ l
keep (suc h) k l = l

-- the nodes below k whose container is none, the last first
unfoldable pub frees : ℕ → ℕ → List ℕ → ℕ → List ℕ
frees nc nn s zero = []
frees nc nn s (suc k) = keep (get_or s (home nc nn k) 0) k (frees nc nn s k)

-- r is how many nodes have no container, where each of them is free, and is none where not
pub record FreesFound (nc nn : ℕ) (s : List ℕ) (r : Option ℕ) : Type 0 where
  pub sound : (k : ℕ) → r ≡ Some k → ((n : ℕ) → n < nn → get_or s (home nc nn n) 0 ≡ 0 → Free nc nn s n) × (length (frees nc nn s nn) ≡ k) × (k ≤ nn)
  pub complete : ((n : ℕ) → n < nn → get_or s (home nc nn n) 0 ≡ 0 → Free nc nn s n) → r ≡ Some (length (frees nc nn s nn))
