-- An arena of n places in one slice: the birth table's 2 + n + n cells, and then its occupancy map, two cells to 64 places.
-- Assumes nothing: these are definitions.
use Rattle.std.specs.Prelude.{◌≡◌, List, [], ◌∷◌, ◌++◌, ℕ, ◌+◌, ◌*◌, ◌/◌, ◌≤◌, ◌<◌, length, take, drop, Some}
use Rattle.std.proofs.Math.Decide.{ℕ_discrete}
use Rattle.bits.specs.Map.{bit, lowest}
use Rattle.table.specs.Table.{Table, next, stamp, sign, live, without}
use Rattle.seqs.specs.Seqs.{In}
use Rattle.seqs.specs.Entries.{places}

-- the cells of the table, and of the map
abbrev pub cells : ℕ → ℕ
cells n = 2 + n + n

abbrev pub words : ℕ → ℕ
words n = (n + 63) / 64 * 2

-- the table, and the map
abbrev pub front : ℕ → List ℕ → List ℕ
front n m = take (cells n) m

abbrev pub back : ℕ → List ℕ → List ℕ
back n m = drop (cells n) m

-- a well-formed arena: the table is one, each place's bit says whether it is taken, and no bit past the places is set
pub record Packed (n : ℕ) (m : List ℕ) : Type 0 where
  pub size : length m ≡ cells n + words n
  pub table : Table n (front n m)
  pub marks : (p : ℕ) → p < n → bit (back n m) p ≡ sign (stamp n (front n m) p)
  pub spare : (p : ℕ) → n ≤ p → bit (back n m) p ≡ 0

-- p is the place of a live thing
abbrev pub Alive : ℕ → List ℕ → ℕ → Type 0
Alive n m p = In ℕ_discrete p (places (live n (front n m)))

-- a birth: the lowest free place p gets the next number, which is then one higher
pub record Bore (n : ℕ) (m m' : List ℕ) (p : ℕ) : Type 0 where
  pub packed : Packed n m'
  pub place : lowest (stamp n (front n m)) n ≡ Some p
  pub number : next (front n m') ≡ next (front n m) + 1
  pub lives : live n (front n m') ≡ live n (front n m) ++ ((next (front n m), p) ∷ [])

-- an end: the thing at p lives no more, and its number does not come again
pub record Gone (n : ℕ) (m m' : List ℕ) (p : ℕ) : Type 0 where
  pub packed : Packed n m'
  pub number : next (front n m') ≡ next (front n m)
  pub lives : live n (front n m') ≡ without p (live n (front n m))

-- a new arena: nothing lives, and the first number is 0
pub record Fresh (n : ℕ) (m : List ℕ) : Type 0 where
  pub packed : Packed n m
  pub number : next (front n m) ≡ 0
  pub lives : live n (front n m) ≡ []

-- the marks of a map b and the stamps of a table t agree
pub record Agree (n : ℕ) (t b : List ℕ) : Type 0 where
  pub marks : (p : ℕ) → p < n → bit b p ≡ sign (stamp n t p)

-- no mark from n on
pub record Spare (n : ℕ) (b : List ℕ) : Type 0 where
  pub spare : (p : ℕ) → n ≤ p → bit b p ≡ 0
