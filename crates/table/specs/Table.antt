-- The birth table of n places in one slice, and what its functions do to the things alive: pairs of a birth number and a place.
-- Assumes nothing: these are definitions.
use Rattle.std.specs.Prelude.{◌≡◌, List, [], ◌∷◌, ◌++◌, ℕ, zero, suc, ◌+◌, ◌-◌, ◌≤◌, ◌<◌, eqb, cond, length, get_or, Option, Some, None}
use Rattle.std.proofs.Math.Decide.{ℕ_discrete}
use Rattle.seqs.specs.Seqs.{without_by}

-- the cells: the next birth number, how many live, the place of the i-th live thing, the stamp (birth number + 1; 0 where free) of place p
abbrev pub next : List ℕ → ℕ
next t = get_or t 0 0

abbrev pub count : List ℕ → ℕ
count t = get_or t 1 0

abbrev pub order : List ℕ → ℕ → ℕ
order t i = get_or t (2 + i) 0

abbrev pub stamp : ℕ → List ℕ → ℕ → ℕ
stamp n t p = get_or t (2 + n + p) 0

-- a well-formed table: the order has each taken place once, by rising stamp, and 0 after them; no stamp is above the next number
pub record Table (n : ℕ) (t : List ℕ) : Type 0 where
  pub cap : n ≤ 16384
  pub size : length t ≡ 2 + n + n
  pub few : count t ≤ n
  pub fresh : next t ≤ 4294967295
  pub inside : (i : ℕ) → i < count t → order t i < n
  pub used : (i : ℕ) → i < count t → 0 < stamp n t (order t i)
  pub rising : (i j : ℕ) → i < j → j < count t → stamp n t (order t i) < stamp n t (order t j)
  pub below : (p : ℕ) → p < n → stamp n t p ≤ next t
  pub found : (p : ℕ) → p < n → 0 < stamp n t p → (i : ℕ) × (i < count t) × (order t i ≡ p)
  pub rest : (i : ℕ) → count t ≤ i → i < n → order t i ≡ 0

-- the shape, the order, and the places: what a check goes through
pub record Shape (n : ℕ) (t : List ℕ) : Type 0 where
  pub cap : n ≤ 16384
  pub size : length t ≡ 2 + n + n
  pub few : count t ≤ n

pub record Ordered (n : ℕ) (t : List ℕ) : Type 0 where
  pub inside : (i : ℕ) → i < count t → order t i < n
  pub used : (i : ℕ) → i < count t → 0 < stamp n t (order t i)
  pub rising : (i j : ℕ) → i < j → j < count t → stamp n t (order t i) < stamp n t (order t j)

pub record Placed (n : ℕ) (t : List ℕ) : Type 0 where
  pub below : (p : ℕ) → p < n → stamp n t p ≤ next t
  pub found : (p : ℕ) → p < n → 0 < stamp n t p → (i : ℕ) × (i < count t) × (order t i ≡ p)

pub record Rested (n : ℕ) (t : List ℕ) : Type 0 where
  pub rest : (i : ℕ) → count t ≤ i → i < n → order t i ≡ 0

-- f 0, f 1, .., f (m - 1)
unfoldable pub tab : (ℕ → ℕ × ℕ) → ℕ → List (ℕ × ℕ)
tab f zero = []
tab f (suc m) = tab f m ++ (f m ∷ [])

-- the i-th thing alive: its number and its place
abbrev pub entry : ℕ → List ℕ → ℕ → ℕ × ℕ
entry n t i = (stamp n t (order t i) - 1, order t i)

-- the live things, (number, place), by rising number
abbrev pub live : ℕ → List ℕ → List (ℕ × ℕ)
live n t = tab (entry n t) (count t)

-- the place of the first with the number x
unfoldable pub find_in : List (ℕ × ℕ) → ℕ → Option ℕ
find_in [] x = None
find_in (e ∷ l) x = cond (eqb e.0 x) (Some e.1) (find_in l x)

-- without the one at place p
abbrev pub without : ℕ → List (ℕ × ℕ) → List (ℕ × ℕ)
without p l = without_by ℕ_discrete (λ e. e.1) p l

-- r is how many live things have a stamp of at most x
pub record Rank (n : ℕ) (t : List ℕ) (x r : ℕ) : Type 0 where
  pub within : r ≤ count t
  pub low : (i : ℕ) → i < r → stamp n t (order t i) ≤ x
  pub high : (i : ℕ) → r ≤ i → i < count t → x < stamp n t (order t i)

-- that number is from lo to hi
pub record Bracket (n : ℕ) (t : List ℕ) (x lo hi : ℕ) : Type 0 where
  pub ordered : lo ≤ hi
  pub within : hi ≤ count t
  pub low : (i : ℕ) → i < lo → stamp n t (order t i) ≤ x
  pub high : (i : ℕ) → hi ≤ i → i < count t → x < stamp n t (order t i)

-- a birth at place p
pub record Born (n : ℕ) (t t' : List ℕ) (p : ℕ) : Type 0 where
  pub table : Table n t'
  pub number : next t' ≡ next t + 1
  pub lives : live n t' ≡ live n t ++ ((next t, p) ∷ [])
  pub here : stamp n t' p ≡ next t + 1
  pub others : (q : ℕ) → q < n → (q ≡ p → ⊥) → stamp n t' q ≡ stamp n t q

-- an end at place p
pub record Ended (n : ℕ) (t t' : List ℕ) (p : ℕ) : Type 0 where
  pub table : Table n t'
  pub number : next t' ≡ next t
  pub lives : live n t' ≡ without p (live n t)
  pub here : stamp n t' p ≡ 0
  pub others : (q : ℕ) → q < n → (q ≡ p → ⊥) → stamp n t' q ≡ stamp n t q

-- the order's places from k + 1 to l moved down by one, and nothing else
pub record Shifted (k l : ℕ) (t t' : List ℕ) : Type 0 where
  pub long : length t' ≡ length t
  pub moved : (i : ℕ) → k ≤ i → i + 1 < l → get_or t' (2 + i) 0 ≡ get_or t (3 + i) 0
  pub under : (j : ℕ) → j < 2 + k → get_or t' j 0 ≡ get_or t j 0
  pub over : (j : ℕ) → 2 + l ≤ j + 1 → get_or t' j 0 ≡ get_or t j 0

-- an empty table
pub record Started (n : ℕ) (t : List ℕ) : Type 0 where
  pub table : Table n t
  pub number : next t ≡ 0
  pub lives : live n t ≡ []
  pub free : (p : ℕ) → p < n → stamp n t p ≡ 0

-- 0 at 0, and else 1; how many places below k are taken
abbrev pub sign : ℕ → ℕ
sign zero = 0
sign (suc s) = 1

unfoldable pub taken : ℕ → List ℕ → ℕ → ℕ
taken n t zero = 0
taken n t (suc k) = taken n t k + sign (stamp n t k)
