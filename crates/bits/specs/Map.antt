-- The occupancy map: place p is digit p % 32 of the number p / 32, which is digit p % 64 of the 64-bit word p / 64, low half first.
-- Assumes nothing: these are definitions.
use Rattle.std.specs.Prelude.{◌≡◌, List, ℕ, zero, suc, ◌+◌, ◌-◌, ◌*◌, ◌/◌, ◌%◌, ◌^◌, ◌≤◌, ◌<◌, length, get_or, Option, Some, None}
use Rattle.std.specs.Option.{option_or, MatchOption}
use Rattle.std.specs.List.{All}

-- digit j of x
abbrev pub digit : ℕ → ℕ → ℕ
digit x j = x / 2 ^ j % 2

-- the bit of place p: 1 where it is taken
abbrev pub bit : List ℕ → ℕ → ℕ
bit b p = digit (get_or b (p / 32) 0) (p % 32)

abbrev pub if_zero : ℕ → ℕ → Option ℕ
if_zero zero p = Some p
if_zero (suc x) p = None

-- the lowest p below n with f p = 0
unfoldable pub lowest : (ℕ → ℕ) → ℕ → Option ℕ
lowest f zero = None
lowest f (suc m) = option_or (lowest f m) (if_zero (f m) m)

-- r is how many of w's lowest digits are 1
pub record Ones (w r : ℕ) : Type 0 where
  pub most : r ≤ 64
  pub below : (j : ℕ) → j < r → digit w j ≡ 1
  pub at : r < 64 → digit w r ≡ 0

-- every place of the cells below k is marked
pub record Marked (b : List ℕ) (k : ℕ) : Type 0 where
  pub all : (i : ℕ) → i < 32 * k → 0 < bit b i

-- every place of every cell is marked
abbrev pub Full : List ℕ → Type 0
Full cells = All (λ x. x ≡ 4294967295) cells

-- every cell of the whole groups of n cells below group i is full
abbrev pub FullGroups : ℕ → List ℕ → ℕ → Type 0
FullGroups n b i = (k : ℕ) → k < i → (j : ℕ) → j < n → get_or b (k * n + j) 0 ≡ 4294967295

-- r is the first whole group of n cells of which not every cell is full
abbrev pub Opens : ℕ → List ℕ → Option ℕ → Type 0
Opens n b r = MatchOption r (FullGroups n b (length b / n))
    (λ i. (i * n + n ≤ length b) × FullGroups n b i × (¬ ((j : ℕ) → j < n → get_or b (i * n + j) 0 ≡ 4294967295)))

-- the search goes on from cell k, the low half of a word
pub record Skipped (b : List ℕ) (k : ℕ) : Type 0 where
  pub even : k % 2 ≡ 0
  pub inside : k ≤ length b
  pub below : Marked b k

-- the map after place p was flipped
pub record Flipped (b b' : List ℕ) (p : ℕ) : Type 0 where
  pub long : length b' ≡ length b
  pub here : bit b' p ≡ 1 - bit b p
  pub others : (q : ℕ) → (q ≡ p → ⊥) → bit b' q ≡ bit b q

-- the map after every bit was cleared
pub record Cleared (b b' : List ℕ) : Type 0 where
  pub long : length b' ≡ length b
  pub none : (p : ℕ) → bit b' p ≡ 0
