-- The answer record: a refusal, or 0 with the numbers A and B. Assumes nothing: these are definitions.
use Rattle.std.specs.Prelude.{◌≡◌, List, ℕ, ◌+◌, ◌*◌, ◌≤◌, ◌<◌, length, get_or, Result, Ok, Err}
use Rattle.edit.specs.Kinds.{number_of}
use Rattle.edit.specs.declared.Refusal.{Refusal}

-- A and B of an accepted edit, or the refusal
abbrev pub Answer : Type 0
Answer = Result (ℕ × ℕ) Refusal

pub record Reply : Type 0 where
  pub refusal : ℕ
  pub a : ℕ
  pub b : ℕ

unfoldable pub clean : Reply
clean = record { refusal = 0; a = 0; b = 0 }

unfoldable pub refuse : ℕ → Reply
refuse n = record { refusal = n; a = 0; b = 0 }

unfoldable pub found : ℕ → ℕ → Reply
found v n = record { refusal = 0; a = v; b = n }

-- the three numbers of each case of the answer
unfoldable pub numbers_of : Answer → Reply
numbers_of (Ok (a, b)) = found a b
numbers_of (Err r) = refuse (number_of r)

-- three numbers as a reply
abbrev pub numbers : ℕ → ℕ → ℕ → Reply
numbers n a b = record { refusal = n; a = a; b = b }

-- the answer record at place k of a list of words: three words, the refusal first
abbrev pub reply_at : List ℕ → ℕ → Reply
reply_at m k = numbers (get_or m (3 * k) 0) (get_or m (3 * k + 1) 0) (get_or m (3 * k + 2) 0)

-- the words after answer k was written: its three words are the reply's, and every other word is as it was
pub record Put (m m' : List ℕ) (k : ℕ) (r : Reply) : Type 0 where
  pub long : length m' ≡ length m
  pub here : reply_at m' k ≡ r
  pub before : (i : ℕ) → i < 3 * k → get_or m' i 0 ≡ get_or m i 0
  pub after : (i : ℕ) → 3 * k + 3 ≤ i → get_or m' i 0 ≡ get_or m i 0
