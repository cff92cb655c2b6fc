-- One part of a memory is lent and comes back: the other parts are as they were. Parts of zeros. Assumes nothing.
use mathlib.Core.Path.{◌≡◌, refl, sym, ap, ◌∙◌}
use mathlib.Core.Logic.{◌≢◌, by_cases}
use mathlib.Core.List.{List, [], ◌∷◌}
use Prim.Native.Nat.{ℕ, zero, suc, ◌+◌, ◌-◌, ◌≤◌, ◌<◌}
use native.Mathlib.Decide.{ℕ_discrete, dec_lt}
use native.Mathlib.Omega.{arith}
use lib.ListN.{length, get_or, set, take, drop, length-drop}
use lib.Seq.{drop-drop, get_or-take, get_or-drop, get_or-set_same, get_or-set_other, length-take-le}
use Rattle.seqs.specs.Split.{split, splice, start, part_is, lend_by, kept_whole}

pub split_long : (ns m : List ℕ) → length (split ns m) ≡ suc (length ns)
unfolding split
split_long [] m = refl
split_long (n ∷ ns) m = ap suc (split_long ns (drop n m))

-- nothing stands past the end
pub get_d_out : (s : List ℕ) (i : ℕ) → length s ≤ i → get_or s i 0 ≡ 0
get_d_out [] i h = refl
get_d_out (x ∷ s) zero h = absurd (omega arith)
get_d_out (x ∷ s) (suc i) h = get_d_out s i (omega arith)

-- of the words that are 0 there is one more
pub zero_more : (s : List ℕ) (i : ℕ) → i < length s → ((j : ℕ) → j < i → get_or s j 0 ≡ 0) → (j : ℕ) → j < i + 1 → get_or (set s i 0) j 0 ≡ 0
zero_more s i h all j k = by_cases (ℕ_discrete j i) (λ e. rw e (get_or-set_same s i 0 0 h)) (λ n. get_or-set_other s i j 0 0 n ∙ all j (omega arith))

-- ---- a part lent

-- m' is m with s for the part k
pub record Swapped (ns : List ℕ) (k : ℕ) (s m m' : List ℕ) : Type 0 where
  pub parts : split ns m' ≡ set (split ns m) k s
  pub long : length m' ≡ length m
  pub k< : k < length ns

pub swap : (ns : List ℕ) (k a e : ℕ) (s m : List ℕ) → k < length ns → a ≡ start ns k → e ≡ a + get_or ns k 0 → e ≤ length m
    → length s ≡ length (take (e - a) (drop a m)) → Swapped ns k s m (splice a (e - a) s m)
swap ns k a e s m h p q w kept =
    record {
      parts = lend_by (λ (x : List ℕ). s) ns k a e s m h p q w kept refl;
      long = kept_whole a e s m (omega arith) w kept;
      k< = h;
    }

module _ {ns : List ℕ} {k : ℕ} {s m m' : List ℕ} (S : Swapped ns k s m m') where
  pub there : get_or (split ns m') k [] ≡ s
  there = ap (λ (ps : List (List ℕ)). get_or ps k []) S.parts ∙ get_or-set_same (split ns m) k s [] (omega (arith, split_long ns m, S.k<))

  pub elsewhere : (j : ℕ) → j ≢ k → get_or (split ns m') j [] ≡ get_or (split ns m) j []
  elsewhere j n = ap (λ (ps : List (List ℕ)). get_or ps j []) S.parts ∙ get_or-set_other (split ns m) k j s [] n

-- ---- where the parts lie

-- the last part is what lies past all others
pub rest_is : (ns m : List ℕ) → get_or (split ns m) (length ns) [] ≡ drop (start ns (length ns)) m
unfolding split
rest_is [] m = refl
rest_is (n ∷ ns) m = rest_is ns (drop n m) ∙ drop-drop (start ns (length ns)) n m

pub start_le : (ns : List ℕ) (k : ℕ) → k < length ns → start ns k + get_or ns k 0 ≤ start ns (length ns)
start_le [] k h = absurd (omega arith)
start_le (n ∷ ns) zero h = omega arith
start_le (n ∷ ns) (suc k) h = omega (arith, start_le ns k (omega arith))

pub start_first : (n : ℕ) (ns : List ℕ) (k : ℕ) → 0 < k → k ≤ length ns → n ≤ start (n ∷ ns) k
start_first n ns zero h g = absurd (omega arith)
start_first n ns (suc k) h g = omega arith

module _ (ns m : List ℕ) (fits : start ns (length ns) ≤ length m) (k : ℕ) (h : k < length ns) where
  pub part_long : length (get_or (split ns m) k []) ≡ get_or ns k 0
  part_long =
      ap length (sym (part_is ns k m h))
      ∙ length-take-le (get_or ns k 0) (drop (start ns k) m) (omega (arith, length-drop (start ns k) m, start_le ns k h, fits))

  -- a part of a stretch of zeros
  pub part_zero : ((i : ℕ) → start ns k ≤ i → i < start ns (length ns) → get_or m i 0 ≡ 0) → (i : ℕ) → get_or (get_or (split ns m) k []) i 0 ≡ 0
  part_zero z i =
      by_cases (dec_lt i (get_or ns k 0))
      (λ y. ap (λ (s : List ℕ). get_or s i 0) (sym (part_is ns k m h))
      ∙ get_or-take (get_or ns k 0) (drop (start ns k) m) i 0 y
      ∙ get_or-drop (start ns k) m i 0
      ∙ z (start ns k + i) (omega arith) (omega (arith, y, start_le ns k h)))
      (λ n. get_d_out (get_or (split ns m) k []) i (omega (arith, part_long, n)))
