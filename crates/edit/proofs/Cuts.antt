-- Bytes by fours and the next record of a list of bytes: laws about `words` and `cut`, stated over the indexes that the
-- code reads. Assumes nothing.
use mathlib.Core.Path.{◌≡◌, refl, sym, ap, ap₂, ◌∙◌}
use mathlib.Core.Bool.{Bool, true, false}
use mathlib.Core.List.{List, [], ◌∷◌}
use Prim.Native.Nat.{ℕ, zero, suc, ◌+◌, ◌-◌, ◌*◌, ◌/◌, ◌%◌, ◌≤◌, ◌<◌}
use native.Mathlib.Nat.{add-zero, add_assoc}
use native.Mathlib.Omega.{arith}
use Rattle.std.proofs.Common.{Ok, Err, Some, None, rules}
use Rattle.std.proofs.lemmas.Bool.{and_parts, false_from_ne_true, leb-true, eqb-true, le-leb, eq-eqb}
use lib.ListN.{length, get_or, take, drop, length-drop, drop_of_length-le}
use lib.Seq.{take-nil, get_or-take, get_or-drop, drop-drop}
use Rattle.edit.specs.Record.{little, words, Cut, broken, whole, length_ok, cut}
use Rattle.edit.specs.Taken.{record_kind, fields_of, number_at, cut_of, NextCut}
use Rattle.edit.specs.declared.Refusal.TheVariants.{Malformed}

-- ---- words
pub words_length : (l : List ℕ) → length (words l) ≡ length l / 4
unfolding words
words_length [] = refl
words_length (a ∷ []) = refl
words_length (a ∷ b ∷ []) = refl
words_length (a ∷ b ∷ c ∷ []) = refl
words_length (a ∷ b ∷ c ∷ d ∷ r) = let h : length (words r) ≡ length r / 4 = words_length r in omega arith

skip : (a b c d : ℕ) (r : List ℕ) (m n : ℕ) → m ≡ 4 + n → get_or (a ∷ b ∷ c ∷ d ∷ r) m 0 ≡ get_or r n 0
skip a b c d r m n e = ap (λ (x : ℕ). get_or (a ∷ b ∷ c ∷ d ∷ r) x 0) (e ∙ four n)
  where
    four : (n : ℕ) → 4 + n ≡ suc (suc (suc (suc n)))
    four n = omega arith

number_skip : (a b c d : ℕ) (r : List ℕ) (j : ℕ) → number_at r (4 * j) ≡ number_at (a ∷ b ∷ c ∷ d ∷ r) (4 * suc j)
unfolding number_at
number_skip a b c d r j =
    omega (
      arith,
      skip a b c d r (4 * suc j) (4 * j) (omega arith),
      skip a b c d r (4 * suc j + 1) (4 * j + 1) (omega arith),
      skip a b c d r (4 * suc j + 2) (4 * j + 2) (omega arith),
      skip a b c d r (4 * suc j + 3) (4 * j + 3) (omega arith),
    )

pub words_at : (l : List ℕ) (i : ℕ) → 4 * i + 4 ≤ length l → get_or (words l) i 0 ≡ number_at l (4 * i)
unfolding words little number_at
words_at [] i h = absurd (omega arith)
words_at (a ∷ []) i h = absurd (omega arith)
words_at (a ∷ b ∷ []) i h = absurd (omega arith)
words_at (a ∷ b ∷ c ∷ []) i h = absurd (omega arith)
words_at (a ∷ b ∷ c ∷ d ∷ r) zero h = omega arith
words_at (a ∷ b ∷ c ∷ d ∷ r) (suc j) h = words_at r j (omega arith) ∙ number_skip a b c d r j

-- ---- the fields of a record
pub fields_length : (l : List ℕ) → length (fields_of l) ≡ (length l - 4) / 4
unfolding fields_of
fields_length l = words_length (drop 4 l) ∙ ap (λ (n : ℕ). n / 4) (length-drop 4 l)

number_drop : (l : List ℕ) (n p : ℕ) → number_at (drop n l) p ≡ number_at l (n + p)
unfolding number_at
number_drop l n p = omega (arith, get_or-drop n l p 0, further 1, further 2, further 3)
  where
    further : (k : ℕ) → get_or (drop n l) (p + k) 0 ≡ get_or l (n + p + k) 0
    further k = get_or-drop n l (p + k) 0 ∙ ap (λ (x : ℕ). get_or l x 0) (sym (add_assoc n p k))

pub field_fits : (l : List ℕ) (i : ℕ) → i < length (fields_of l) → 4 + 4 * i + 4 ≤ length l
field_fits l i h = omega (arith, fields_length l)

pub field_in : (l : List ℕ) (i : ℕ) → i < length (fields_of l) → get_or (fields_of l) i 0 ≡ number_at l (4 + 4 * i)
unfolding fields_of
field_in l i h = words_at (drop 4 l) i (omega (arith, length-drop 4 l, field_fits l i h)) ∙ number_drop l 4 (4 * i)

-- ---- the next record
pub cut_few : (s : List ℕ) → 1 ≤ length s → length s < 4 → cut s ≡ broken
unfolding cut
cut_few [] g h = absurd (omega arith)
cut_few (a ∷ []) g h = refl
cut_few (a ∷ b ∷ []) g h = refl
cut_few (a ∷ b ∷ c ∷ []) g h = refl
cut_few (a ∷ b ∷ c ∷ d ∷ r) g h = absurd (omega arith)

-- the length field of the bytes s
abbrev pub stated : List ℕ → ℕ
stated s = get_or s 0 0 + 256 * get_or s 1 0

-- four bytes or more, cut by what the test of the length says
abbrev pub cut_by : List ℕ → Bool → Cut
cut_by s true = whole (get_or s 2 0 + 256 * get_or s 3 0) (words (take (stated s - 4) (drop 4 s))) (drop (stated s - 4) (drop 4 s))
cut_by s false = broken

pub cut_many : (s : List ℕ) → 4 ≤ length s → cut s ≡ cut_by s (length_ok (stated s) (length s))
unfolding cut
cut_many [] h = absurd (omega arith)
cut_many (a ∷ []) h = absurd (omega arith)
cut_many (a ∷ b ∷ []) h = absurd (omega arith)
cut_many (a ∷ b ∷ c ∷ []) h = absurd (omega arith)
cut_many (a ∷ b ∷ c ∷ d ∷ r) h = by (length_ok (a + 256 * b) (4 + length r)) ∙ ap (λ (m : ℕ). cut_by (a ∷ b ∷ c ∷ d ∷ r) (length_ok (a + 256 * b) m)) (four (length r))
  where
    four : (n : ℕ) → 4 + n ≡ suc (suc (suc (suc n)))
    four n = omega arith

    by : (t : Bool) → elim t [ true ↦ whole (c + 256 * d) (words (take (a + 256 * b - 4) r)) (drop (a + 256 * b - 4) r) | false ↦ broken ] ≡ cut_by (a ∷ b ∷ c ∷ d ∷ r) t
    by true = refl
    by false = refl

-- ---- a whole record
drop_take : (k n : ℕ) (l : List ℕ) → drop k (take n l) ≡ take (n - k) (drop k l)
drop_take zero n l = ap (λ (m : ℕ). take m l) (none n)
  where
    none : (n : ℕ) → n ≡ n - 0
    none n = omega arith
drop_take (suc k) zero l = ap (λ (m : ℕ). take m (drop (suc k) l)) (none k)
  where
    none : (k : ℕ) → 0 ≡ 0 - suc k
    none k = omega arith
drop_take (suc k) (suc n) [] = sym (take-nil (suc n - suc k))
drop_take (suc k) (suc n) (x ∷ l) = drop_take k n l ∙ ap (λ (m : ℕ). take m (drop k l)) (less n k)
  where
    less : (n k : ℕ) → n - k ≡ suc n - suc k
    less n k = omega arith

module _ (s : List ℕ) (n : ℕ) (four : 4 ≤ n) where
  kind_take : record_kind (take n s) ≡ get_or s 2 0 + 256 * get_or s 3 0
  unfolding record_kind
  kind_take = omega (arith, get_or-take n s 2 0 (omega arith), get_or-take n s 3 0 (omega arith))

  fields_take : fields_of (take n s) ≡ words (take (n - 4) (drop 4 s))
  unfolding fields_of
  fields_take = ap words (drop_take 4 n s)

  rest_drop : drop (n - 4) (drop 4 s) ≡ drop n s
  rest_drop = let e : 4 + (n - 4) ≡ n = omega arith in drop-drop (n - 4) 4 s ∙ ap (λ (m : ℕ). drop m s) e

pub cut_none : (bytes : List ℕ) (at : ℕ) → length bytes ≤ at → NextCut bytes at (Ok None)
unfolding cut cut_of
cut_none bytes at h = record {
  same = ap cut (drop_of_length-le bytes {i = at} h);
  lies = λ end q. search rules;
  broken = λ e q. search rules;
}

-- refusal 1, where the bytes from there on are cut so
malformed : (bytes : List ℕ) (at : ℕ) → cut (drop at bytes) ≡ broken → NextCut bytes at (Err Malformed)
unfolding cut_of
malformed bytes at e = record {
  same = e;
  lies = λ end q. search rules;
  broken = λ e q. cc;
}

pub cut_short : (bytes : List ℕ) (at : ℕ) → at < length bytes → length bytes - at < 4 → NextCut bytes at (Err Malformed)
cut_short bytes at g h = malformed bytes at (cut_few (drop at bytes) (omega (arith, length-drop at bytes)) (omega (arith, length-drop at bytes)))

-- ---- the test of the length
module _ (n m : ℕ) where
  good : 4 ≤ n → n ≤ 2048 → n % 4 ≡ 0 → n ≤ m → length_ok n m ≡ true
  unfolding length_ok
  good h₁ h₂ h₃ h₄ = simp (le-leb 4 n h₁, le-leb n 2048 h₂, eq-eqb (n % 4) 0 h₃, le-leb n m h₄)

  bad : (4 ≤ n → n ≤ 2048 → n % 4 ≡ 0 → n ≤ m → ⊥) → length_ok n m ≡ false
  unfolding length_ok
  bad fails =
      false_from_ne_true _ (λ e.
      let all = and_parts _ _ e in
      let three = and_parts _ _ all.0 in
      let two = and_parts _ _ three.0 in
      fails (leb-true 4 n two.0) (leb-true n 2048 two.1) (eqb-true (n % 4) 0 three.1) (leb-true n m all.1))

-- the bytes s from at on, four or more of them: the length that they state is byte at and byte at + 1
module _ (bytes : List ℕ) (at n : ℕ) (four : at + 4 ≤ length bytes) (is : n ≡ get_or bytes at 0 + 256 * get_or bytes (at + 1) 0) where
  left : length (drop at bytes) ≡ length bytes - at
  left = length-drop at bytes

  states : stated (drop at bytes) ≡ n
  states = omega (arith, get_or-drop at bytes 0 0, ap (λ (x : ℕ). get_or bytes x 0) (add-zero at), get_or-drop at bytes 1 0)

  tested : cut (drop at bytes) ≡ cut_by (drop at bytes) (length_ok n (length bytes - at))
  tested = cut_many (drop at bytes) (omega (arith, left)) ∙ ap₂ (λ (x y : ℕ). cut_by (drop at bytes) (length_ok x y)) states left

  pub cut_bad : (4 ≤ n → n ≤ 2048 → n % 4 ≡ 0 → n ≤ length bytes - at → ⊥) → NextCut bytes at (Err Malformed)
  cut_bad fails = malformed bytes at (tested ∙ ap (cut_by (drop at bytes)) (bad n (length bytes - at) fails))

  parts : 4 ≤ n → cut_by (drop at bytes) true ≡ cut_of bytes at (Ok (Some (at + n)))
  unfolding cut_of
  parts h =
      let s : List ℕ = drop at bytes in
      let w : at + n - at ≡ n = omega arith in
      let kind : record_kind (take (at + n - at) s) ≡ get_or s 2 0 + 256 * get_or s 3 0 = ap (λ (m : ℕ). record_kind (take m s)) w ∙ kind_take s n h in
      let fields : fields_of (take (at + n - at) s) ≡ words (take (stated s - 4) (drop 4 s)) = ap (λ (m : ℕ). fields_of (take m s)) w ∙ fields_take s n h ∙ ap (λ (m : ℕ). words (take (m - 4) (drop 4 s))) (sym states) in
      let rest : drop (at + n) bytes ≡ drop (stated s - 4) (drop 4 s) = sym (drop-drop n at bytes) ∙ sym (rest_drop s n h) ∙ ap (λ (m : ℕ). drop (m - 4) (drop 4 s)) (sym states) in
      cc

  pub cut_good : 4 ≤ n → n ≤ 2048 → n % 4 ≡ 0 → n ≤ length bytes - at → NextCut bytes at (Ok (Some (at + n)))
  cut_good h₁ h₂ h₃ h₄ = record {
    same = tested ∙ ap (cut_by (drop at bytes)) (good n (length bytes - at) h₁ h₂ h₃ h₄) ∙ parts h₁;
    lies = λ end q. let e : at + n ≡ end = cc in let w : end - at ≡ n = omega arith in record { head = omega arith; inside = omega arith; short = omega arith; fours = ap (λ (m : ℕ). m % 4) w ∙ h₃ };
    broken = λ e q. search rules;
  }
