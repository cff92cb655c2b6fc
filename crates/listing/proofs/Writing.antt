-- Laws of writing: one text after another, decimal digits, and what the buffer holds where all fits. Assumes nothing.
use mathlib.Core.Path.{◌≡◌, refl, sym, ap, ◌∙◌}
use mathlib.Core.Bool.{Bool, true, false, cond}
use mathlib.Core.List.{List, [], ◌∷◌, ◌++◌, append_assoc}
use Prim.Native.Nat.{ℕ, zero, suc, ◌+◌, ◌-◌, ◌/◌, ◌%◌, ◌≤◌, ◌<◌}
use native.Mathlib.Numerals.{add-one}
use native.Mathlib.Omega.{arith}
use lib.Dec.{ltb}
use lib.ListN.{length, set, take, drop, length-set}
use lib.Seq.{set_out, sets, sets-eq}
use borrow.Author.Tests.{lt-ltb, le-ltb}
use Rattle.rules.specs.Listing.{digits}
use Rattle.listing.specs.Writer.{Spot, put, write, Written}

pub write_append : {A : Type 0} (a b : List A) (p : Spot A) → write (a ++ b) p ≡ write b (write a p)
unfolding write
write_append [] b p = refl
write_append (x ∷ a) b p = write_append a b (put x p)

module _ {A : Type 0} {o : List A} {i : ℕ} where
  -- one text after another
  pub and_then : {a b o₁ o₂ : List A} {j k : ℕ} → Written a o i o₁ j → Written b o₁ j o₂ k → Written (a ++ b) o i o₂ k
  and_then {a} {b} v w = record { is = write_append a b (o, i) ∙ ap (write b) v.is ∙ w.is }

  pub same_text : {a b o₁ : List A} {j : ℕ} → a ≡ b → Written a o i o₁ j → Written b o i o₁ j
  same_text e w = record { is = sym (ap (λ t. write t (o, i)) e) ∙ w.is }

-- one element
module _ {A : Type 0} (o : List A) (i : ℕ) (b : A) where
  pub put_there : i < length o → write (b ∷ []) (o, i) ≡ (set o i b, i + 1)
  unfolding write put
  put_there h = ap (λ (t : Bool). (set o i b, cond t (suc i) i)) (lt-ltb i (length o) h) ∙ ap (λ (n : ℕ). (set o i b, n)) (sym (add-one i))

  pub put_nowhere : length o ≤ i → write (b ∷ []) (o, i) ≡ (o, i)
  unfolding write put
  put_nowhere h = ap (λ (t : Bool). (set o i b, cond t (suc i) i)) (le-ltb i (length o) h) ∙ ap (λ (s : List A). (s, i)) (set_out o i b h)

-- ---- digits

-- what stands behind the digits is kept behind them
pub digits_before : (k n : ℕ) (acc : List ℕ) → digits k n acc ≡ digits k n [] ++ acc
unfolding digits
digits_before zero n acc = refl
digits_before (suc k) n acc = go (digits_before k (n / 10) (d ∷ acc)) (digits_before k (n / 10) (d ∷ [])) (ltb n 10)
  where
    d : ℕ
    d = 48 + n % 10

    go : digits k (n / 10) (d ∷ acc) ≡ digits k (n / 10) [] ++ (d ∷ acc) → digits k (n / 10) (d ∷ []) ≡ digits k (n / 10) [] ++ (d ∷ []) → (t : Bool) → elim t [ true ↦ (48 + n) ∷ acc | false ↦ digits k (n / 10) (d ∷ acc) ] ≡ elim t [ true ↦ (48 + n) ∷ [] | false ↦ digits k (n / 10) (d ∷ []) ] ++ acc
    go p q true = refl
    go p q false = p ∙ sym (append_assoc (digits k (n / 10) []) (d ∷ []) acc) ∙ ap (λ (t : List ℕ). t ++ acc) (sym q)

module _ (k n : ℕ) (h : k ≡ 0 → ⊥) where
  back : suc (k - 1) ≡ k
  back = omega (arith, h)

  pub one_digit : n < 10 → digits k n [] ≡ (48 + n) ∷ []
  unfolding digits
  one_digit e = ap (λ (j : ℕ). digits j n []) (sym back) ∙ ap (λ (t : Bool). elim t [ true ↦ (48 + n) ∷ [] | false ↦ digits (k - 1) (n / 10) ((48 + n % 10) ∷ []) ]) (lt-ltb n 10 e)

  pub last_digit : 10 ≤ n → digits k n [] ≡ digits (k - 1) (n / 10) [] ++ ((48 + n % 10) ∷ [])
  unfolding digits
  last_digit e =
      ap (λ (j : ℕ). digits j n []) (sym back)
      ∙ ap (λ (t : Bool). elim t [ true ↦ (48 + n) ∷ [] | false ↦ digits (k - 1) (n / 10) ((48 + n % 10) ∷ []) ]) (le-ltb n 10 e)
      ∙ digits_before (k - 1) (n / 10) ((48 + n % 10) ∷ [])

-- ---- where all of the text fits: it stands from the position on, and the rest of the buffer is kept

module _ {A : Type 0} where
  run : (t o : List A) (i : ℕ) → i + length t ≤ length o → write t (o, i) ≡ (sets o i t, i + length t)
  unfolding write put
  run [] o i h = ap (λ (j : ℕ). (o, j)) (let e : i ≡ i + 0 = omega arith in e)
  run (b ∷ t) o i h =
      ap (λ (x : Bool). write t (set o i b, cond x (suc i) i)) (lt-ltb i (length o) (omega (arith, h)))
      ∙ run t (set o i b) (suc i) (omega (arith, h, length-set o i b))
      ∙ ap (λ (j : ℕ). (sets (set o i b) (suc i) t, j)) (let e : suc i + length t ≡ i + suc (length t) = omega arith in e)

  module _ {t o o₁ : List A} {i j : ℕ} (w : Written t o i o₁ j) (h : i + length t ≤ length o) where
    pub whole : o₁ ≡ take i o ++ t ++ drop (i + length t) o
    whole = ap (λ (p : Spot A). p.0) (sym w.is ∙ run t o i h) ∙ sets-eq t o i h

    pub reached : j ≡ i + length t
    reached = ap (λ (p : Spot A). p.1) (sym w.is ∙ run t o i h)
