-- The answers that stand in words, three for each, are read back. Assumes nothing.
use mathlib.Core.Path.{◌≡◌, refl, ap, ap₂, ◌∙◌}
use mathlib.Core.List.{List, [], ◌∷◌}
use native.Mathlib.Omega.{arith}
use Prim.Native.Nat.{ℕ, zero, suc, ◌+◌, ◌*◌}
use lib.ListN.{length, get_or}
use Rattle.edit.specs.Answer.{Reply}
use Rattle.listing.specs.Lines.{reply_listed, replies_from}

module _ (a b c : ℕ) (ws : List ℕ) where
  past : (i j : ℕ) → i ≡ suc (suc (suc j)) → get_or (a ∷ b ∷ c ∷ ws) i 0 ≡ get_or ws j 0
  past i j e = ap (λ (k : ℕ). get_or (a ∷ b ∷ c ∷ ws) k 0) e

  next : (i : ℕ) → reply_listed (a ∷ b ∷ c ∷ ws) (suc i) ≡ reply_listed ws i
  next i = λ k. record { refusal = past (3 * suc i) (3 * i) (omega arith) k; a = past (3 * suc i + 1) (3 * i + 1) (omega arith) k; b = past (3 * suc i + 2) (3 * i + 2) (omega arith) k }

  shifted : (i n : ℕ) → replies_from (a ∷ b ∷ c ∷ ws) (suc i) n ≡ replies_from ws i n
  shifted i zero = refl
  shifted i (suc n) = ap₂ ◌∷◌ (next i) (shifted (suc i) n)

-- flat lays answers out in words
module _ (flat : List Reply → List ℕ) (laid : (r : Reply) (rs : List Reply) → flat (r ∷ rs) ≡ r.refusal ∷ r.a ∷ r.b ∷ flat rs) where
  pub read_back : (rs : List Reply) → replies_from (flat rs) 0 (length rs) ≡ rs
  read_back [] = refl
  read_back (r ∷ rs) =
      ap (λ (t : List ℕ). replies_from t 0 (suc (length rs))) (laid r rs)
      ∙ ap (λ (t : List Reply). r ∷ t) (shifted r.refusal r.a r.b (flat rs) 0 (length rs) ∙ read_back rs)
