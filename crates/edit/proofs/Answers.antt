-- An answer's three words among the others. Assumes nothing.
use mathlib.Core.Path.{◌≡◌, ◌∙◌}
use mathlib.Core.List.{List}
use Prim.Native.Nat.{ℕ, ◌+◌, ◌*◌, ◌≤◌}
use native.Mathlib.Omega.{arith}
use lib.ListN.{length, get_or, set, length-set}
use lib.Seq.{get_or-set_same, get_or-set_other}
use Rattle.edit.specs.Answer.{numbers, Put}

module _ (m : List ℕ) (k n a b : ℕ) (room : 3 * k + 3 ≤ length m) where
  m₁ : List ℕ
  m₁ = set m (3 * k) n

  m₂ : List ℕ
  m₂ = set m₁ (3 * k + 1) a

  others : (i : ℕ) → (i ≡ 3 * k → ⊥) → (i ≡ 3 * k + 1 → ⊥) → (i ≡ 3 * k + 2 → ⊥) → get_or (set m₂ (3 * k + 2) b) i 0 ≡ get_or m i 0
  unfolding m₁ m₂
  others i d₀ d₁ d₂ = get_or-set_other m₂ (3 * k + 2) i b 0 d₂ ∙ get_or-set_other m₁ (3 * k + 1) i a 0 d₁ ∙ get_or-set_other m (3 * k) i n 0 d₀

  pub put_three : Put m (set (set (set m (3 * k) n) (3 * k + 1) a) (3 * k + 2) b) k (numbers n a b)
  unfolding m₁ m₂
  put_three =
      let l₁ : length m₁ ≡ length m = length-set m (3 * k) n in
      let l₂ : length m₂ ≡ length m₁ = length-set m₁ (3 * k + 1) a in
      let first : get_or (set m₂ (3 * k + 2) b) (3 * k) 0 ≡ n =
      get_or-set_other m₂ (3 * k + 2) (3 * k) b 0 (λ e. omega arith) ∙ get_or-set_other m₁ (3 * k + 1) (3 * k) a 0 (λ e. omega arith) ∙ get_or-set_same m (3 * k) n 0 (omega arith)
      in
      let second : get_or (set m₂ (3 * k + 2) b) (3 * k + 1) 0 ≡ a =
      get_or-set_other m₂ (3 * k + 2) (3 * k + 1) b 0 (λ e. omega arith) ∙ get_or-set_same m₁ (3 * k + 1) a 0 (omega arith)
      in
      let third : get_or (set m₂ (3 * k + 2) b) (3 * k + 2) 0 ≡ b = get_or-set_same m₂ (3 * k + 2) b 0 (omega arith) in
      record {
        long = length-set m₂ (3 * k + 2) b ∙ l₂ ∙ l₁;
        here = cc;
        before = λ i h. others i (λ e. omega arith) (λ e. omega arith) (λ e. omega arith);
        after = λ i h. others i (λ e. omega arith) (λ e. omega arith) (λ e. omega arith);
      }
