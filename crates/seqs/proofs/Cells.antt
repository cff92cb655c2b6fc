-- Numbers as they are stored, and what `==` and `!=` tell of two that were read. Assumes nothing.
use mathlib.Core.Path.{◌≡◌, refl, sym, ap, ◌∙◌}
use mathlib.Core.Bool.{Bool, true, false, not}
use Prim.Native.Nat.{ℕ, zero, suc, ◌<◌}
use native.Mathlib.Omega.{arith}
use lib.Dec.{eqb}
use borrow.Author.Tests.{eq-eqb, eqb-true}
use Rattle.std.specs.Option.{option_eq}
use Rattle.std.specs.Prelude.{Option, Some, None, is_some}
use Rattle.seqs.specs.Cells.{code, decoded}
use Rattle.seqs.specs.Seqs.{Says}

pub code_decoded : (k : ℕ) → code (decoded k) ≡ k
code_decoded zero = refl
code_decoded (suc k) = refl

pub some_of : {k : ℕ} {r : Option ℕ} → r ≡ decoded k → 0 < k → is_some r ≡ true
some_of {k = zero} e h = absurd (omega arith)
some_of {k = suc k} e h = rw e refl

-- what is stored, from what was read
pub stored : {k : ℕ} {r : Option ℕ} → r ≡ decoded k → code r ≡ k
stored {k} e = ap code e ∙ code_decoded k

pub stored_some : {k x : ℕ} {r : Option ℕ} → r ≡ decoded k → r ≡ Some x → k ≡ suc x
stored_some e w = sym (stored e) ∙ ap code w

pub stored_none : {k : ℕ} {r : Option ℕ} → r ≡ decoded k → r ≡ None → k ≡ 0
stored_none e w = sym (stored e) ∙ ap code w

pub zero_of : {k : ℕ} {r : Option ℕ} → r ≡ decoded k → is_some r ≡ false → k ≡ 0
zero_of {k = zero} e h = refl
zero_of {k = suc k} e h = let s : is_some (Some k) ≡ false = rw e at h in cc

pub above_of : {k : ℕ} {r : Option ℕ} → r ≡ decoded k → is_some r ≡ true → k ≡ 0 → ⊥
above_of {k = zero} e h z = let s : is_some {T = ℕ} None ≡ true = rw e at h in cc
above_of {k = suc k} e h z = omega arith

-- what `==` and `!=` tell of two
pub same : (a b : Option ℕ) → true ≡ option_eq eqb a b → a ≡ b
same None None e = refl
same None (Some y) e = let z : ◌≡◌ {A = ℕ} 0 1 = cc in absurd (omega arith)
same (Some x) None e = let z : ◌≡◌ {A = ℕ} 0 1 = cc in absurd (omega arith)
same (Some x) (Some y) e = ap Some (eqb-true x y (sym e))

pub not_differ : (a b : Option ℕ) → false ≡ not (option_eq eqb a b) → a ≡ b
not_differ a b e = same a b (un (option_eq eqb a b) e)
  where
    un : (t : Bool) → false ≡ not t → true ≡ t
    un true h = refl
    un false h = sym h

pub differ : (a : Option ℕ) (x : ℕ) → false ≡ option_eq eqb a (Some x) → a ≡ Some x → ⊥
differ a x e h = let same : option_eq eqb a (Some x) ≡ true = ap (λ (r : Option ℕ). option_eq eqb r (Some x)) h ∙ eq-eqb x x refl in cc

-- a test for a number says whether what is stored is above 0
pub says_some : (b : Bool) {k : ℕ} {r : Option ℕ} {P : Type 0} → b ≡ is_some r → r ≡ decoded k → (0 < k → P) → (P → 0 < k) → Says b P
says_some b {k = zero} q e f g = rw (q, e) (λ p. absurd (omega (arith, g p)))
says_some b {k = suc k} q e f g = rw (q, e) (f (omega arith))
