-- The lists fix the slice; a dead thing's lists are empty. Assumes nothing.
use mathlib.Core.Path.{◌≡◌, refl, sym, ◌∙◌, subst}
use mathlib.Core.Logic.{by_cases}
use mathlib.Core.List.{List}
use native.Mathlib.Decide.{dec_lt}
use native.Mathlib.Omega.{arith}
use Prim.Native.Nat.{ℕ, zero, suc, ◌+◌, ◌-◌, ◌*◌, ◌<◌}
use lib.ListN.{length, get_or}
use lib.Seq.{ext_get_or}
use Rattle.std.specs.Prelude.{Option}
use Rattle.places.specs.Store.{Fam}
use Rattle.seqs.specs.Cells.{decoded}
use Rattle.linked_list.specs.Links.{at, Links}
use Rattle.linked_list.proofs.Laws.{at_end}
use Rattle.seqs.proofs.Cells.{stored}
use Rattle.linked_list.proofs.Getters.{cells, tail_cell}
use Rattle.sound_parts.specs.Cross.{conts, Holder, Crossed}
use Rattle.sound_parts.specs.Memory.{Mem, row_at, cells_of, Formed}

-- two numbers that mean the same are the same
same : {a b : ℕ} {r : Option ℕ} → decoded a ≡ r → decoded b ≡ r → a ≡ b
same e f = sym (stored (sym e)) ∙ stored (sym f)

module _ (nc nn : ℕ) (s s' : List ℕ) (ls : List (List ℕ)) (K : Links nc nn s ls) (K' : Links nc nn s' ls) where
  moved : (i j : ℕ) → j ≡ i → get_or s j 0 ≡ get_or s' j 0 → get_or s i 0 ≡ get_or s' i 0
  moved i j w e = subst (λ (k : ℕ). get_or s k 0 ≡ get_or s' k 0) w e

  cell : (i : ℕ) → i < length s → get_or s i 0 ≡ get_or s' i 0
  cell i h =
      by_cases (dec_lt i nc)
      (λ a. (K.row i a).next zero (omega arith) ∙ sym ((K'.row i a).next zero (omega arith)))
      (λ a. by_cases (dec_lt i (2 * nc))
      (λ b. moved i (nc + (i - nc)) (omega arith) (tail_cell (K.row (i - nc) (omega arith)) ∙ sym (tail_cell (K'.row (i - nc) (omega arith)))))
      (λ b. by_cases (dec_lt i (2 * nc + nn))
      (λ d. moved i (2 * nc + (i - 2 * nc)) (omega arith) (same (cells K (i - 2 * nc) (omega arith)).next (cells K' (i - 2 * nc) (omega arith)).next))
      (λ d. by_cases (dec_lt i (2 * nc + 2 * nn))
      (λ e. moved i (2 * nc + nn + (i - (2 * nc + nn))) (omega arith) (same (cells K (i - (2 * nc + nn)) (omega arith)).prev (cells K' (i - (2 * nc + nn)) (omega arith)).prev))
      (λ e. let z : length s ≡ 2 * nc + 3 * nn = K.size in moved i (2 * nc + 2 * nn + (i - (2 * nc + 2 * nn))) (omega arith) (same (cells K (i - (2 * nc + 2 * nn)) (omega arith)).cont (cells K' (i - (2 * nc + 2 * nn)) (omega arith)).cont)))))

  pub links_canonical : s ≡ s'
  links_canonical = ext_get_or 0 s s' (K.size ∙ sym K'.size) cell

-- what does not live has empty lists: no test of heads is wanted
pub dead_empty : (m : Mem) → Formed m → Crossed (cells_of m) → (f : Fam) (c : ℕ) → c < conts m.cap f → (Holder (cells_of m) f c → ⊥) → length (row_at m.cap m.family f c) ≡ 0
dead_empty m W X f c h n = go (at (row_at m.cap m.family f c) zero) refl
  where
    go : (x : ℕ) → at (row_at m.cap m.family f c) zero ≡ x → length (row_at m.cap m.family f c) ≡ 0
    go zero e = omega (arith, at_end (row_at m.cap m.family f c) zero e)
    go (suc x) e = absurd (n (X.node f x (((W.links f).row c h).own zero x e).0 c (((W.links f).row c h).own zero x e).1).1)
