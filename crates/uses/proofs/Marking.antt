-- The listed blocks are marked, one after the other. Assumes nothing.
use mathlib.Core.Path.{◌≡◌, refl, sym, ap, ◌∙◌}
use mathlib.Core.Logic.{by_cases}
use mathlib.Core.Bool.{Bool, true, false, ◌||◌, or-true, or-false, or_assoc}
use mathlib.Core.List.{List}
use native.Mathlib.Numerals.{add-one}
use native.Mathlib.Decide.{ℕ_discrete}
use native.Mathlib.Omega.{arith}
use Prim.Native.Nat.{ℕ, suc, ◌+◌, ◌≤◌, ◌<◌}
use lib.Dec.{eqb}
use lib.ListN.{length, get_or, set, drop, replicate, get_or-replicate}
use Rattle.std.proofs.Math.ListN.{drop_of_length-le}
use lib.Seq.{drop-cons, get_or-set_same, get_or-set_other}
use borrow.Author.Tests.{eq-eqb, ne_eqb}
use Rattle.rules.specs.Table.{member}
use Rattle.places.specs.Store.{blk, State, Live}
use Rattle.places.specs.View.{num}
use Rattle.places.proofs.Sees.{num_inj}
use Rattle.context.specs.declared.Layout.{Layout}
use Rattle.context.specs.Memory.{state_of, SoundStore}
use Rattle.context.proofs.Places.{place<}
use Rattle.uses.specs.Retarget.{marked, MarkedOne, Marks}

module _ {l : Layout} {m : List ℕ} (S : SoundStore l m) where
  abbrev P : State
  P = state_of l m

  pub block< : (b : ℕ) → Live P (blk, b) → b < 1024
  block< b h = omega (arith, place< S (blk, b) h, S.well.caps.blocks)

  -- ---- one number

  module _ (x p : ℕ) (there : Live P (blk, p) × (num P (blk, p) ≡ x)) (w : List Bool) (long : length w ≡ 1024) where
    pub one_marked : MarkedOne l x m w (set w p true)
    one_marked = record { is = λ b h. by_cases (ℕ_discrete b p) (same b) (other b h) }
      where
        same : (b : ℕ) → b ≡ p → marked (set w p true) b ≡ (marked w b || eqb x (num P (blk, b)))
        same b q = rw q (get_or-set_same w p true false (omega (arith, long, block< p there.0)) ∙ sym (ap (λ (t : Bool). marked w p || t) (eq-eqb x (num P (blk, p)) (sym there.1)) ∙ or-true (marked w p)))

        other : (b : ℕ) → Live P (blk, b) → (b ≡ p → ⊥) → marked (set w p true) b ≡ (marked w b || eqb x (num P (blk, b)))
        other b h n =
            get_or-set_other w p b true false n
            ∙ sym (ap (λ (t : Bool). marked w b || t) (ne_eqb x (num P (blk, b)) (λ q. n (ap (λ z. z.1) (num_inj P S.sound.linked.tabs (blk, b) (blk, p) refl h there.0 (sym q ∙ sym there.1))))) ∙ or-false (marked w b))

-- ---- all numbers: a block is marked, or what is left decides

pub record Marking (l : Layout) (fs m : List ℕ) (i : ℕ) (w : List Bool) : Type 0 where
  pub is : (b : ℕ) → Live (state_of l m) (blk, b) → (marked w b || member (num (state_of l m) (blk, b)) (drop i fs)) ≡ member (num (state_of l m) (blk, b)) (drop 2 fs)

module _ {l : Layout} {m : List ℕ} (fs : List ℕ) where
  pub begins : SoundStore l m → {w : List Bool} → w ≡ replicate 1024 false → Marking l fs m 2 w
  begins S e = record { is = λ b h. ap (λ (t : Bool). t || member (num (state_of l m) (blk, b)) (drop 2 fs)) (ap (λ (v : List Bool). marked v b) e ∙ get_or-replicate 1024 b false false (block< S b h)) }

  pub goes_on : {i x : ℕ} {w w' : List Bool} → Marking l fs m i w → i < length fs → x ≡ get_or fs i 0 → MarkedOne l x m w w' → Marking l fs m (i + 1) w'
  unfolding member
  goes_on {i} {x} {w} {w'} G h e M = record { is = step }
    where
      step : (b : ℕ) → Live (state_of l m) (blk, b) → (marked w' b || member (num (state_of l m) (blk, b)) (drop (i + 1) fs)) ≡ member (num (state_of l m) (blk, b)) (drop 2 fs)
      step b lb =
          let n = num (state_of l m) (blk, b) in
          ap (λ (j : ℕ). marked w' b || member n (drop j fs)) (add-one i)
          ∙ ap (λ (t : Bool). t || member n (drop (suc i) fs)) (M.is b lb)
          ∙ or_assoc (marked w b) (eqb x n) (member n (drop (suc i) fs))
          ∙ ap (λ (y : ℕ). marked w b || (eqb y n || member n (drop (suc i) fs))) e
          ∙ ap (λ (us : List ℕ). marked w b || member n us) (sym (drop-cons fs i 0 h))
          ∙ G.is b lb

  pub ends : {i : ℕ} {w : List Bool} → Marking l fs m i w → length fs ≤ i → Marks l (drop 2 fs) m w
  unfolding member
  ends {i} {w} G h = record { is = λ b lb. sym (ap (λ (t : Bool). marked w b || t) (ap (member (num (state_of l m) (blk, b))) (drop_of_length-le fs h)) ∙ or-false (marked w b)) ∙ G.is b lb }
