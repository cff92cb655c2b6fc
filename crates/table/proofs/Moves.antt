-- What an end has to write: from the ended thing on each entry of the order but the last becomes that of the next younger thing, which is another, so whatever meets the contract of `end` writes a word for each younger thing. Assumes nothing.
use Rattle.std.proofs.Common.{◌≡◌, refl, sym, ap, ◌∙◌, ◌⊎◌, inl, inr, ⊎_elim, List, ℕ, suc, ◌-◌, ◌≤◌, ◌<◌, arith, length, get_or}
use Rattle.bits.proofs.Digits.{le_or_lt}
use Rattle.table.specs.Table.{Table, Ended, count, order, stamp, live, entry, tab, without}
use Rattle.table.proofs.Laws.{without_one, tri}
use Rattle.table.proofs.Canon.{length_tab, tab_get}

module _ {n : ℕ} {t t' : List ℕ} {p : ℕ} (T : Table n t) (E : Ended n t t' p) (k : ℕ) (here : k < count t) (at : order t k ≡ p) where
  -- no two of the live stand at one place
  apart : (i j : ℕ) → i < count t → j < count t → (i ≡ j → ⊥) → order t i ≡ order t j → ⊥
  apart i j a b d e =
      ⊎_elim (λ l. absurd (omega (arith, T.rising i j l b, ap (stamp n t) e)))
      (⊎_elim (λ q. d q) (λ l. absurd (omega (arith, T.rising j i l a, ap (stamp n t) e))))
      (tri i j)

  -- what is left, the gap closed
  closed : ℕ → ℕ × ℕ
  closed i = ⊎_elim (λ _. entry n t (suc i)) (λ _. entry n t i) (le_or_lt k i)

  before : (i : ℕ) → i < k → closed i ≡ entry n t i
  unfolding closed
  before i l = go (le_or_lt k i)
    where
      go : (d : (k ≤ i) ⊎ (i < k)) → ⊎_elim (λ _. entry n t (suc i)) (λ _. entry n t i) d ≡ entry n t i
      go (inl h) = absurd (omega arith)
      go (inr h) = refl

  after : (i : ℕ) → k ≤ i → closed i ≡ entry n t (suc i)
  unfolding closed
  after i l = go (le_or_lt k i)
    where
      go : (d : (k ≤ i) ⊎ (i < k)) → ⊎_elim (λ _. entry n t (suc i)) (λ _. entry n t i) d ≡ entry n t (suc i)
      go (inl h) = refl
      go (inr h) = absurd (omega arith)

  lives : live n t' ≡ tab closed (count t - 1)
  lives =
      let one : count t ≡ suc (count t - 1) = omega (arith, here) in
      E.lives ∙ ap (λ (c : ℕ). without p (tab (entry n t) c)) one
      ∙ without_one (entry n t) closed p k (count t - 1) (omega (arith, here)) at (λ i l d e. apart i k (omega arith) here d (e ∙ sym at)) before (λ i l r. after i l)

  fewer : count t' ≡ count t - 1
  fewer = sym (length_tab (entry n t') (count t')) ∙ ap length lives ∙ length_tab closed (count t - 1)

  pub moved : (i : ℕ) → k ≤ i → suc i < count t → order t' i ≡ order t (suc i)
  moved i l r =
      ap (λ (e : ℕ × ℕ). e.1)
      (sym (tab_get (entry n t') (count t') i (omega (arith, fewer))) ∙ ap (λ (x : List (ℕ × ℕ)). get_or x i (0, 0)) lives ∙ tab_get closed (count t - 1) i (omega arith) ∙ after i l)

  pub must_move : (i : ℕ) → k ≤ i → suc i < count t → order t' i ≡ order t i → ⊥
  must_move i l r e = apart (suc i) i r (omega arith) (λ q. absurd (omega (arith, q))) (sym (moved i l r) ∙ e)
