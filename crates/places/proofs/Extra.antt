-- Lists of lists as functions, and removal by index as removal by element. Assumes nothing.
use mathlib.Core.Path.{◌≡◌, refl, sym, ap, ◌∙◌}
use mathlib.Core.Logic.{if_pos, if_neg, by_cases}
use mathlib.Core.HLevel.{Discrete}
use mathlib.Core.List.{List, [], ◌∷◌}
use native.Mathlib.Decide.{ℕ_discrete}
use native.Mathlib.Omega.{arith}
use Prim.Native.Nat.{ℕ, zero, suc, ◌<◌}
use lib.ListN.{length, get_or, set}
use lib.Seq.{get_or-set_same, get_or-set_other}
use Rattle.seqs.specs.Seqs.{upd, count, In, without, seq_remove_at}
use Rattle.seqs.proofs.Base.{upd_at, upd_other, tick_yes, tick_no, in_head}

-- what a lower crate says of `set ls c l` is an update of the rows
pub rows_set : {A : Type 0} (ls : List A) (c : ℕ) (l z : A) → c < length ls → (j : ℕ) → get_or (set ls c l) j z ≡ upd ℕ_discrete (λ k. get_or ls k z) c l j
rows_set ls c l z h j =
    by_cases (ℕ_discrete j c)
    (λ e. rw (upd_at ℕ_discrete (λ k. get_or ls k z) c l e, e) (get_or-set_same ls c l z h))
    (λ n. get_or-set_other ls c j l z n ∙ sym (upd_other ℕ_discrete (λ k. get_or ls k z) c l n))

module _ {A : Type 0} (d : Discrete A) where
  pub without_none : (x : A) (l : List A) → count d x l ≡ 0 → without d x l ≡ l
  without_none x [] h = refl
  without_none x (y ∷ l) h = if_neg (d y x) (λ e. absurd (omega (arith, tick_yes (d x y) (sym e)))) (without d x l) (y ∷ without d x l) ∙ ap {B = List A} (λ r. y ∷ r) (without_none x l (omega arith))

  pub without_head : (x y : A) (l : List A) → y ≡ x → count d x l ≡ 0 → without d x (y ∷ l) ≡ l
  without_head x y l e z = if_pos (d y x) e (without d x l) (y ∷ without d x l) ∙ without_none x l z

  pub in_at : (l : List A) (i : ℕ) (z : A) → i < length l → In d (get_or l i z) l
  in_at [] i z h = absurd (omega arith)
  in_at (y ∷ l) zero z h = in_head d y l
  in_at (y ∷ l) (suc i) z h = omega (arith, in_at l i z (omega arith))

  -- where each element stands once, to take out the i-th is to take it out by name
  pub remove_at_without : (l : List A) (i : ℕ) (z : A) → i < length l → count d (get_or l i z) l ≡ 1 → seq_remove_at i l ≡ without d (get_or l i z) l
  remove_at_without [] i z h o = absurd (omega arith)
  remove_at_without (y ∷ l) zero z h o = sym (if_pos (d y y) refl (without d y l) (y ∷ without d y l) ∙ without_none y l (omega (arith, tick_yes (d y y) refl)))
  remove_at_without (y ∷ l) (suc i) z h o =
      by_cases (d y (get_or l i z))
      (λ e. absurd (omega (arith, tick_yes (d (get_or l i z) y) (sym e), in_at l i z (omega arith))))
      (λ n. ap {B = List A} (λ r. y ∷ r) (remove_at_without l i z (omega arith) (omega (arith, tick_no (d (get_or l i z) y) (λ e. n (sym e))))) ∙ sym (if_neg (d y (get_or l i z)) n (without d (get_or l i z) l) (y ∷ without d (get_or l i z) l)))
