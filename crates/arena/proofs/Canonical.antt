-- The whole slice is a function of the next number and of the live things: nothing of what was before stays in a free cell.
-- Assumes nothing.
use Rattle.std.proofs.Common.{◌≡◌, sym, ap, ap₂, ◌∙◌, subst, ⊎_elim, List, ◌++◌, ℕ, ◌+◌, ◌-◌, ◌^◌, ◌<◌, length, get_or, length-drop, take-append-drop, get_or-drop}
use Rattle.bits.proofs.Digits.{le_or_lt, bits_ext}
use Rattle.table.specs.Table.{next, stamp, sign, live}
use Rattle.table.proofs.Canon as table
use Rattle.arena.specs.Packed.{Packed, front, back, cells}

-- two arenas with the same next number and the same live things are equal, number for number (a slice's numbers have 32 bits)
pub canonical : (n : ℕ) (m m' : List ℕ) → Packed n m → Packed n m' → ((i : ℕ) → get_or m i 0 < 2 ^ 32) → ((i : ℕ) → get_or m' i 0 < 2 ^ 32) → next (front n m) ≡ next (front n m') → live n (front n m) ≡ live n (front n m') → m ≡ m'
canonical n m m' P P' u u' eN eL =
    let f : front n m ≡ front n m' = table.canonical n (front n m) (front n m') P.table P'.table eN eL in
    let long : length (back n m) ≡ length (back n m') = length-drop (cells n) m ∙ ap (λ (x : ℕ). x - cells n) (P.size ∙ sym P'.size) ∙ sym (length-drop (cells n) m') in
    let b : back n m ≡ back n m' = bits_ext (back n m) (back n m') long (λ i. subst (λ (x : ℕ). x < 2 ^ 32) (sym (get_or-drop (cells n) m i 0)) (u (cells n + i))) (λ i. subst (λ (x : ℕ). x < 2 ^ 32) (sym (get_or-drop (cells n) m' i 0)) (u' (cells n + i)))
    (λ p. ⊎_elim (λ h. P.spare p h ∙ sym (P'.spare p h)) (λ h. P.marks p h ∙ ap (λ (x : List ℕ). sign (stamp n x p)) f ∙ sym (P'.marks p h)) (le_or_lt n p)) in
    sym (take-append-drop (cells n) m) ∙ ap₂ (λ (x y : List ℕ). x ++ y) f b ∙ take-append-drop (cells n) m'
