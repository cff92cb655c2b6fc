-- Groups of cells, and whether they are full. Assumes nothing.
use Rattle.std.proofs.Common.{◌≡◌, sym, ap, ◌∙◌, ⊎_elim, ℕ, ◌+◌, ◌-◌, ◌*◌, ◌/◌, ◌%◌, ◌^◌, ◌≤◌, ◌<◌, List, length, get_or, drop, arith, Option, Some, None, Bor, IsTrue, option_map}
use Rattle.std.proofs.lemmas.Bool.{cases_lt, cases_eq}
use Rattle.std.proofs.lemmas.List.{get_or_default, get_or-drop}
use Rattle.std.proofs.lemmas.Nat.{div-add-mod', div_below, mod_below}
use Rattle.std.proofs.lemmas.Option.{none-some}
use Rattle.std.specs.List.{IsSubsliceAt}
use Rattle.std.specs.Option.{MatchOption, IfSome, IsSomeAnd}
use Rattle.std.specs.Iterator.Runs.{Run, AllItems, AllItemsBelow, IsChunksExactRun}
use Rattle.bits.specs.Map.{Full, FullGroups, Opens, Marked, Skipped}
use Rattle.bits.proofs.Digits.{full_bit}

-- x is group k of n cells of b
abbrev Group : ℕ → List ℕ → ℕ → List ℕ → Type 0
Group n b k x = (length x ≡ n) × (k * n + n ≤ length b) × IsSubsliceAt n b (k * n) x

group_full : (n : ℕ) (b : List ℕ) (k : ℕ) (x : List ℕ) → Group n b k x → Full x → (j : ℕ) → j < n → get_or b (k * n + j) 0 ≡ 4294967295
group_full n b k x G F j l = sym (G.2.2 j 0 l) ∙ F j 0 (omega (arith, G.0))

full_group : (n : ℕ) (b : List ℕ) (k : ℕ) (x : List ℕ) → Group n b k x → ((j : ℕ) → j < n → get_or b (k * n + j) 0 ≡ 4294967295) → Full x
full_group n b k x G h j d l = get_or_default x j d 0 l ∙ G.2.2 j 0 (omega (arith, G.0)) ∙ h j (omega (arith, G.0))

-- of a run over the groups, the first item at which the calls answered `Yes`
module _ {S : Type 0} {steps : S → Option (Bor (List ℕ)) → S → Type 0} (n : ℕ) (b : List ℕ) (p : Run steps) (C : IsChunksExactRun p n b)
    (Yes No : Bor (List ℕ) → Type 0) (no : (x : Bor (List ℕ)) → No x → Full x.now) (yes : (x : Bor (List ℕ)) → Yes x → ¬ Full x.now) where
  passed : (k : ℕ) (o : Option (Bor (List ℕ))) → IfSome o (λ x. Group n b k x.now) → IsSomeAnd o No → (j : ℕ) → j < n → get_or b (k * n + j) 0 ≡ 4294967295
  passed k None G h = absurd h
  passed k (Some x) G h = group_full n b k x.now G (no x h)

  stopped : (k : ℕ) (o : Option (Bor (List ℕ))) → IfSome o (λ x. Group n b k x.now) → IsSomeAnd o Yes
      → (k * n + n ≤ length b) × (¬ ((j : ℕ) → j < n → get_or b (k * n + j) 0 ≡ 4294967295))
  stopped k None G h = absurd h
  stopped k (Some x) G h = (G.1, λ F. yes x h (full_group n b k x.now G F))

  given : (o : Option (Bor (List ℕ))) {z : Bor (List ℕ)} → option_map (λ y. y) o ≡ Some z → IfSome o No → IsSomeAnd o No
  given None e h = absurd (none-some _ e)
  given (Some x) e h = h

  pub opens : {K : Type 0} (d : Bor (List ℕ)) (r : Option ℕ) → K
      → MatchOption r (IsTrue p.whole × (K → AllItems p No)) (λ i. (p.len ≡ i + 1) × (K → IsSomeAnd (p.at i) Yes × AllItemsBelow p i No)) → Opens n b r
  opens d None keep h = λ k l. passed k (p.at k) (C.2 k) (given (p.at k) (p.reads k d (omega (arith, C.1 h.0))) (h.1 keep k))
  opens d (Some i) keep h =
      let s : (i * n + n ≤ length b) × (¬ ((j : ℕ) → j < n → get_or b (i * n + j) 0 ≡ 4294967295)) = stopped i (p.at i) (C.2 i) (h.1 keep).0 in
      (s.0, λ k l. passed k (p.at k) (C.2 k) ((h.1 keep).1 k l), s.1)

-- ---- the cells of full groups
-- cell c is cell j of group k
at_cell : (n : ℕ) (b : List ℕ) (i c : ℕ) → 0 < n → FullGroups n b i → c < i * n → get_or b c 0 ≡ 4294967295
at_cell n b i c z F l = ap (λ (x : ℕ). get_or b x 0) (sym (div-add-mod' c n)) ∙ F (c / n) (div_below c n i z l) (c % n) (mod_below c n z)

-- the places of full cells are marked
marked : (b : List ℕ) (m : ℕ) → ((c : ℕ) → c < m → get_or b c 0 ≡ 4294967295) → Marked b m
marked b m h = record { all = λ i l. full_bit (get_or b (i / 32) 0) (i % 32) (h (i / 32) (omega arith)) (omega arith) }

-- below the first group of 16 that is not full
pub skipped : (b : List ℕ) (i : ℕ) → i ≤ length b / 16 → FullGroups 16 b i → Skipped b (16 * i)
skipped b i l F = record { even = omega arith; inside = omega arith; below = marked b (16 * i) (λ c q. at_cell 16 b i c (omega arith) F (omega arith)) }

-- past the cells that were skipped, each group of two is a word
pub words : (b : List ℕ) (k i : ℕ) → Skipped b k → FullGroups 2 (drop k b) i → Marked b (k + 2 * i)
words b k i S F = record {
  all = λ p l. ⊎_elim
      (λ q. S.below.all p q)
      (λ q. full_bit (get_or b (p / 32) 0) (p % 32)
      (ap (λ (x : ℕ). get_or b x 0) (omega arith) ∙ sym (get_or-drop k b (p / 32 - k) 0) ∙ at_cell 2 (drop k b) i (p / 32 - k) (omega arith) F (omega arith)) (omega arith))
      (cases_lt p (32 * k));
}

-- a word that is not full
pub open_word : (b : List ℕ) (k i w : ℕ) → ((j : ℕ) → get_or b j 0 < 2 ^ 32) → w ≡ get_or b (k + 2 * i + 1) 0 * 4294967296 + get_or b (k + 2 * i) 0
    → (¬ ((j : ℕ) → j < 2 → get_or (drop k b) (i * 2 + j) 0 ≡ 4294967295)) → w ≡ 18446744073709551615 → ⊥
open_word b k i w l e d f = d (λ j h. get_or-drop k b (i * 2 + j) 0 ∙ ⊎_elim
    (λ z. ap (λ (x : ℕ). get_or b x 0) (omega arith) ∙ low)
    (λ z. ap (λ (x : ℕ). get_or b x 0) (omega arith) ∙ high) (cases_eq j 0))
  where
    low : get_or b (k + 2 * i) 0 ≡ 4294967295
    low = omega (arith, l (k + 2 * i), l (k + 2 * i + 1))

    high : get_or b (k + 2 * i + 1) 0 ≡ 4294967295
    high = omega (arith, l (k + 2 * i), l (k + 2 * i + 1))
