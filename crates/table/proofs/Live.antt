-- A table's live things by places: a place stands in the live list exactly where it has a stamp, and with the number that the stamp says.
-- Assumes nothing.
use Rattle.std.proofs.Common.{◌≡◌, refl, sym, ap, ◌∙◌, ◌≢◌, List, [], ◌∷◌, ◌++◌, ℕ, zero, suc, ◌+◌, ◌-◌, ◌<◌, arith, length, get_or, length-append}
use mathlib.Core.Logic.{if_pos, if_neg, by_cases}
use native.Mathlib.Decide.{ℕ_discrete}
use lib.ListN.{get_or-map}
use Rattle.std.specs.Prelude.{Some, None}
use Rattle.table.specs.Table.{Table, order, stamp, live, entry, tab, find_in}
use Rattle.table.specs.Table.{count as lives}
use Rattle.table.proofs.Facts.{find_iff}
use Rattle.table.proofs.Canon.{tab_get}
use Rattle.seqs.specs.Seqs.{count}
use Rattle.seqs.specs.Entries.{lookup, places}
use Rattle.seqs.proofs.Base.{count_append, map_append, tick_yes, tick_no}

abbrev Entry : Type 0
Entry = ℕ × ℕ

abbrev C : ℕ → List Entry → ℕ
C p l = count ℕ_discrete p (places l)

count_snoc : (p : ℕ) (l : List Entry) (e : Entry) → C p (l ++ e ∷ []) ≡ C p l + C p (e ∷ [])
count_snoc p l e = ap (count ℕ_discrete p) (map_append (λ (x : Entry). x.1) l (e ∷ [])) ∙ count_append ℕ_discrete p (places l) (places (e ∷ []))

pub tab_in : (f : ℕ → Entry) (m p : ℕ) → 0 < C p (tab f m) → (i : ℕ) × (i < m) × ((f i).1 ≡ p)
unfolding tab
tab_in f zero p h = absurd (omega arith)
tab_in f (suc m) p h =
    by_cases (ℕ_discrete p (f m).1) (λ e. (m, omega arith, sym e))
    (λ d. let w : (i : ℕ) × (i < m) × ((f i).1 ≡ p) = tab_in f m p (omega (arith, h, count_snoc p (tab f m) (f m), tick_no (ℕ_discrete p (f m).1) d)) in (w.0, omega (arith, w.1), w.2))

in_tab : (f : ℕ → Entry) (m p i : ℕ) → i < m → (f i).1 ≡ p → 0 < C p (tab f m)
unfolding tab
in_tab f zero p i h e = absurd (omega arith)
in_tab f (suc m) p i h e =
    by_cases (ℕ_discrete i m)
    (λ a. omega (arith, count_snoc p (tab f m) (f m), tick_yes (ℕ_discrete p (f m).1) (sym e ∙ ap (λ (j : ℕ). (f j).1) a)))
    (λ b. omega (arith, count_snoc p (tab f m) (f m), in_tab f m p i (omega (arith, b)) e))

-- every entry's number is g of its place
abbrev All : (ℕ → ℕ) → List Entry → Type 0
All g [] = Unit {0}
All g (e ∷ l) = (e.0 ≡ g e.1) × All g l

all_snoc : (g : ℕ → ℕ) (l : List Entry) (e : Entry) → All g l → e.0 ≡ g e.1 → All g (l ++ e ∷ [])
all_snoc g [] e a h = (h, tt)
all_snoc g (x ∷ l) e a h = (a.0, all_snoc g l e a.1 h)

all_tab : (g : ℕ → ℕ) (f : ℕ → Entry) (m : ℕ) → ((i : ℕ) → i < m → (f i).0 ≡ g (f i).1) → All g (tab f m)
unfolding tab
all_tab g f zero h = tt
all_tab g f (suc m) h = all_snoc g (tab f m) (f m) (all_tab g f m (λ i l. h i (omega arith))) (h m (omega arith))

lookup_all : (g : ℕ → ℕ) (l : List Entry) (p : ℕ) → All g l → 0 < C p l → lookup l p ≡ g p
lookup_all g [] p a h = absurd (omega arith)
lookup_all g (e ∷ l) p a h =
    by_cases (ℕ_discrete p e.1)
    (λ y. if_pos (ℕ_discrete p e.1) y e.0 (lookup l p) ∙ a.0 ∙ ap g (sym y))
    (λ n. if_neg (ℕ_discrete p e.1) n e.0 (lookup l p) ∙ lookup_all g l p a.1 (omega (arith, h, tick_no (ℕ_discrete p e.1) n)))

pub length_live : (f : ℕ → Entry) (m : ℕ) → length (places (tab f m)) ≡ m
unfolding tab
length_live f zero = refl
length_live f (suc m) = ap length (map_append (λ (x : Entry). x.1) (tab f m) (f m ∷ [])) ∙ length-append (places (tab f m)) ((f m).1 ∷ []) ∙ omega (arith, length_live f m)

module _ {n : ℕ} {t : List ℕ} (T : Table n t) where
  pub live_stamp : (p : ℕ) → 0 < count ℕ_discrete p (places (live n t)) → (p < n) × (0 < stamp n t p)
  live_stamp p h =
      let w : (i : ℕ) × (i < lives t) × (order t i ≡ p) = tab_in (entry n t) (lives t) p h in
      (omega (arith, T.inside w.0 w.1, w.2), omega (arith, T.used w.0 w.1, ap (stamp n t) w.2))

  pub stamp_live : (p : ℕ) → p < n → 0 < stamp n t p → 0 < count ℕ_discrete p (places (live n t))
  stamp_live p h u = let w : (i : ℕ) × (i < lives t) × (order t i ≡ p) = T.found p h u in in_tab (entry n t) (lives t) p w.0 w.1 w.2

  pub live_number : (p : ℕ) → 0 < count ℕ_discrete p (places (live n t)) → lookup (live n t) p + 1 ≡ stamp n t p
  live_number p h = omega (arith, lookup_all (λ q. stamp n t q - 1) (live n t) p (all_tab (λ q. stamp n t q - 1) (entry n t) (lives t) (λ i l. refl)) h, live_stamp p h)

  pub free_dead : (p : ℕ) → stamp n t p ≡ 0 → count ℕ_discrete p (places (live n t)) ≡ 0
  free_dead p z = by_cases (ℕ_discrete (count ℕ_discrete p (places (live n t))) 0) (λ y. y) (λ d. absurd (omega (arith, z, (live_stamp p (omega (arith, d))).1)))

  pub found_at : (x p : ℕ) → find_in (live n t) x ≡ Some p → (0 < count ℕ_discrete p (places (live n t))) × (lookup (live n t) p ≡ x)
  found_at x p e =
      let w : (p < n) × (stamp n t p ≡ x + 1) = (find_iff n t T x p).0 e in
      let h : 0 < count ℕ_discrete p (places (live n t)) = stamp_live p w.0 (omega (arith, w.1)) in
      (h, omega (arith, live_number p h, w.1))

  pub found_none : (x p : ℕ) → find_in (live n t) x ≡ None → 0 < count ℕ_discrete p (places (live n t)) → lookup (live n t) p ≢ x
  found_none x p e h g =
      let y : find_in (live n t) x ≡ Some p = (find_iff n t T x p).1 ((live_stamp p h).0, omega (arith, live_number p h, g)) in
      let z : ◌≡◌ {A = ℕ} 0 1 = cc in
      omega arith

  -- the live place at an index
  pub live_nth : (i : ℕ) → i < lives t → get_or (places (live n t)) i 0 ≡ order t i
  live_nth i h = get_or-map (λ (e : Entry). e.1) (live n t) i (0, 0) ∙ ap (λ (e : Entry). e.1) (tab_get (entry n t) (lives t) i h)

  pub nth_live : (i : ℕ) → i < lives t → 0 < count ℕ_discrete (get_or (places (live n t)) i 0) (places (live n t))
  nth_live i h = rw (live_nth i h) (stamp_live (order t i) (T.inside i h) (T.used i h))
