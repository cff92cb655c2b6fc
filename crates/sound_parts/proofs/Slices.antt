-- The slices are read as the store's parts. Assumes nothing.
use mathlib.Core.Path.{◌≡◌, refl, sym, ap, ◌∙◌, subst}
use mathlib.Core.Logic.{◌≢◌, ◌↔◌, by_cases}
use mathlib.Core.List.{List, [], ◌∷◌, ◌++◌}
use native.Mathlib.Decide.{ℕ_discrete, dec_lt}
use native.Mathlib.Omega.{arith}
use Prim.Native.Nat.{ℕ, zero, suc, ◌+◌, ◌-◌, ◌<◌, ◌≤◌}
use lib.ListN.{length, get_or, length-map, length-append, get_or-eq_default}
use Rattle.seqs.specs.Seqs.{upd, tick, count, In, Rises}
use Rattle.places.specs.Store.{op, Tab}
use Rattle.places.specs.Parts.{lookup, places, table_of}
use Rattle.seqs.proofs.Base.{upd_at, upd_other, tick_yes, tick_no, count_append, map_append, rises_snoc, rises_on}
use Rattle.places.proofs.Bridge.{lookup_new}
use Rattle.table.specs.Table.{Table, stamp, order, live, entry, tab}
use Rattle.table.specs.Table as T
use Rattle.linked_list.specs.Links.{at, Linked, lists, home}
use Rattle.linked_list.proofs.Laws.{at_inj, at_lt}
use Rattle.linked_list.proofs.View.{seat, Seat}
use Rattle.sound_parts.specs.Cross.{sits, Reads}
use Rattle.sound_parts.specs.Memory.{Mem, nc, nn, cells_of, parts_of, Formed, Checked, SoundMem}
use Rattle.sound_parts.proofs.Cross.{crossed_iff}

-- ---- a table

module _ (n : ℕ) (t : List ℕ) (B : Table n t) where
  abbrev up_to : ℕ → List (ℕ × ℕ)
  up_to m = tab (entry n t) m

  placed_more : (m p : ℕ) → count ℕ_discrete p (places (up_to (suc m))) ≡ count ℕ_discrete p (places (up_to m)) + tick (ℕ_discrete p (order t m))
  unfolding tab
  placed_more m p = ap (count ℕ_discrete p) (map_append (λ (e : ℕ × ℕ). e.1) (up_to m) (entry n t m ∷ [])) ∙ count_append ℕ_discrete p (places (up_to m)) (order t m ∷ []) ∙ omega arith

  placed_of : (m p : ℕ) → In ℕ_discrete p (places (up_to m)) → (i : ℕ) × (i < m) × (order t i ≡ p)
  unfolding tab
  placed_of zero p h = absurd (omega arith)
  placed_of (suc m) p h = go (placed_of m p) (ℕ_discrete p (order t m))
    where
      go : (In ℕ_discrete p (places (up_to m)) → (i : ℕ) × (i < m) × (order t i ≡ p)) → Dec (p ≡ order t m) → (i : ℕ) × (i < suc m) × (order t i ≡ p)
      go ih (yes e) = (m, omega arith, sym e)
      go ih (no w) = let r : (i : ℕ) × (i < m) × (order t i ≡ p) = ih (omega (arith, placed_more m p, tick_no (ℕ_discrete p (order t m)) w)) in (r.0, omega arith, r.2)

  placed_in : (m i : ℕ) → i < m → In ℕ_discrete (order t i) (places (up_to m))
  placed_in zero i h = absurd (omega arith)
  placed_in (suc m) i h = go (placed_in m i) (ℕ_discrete i m)
    where
      go : (i < m → In ℕ_discrete (order t i) (places (up_to m))) → Dec (i ≡ m) → In ℕ_discrete (order t i) (places (up_to (suc m)))
      go ih (yes e) = omega (arith, placed_more m (order t i), tick_yes (ℕ_discrete (order t i) (order t m)) (ap (order t) e))
      go ih (no w) = omega (arith, placed_more m (order t i), ih (omega arith))

  new : (m : ℕ) → m < T.count t → count ℕ_discrete (order t m) (places (up_to m)) ≡ 0
  new m h = by_cases (ℕ_discrete (count ℕ_discrete (order t m) (places (up_to m))) 0) (λ e. e) (λ w. let r : (i : ℕ) × (i < m) × (order t i ≡ order t m) = placed_of m (order t m) (omega arith) in absurd (omega (arith, B.rising r.0 m r.1 h, ap (stamp n t) r.2)))

  looked : (m : ℕ) → m ≤ T.count t → (p : ℕ) → In ℕ_discrete p (places (up_to m)) → lookup (up_to m) p ≡ stamp n t p - 1
  unfolding tab
  looked zero h p i = absurd (omega arith)
  looked (suc m) h p i = go (looked m (omega arith) p) (ℕ_discrete p (order t m))
    where
      first : lookup (up_to m ++ entry n t m ∷ []) p ≡ upd ℕ_discrete (lookup (up_to m)) (order t m) (stamp n t (order t m) - 1) p
      first = lookup_new (up_to m) (stamp n t (order t m) - 1) (order t m) (new m h) p

      go : (In ℕ_discrete p (places (up_to m)) → lookup (up_to m) p ≡ stamp n t p - 1) → Dec (p ≡ order t m) → lookup (up_to m ++ entry n t m ∷ []) p ≡ stamp n t p - 1
      go ih (yes e) = first ∙ upd_at ℕ_discrete (lookup (up_to m)) (order t m) (stamp n t (order t m) - 1) e ∙ ap (λ q. stamp n t q - 1) (sym e)
      go ih (no w) = first ∙ upd_other ℕ_discrete (lookup (up_to m)) (order t m) (stamp n t (order t m) - 1) w ∙ ih (omega (arith, placed_more m p, tick_no (ℕ_discrete p (order t m)) w))

  rises : (m : ℕ) → m ≤ T.count t → Rises (λ p. stamp n t p - 1) (places (up_to m))
  unfolding tab
  rises zero h = tt
  rises (suc m) h =
      subst (λ (l : List ℕ). Rises (λ p. stamp n t p - 1) l) (sym (map_append (λ (e : ℕ × ℕ). e.1) (up_to m) (entry n t m ∷ [])))
      (rises_snoc (λ p. stamp n t p - 1) (places (up_to m)) (order t m) (rises m (omega arith))
      (λ q i. let r : (i : ℕ) × (i < m) × (order t i ≡ q) = placed_of m q i in omega (arith, B.rising r.0 m r.1 h, B.used r.0 (omega arith), ap (stamp n t) r.2)))

  long : (m : ℕ) → length (places (up_to m)) ≡ m
  unfolding tab
  long zero = refl
  long (suc m) = length-map (up_to (suc m)) (λ (e : ℕ × ℕ). e.1) ∙ length-append (up_to m) (entry n t m ∷ []) ∙ omega (arith, long m, length-map (up_to m) (λ (e : ℕ × ℕ). e.1))

  pub book_tab : (c : ℕ) → c ≡ n → Tab (table_of (record { cap = c; next = T.next t; live = live n t }))
  book_tab c e =
      record {
        rises = rises_on (λ p. stamp n t p - 1) (lookup (live n t)) (places (live n t)) (looked (T.count t) (omega arith)) (rises (T.count t) (omega arith));
        below = λ p i. let r : (i : ℕ) × (i < T.count t) × (order t i ≡ p) = placed_of (T.count t) p i in omega (arith, looked (T.count t) (omega arith) p i, B.used r.0 r.1, ap (stamp n t) r.2, B.below (order t r.0) (B.inside r.0 r.1));
        fits = λ p i. let r : (i : ℕ) × (i < T.count t) × (order t i ≡ p) = placed_of (T.count t) p i in omega (arith, B.inside r.0 r.1);
      }

  pub book_lives : (p : ℕ) → (0 < stamp n t p) ↔ In ℕ_discrete p (places (live n t))
  book_lives p = (
    (λ h. by_cases (dec_lt p n) (λ k. let r : (i : ℕ) × (i < T.count t) × (order t i ≡ p) = B.found p k h in rw (sym r.2) (placed_in (T.count t) r.0 r.1)) (λ w. absurd (omega (arith, get_or-eq_default t 0 {n = 2 + n + p} (omega arith))))),
    (λ i. let r : (i : ℕ) × (i < T.count t) × (order t i ≡ p) = placed_of (T.count t) p i in omega (arith, B.used r.0 r.1, ap (stamp n t) r.2)),
  )

  pub book_long : length (places (live n t)) ≡ T.count t
  book_long = long (T.count t)

-- ---- a family

none_count : (l : List ℕ) (q : ℕ) → ((i : ℕ) → at l i ≢ suc q) → count ℕ_discrete q l ≡ 0
none_count [] q h = refl
none_count (x ∷ l) q h = omega (arith, none_count l q (λ i. h (suc i)), tick_no (ℕ_discrete q x) (λ e. h zero (ap suc (sym e))))

one_count : (l : List ℕ) (q i : ℕ) → at l i ≡ suc q → ((j : ℕ) → at l j ≡ suc q → j ≡ i) → count ℕ_discrete q l ≡ 1
one_count [] q i e h = absurd (omega arith)
one_count (x ∷ l) q zero e h = omega (arith, none_count l q (λ j f. absurd (omega (arith, h (suc j) f))), tick_yes (ℕ_discrete q x) (omega arith))
one_count (x ∷ l) q (suc i) e h = omega (arith, one_count l q i e (λ j f. omega (arith, h (suc j) f)), tick_no (ℕ_discrete q x) (λ w. absurd (omega (arith, h zero (ap suc (sym w))))))

module _ (nc nn : ℕ) (s : List ℕ) (K : Linked nc nn s) where
  abbrev ls : List (List ℕ)
  ls = lists nc nn s

  pub home_in : (q : ℕ) → 0 < get_or s (home nc nn q) 0 → q < nn
  home_in q h = by_cases (dec_lt q nn) (λ k. k) (λ w. absurd (omega (arith, get_or-eq_default s 0 {n = home nc nn q} (omega arith))))

  pub row_beyond : (c : ℕ) → nc ≤ c → get_or ls c [] ≡ []
  row_beyond c h = get_or-eq_default ls [] {n = c} (omega (arith, K.count))

  -- a node stands in the list c only if its container is c
  not_here : (c q : ℕ) → get_or s (home nc nn q) 0 ≢ suc c → count ℕ_discrete q (get_or ls c []) ≡ 0
  not_here c q w = by_cases (dec_lt c nc) (λ h. none_count (get_or ls c []) q (λ i e. w ((K.row c h).own i q e).1)) (λ n. ap (count ℕ_discrete q) (row_beyond c (omega arith)))

  pub row_counts : (c q : ℕ) → count ℕ_discrete q (get_or ls c []) ≡ sits (get_or s (home nc nn q) 0) c
  row_counts c q = go (get_or s (home nc nn q) 0) refl
    where
      go : (h : ℕ) → get_or s (home nc nn q) 0 ≡ h → count ℕ_discrete q (get_or ls c []) ≡ sits h c
      go zero e = not_here c q (λ f. absurd (omega arith))
      go (suc d) e =
          by_cases (ℕ_discrete d c)
          (λ w. let Z : Seat nc nn s ls c q = seat K c q (home_in q (omega arith)) (e ∙ ap suc w) in
          one_count (get_or ls c []) q Z.index Z.there (λ j f. at_inj (K.row c Z.c<) j Z.index (omega (arith, at_lt (get_or ls c []) j q f)) (omega (arith, Z.index<)) (f ∙ sym Z.there))
          ∙ sym (tick_yes (ℕ_discrete d c) w))
          (λ n. not_here c q (λ f. n (omega arith)) ∙ sym (tick_no (ℕ_discrete d c) n))

-- ---- together

pub reads : (m : Mem) → Formed m → Reads (cells_of m) (parts_of m)
unfolding parts_of
reads m W =
    record {
      tabs = λ k. book_tab (m.cap k) (m.table k) (W.tables k) (m.cap k) refl;
      caps = λ k. refl;
      lives = λ k p. book_lives (m.cap k) (m.table k) (W.tables k) p;
      homes = λ f q. refl;
      within = λ f q h. home_in (nc m.cap f) (nn m.cap f) (m.family f) (W.links f) q h;
      rows = λ f c q. row_counts (nc m.cap f) (nn m.cap f) (m.family f) (W.links f) c q;
      lens = λ f c. refl;
      beyond = λ f c h. ap length (row_beyond (nc m.cap f) (nn m.cap f) (m.family f) (W.links f) c h);
      tags = λ p. refl;
      depth = book_long (m.cap op) (m.table op) (W.tables op);
    }

-- the theorem: the check's conditions hold exactly if the store is sound
pub checked_iff : (m : Mem) → Checked m ↔ SoundMem m
checked_iff m = (
  (λ c. record { formed = c.formed; sound = (crossed_iff (cells_of m) (parts_of m) (reads m c.formed)).0 c.crossed }),
  (λ s. record { formed = s.formed; crossed = (crossed_iff (cells_of m) (parts_of m) (reads m s.formed)).1 s.sound }),
)
