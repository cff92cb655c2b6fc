-- What the lower crates do to the parts is a step of the store. Assumes nothing.
use mathlib.Core.Path.{◌≡◌, refl, sym, ap, ◌∙◌}
use mathlib.Core.Logic.{◌≢◌, ite, if_pos, if_neg, by_cases, ⊎_elim}
use mathlib.Core.List.{List, [], ◌∷◌, ◌++◌, map}
use mathlib.Core.Option.{Option, none}
use native.Mathlib.Decide.{ℕ_discrete}
use native.Mathlib.Omega.{arith}
use Prim.Native.Nat.{ℕ, suc}
use Rattle.seqs.specs.Seqs.{upd, count, without_by, without}
use Rattle.places.specs.Store.{Kind-dec, Role, Role-dec, Fam, Fam-dec, fam, node_of, Thing, Thing-dec, Con, Con-dec, born, gone, relink, set_list, set_own}
use Rattle.places.specs.Parts.{Book, Parts, Rows, lookup, places, table_of, node_in, con_of, store, set_row}
use Rattle.seqs.proofs.Base.{upd2_same, upd2_cases, tick_yes, map_append}

-- ---- tables

pub lookup_new : (l : List (ℕ × ℕ)) (n p : ℕ) → count ℕ_discrete p (places l) ≡ 0 → (q : ℕ) → lookup (l ++ (n, p) ∷ []) q ≡ upd ℕ_discrete (lookup l) p n q
unfolding upd
lookup_new [] n p z q = refl
lookup_new (e ∷ l) n p z q = go (lookup_new l n p (omega arith) q) (ℕ_discrete q e.1) (ℕ_discrete q p)
  where
    go : lookup (l ++ (n, p) ∷ []) q ≡ ite (ℕ_discrete q p) n (lookup l q) → (v : Dec (q ≡ e.1)) (w : Dec (q ≡ p)) → ite v e.0 (lookup (l ++ (n, p) ∷ []) q) ≡ ite w n (ite v e.0 (lookup l q))
    go ih (yes a) (yes b) = absurd (omega (arith, tick_yes (ℕ_discrete p e.1) (sym b ∙ a)))
    go ih (yes a) (no b) = refl
    go ih (no a) (yes b) = ih ∙ if_pos (ℕ_discrete q p) b n (lookup l q)
    go ih (no a) (no b) = ih ∙ if_neg (ℕ_discrete q p) b n (lookup l q)

lookup_gone : (l : List (ℕ × ℕ)) (p : ℕ) (q : ℕ) → lookup (without_by ℕ_discrete (λ e. e.1) p l) q ≡ upd ℕ_discrete (lookup l) p 0 q
unfolding upd
lookup_gone [] p q = go (ℕ_discrete q p)
  where
    go : (w : Dec (q ≡ p)) → ◌≡◌ {A = ℕ} 0 (ite w 0 0)
    go (yes a) = refl
    go (no a) = refl
lookup_gone (e ∷ l) p q = go (lookup_gone l p q) (ℕ_discrete e.1 p) (ℕ_discrete q e.1) (ℕ_discrete q p)
  where
    rest : List (ℕ × ℕ)
    rest = without_by ℕ_discrete (λ e. e.1) p l

    go : lookup rest q ≡ ite (ℕ_discrete q p) 0 (lookup l q) → (u : Dec (e.1 ≡ p)) (v : Dec (q ≡ e.1)) (w : Dec (q ≡ p)) → lookup (ite u rest (e ∷ rest)) q ≡ ite w 0 (ite v e.0 (lookup l q))
    go ih (yes a) (yes b) (yes c) = ih ∙ if_pos (ℕ_discrete q p) c 0 (lookup l q)
    go ih (yes a) (yes b) (no c) = absurd (c (b ∙ a))
    go ih (yes a) (no b) (yes c) = absurd (b (c ∙ sym a))
    go ih (yes a) (no b) (no c) = ih ∙ if_neg (ℕ_discrete q p) c 0 (lookup l q)
    go ih (no a) (yes b) (yes c) = absurd (a (sym b ∙ c))
    go ih (no a) (yes b) (no c) = if_pos (ℕ_discrete q e.1) b e.0 (lookup rest q)
    go ih (no a) (no b) (yes c) = if_neg (ℕ_discrete q e.1) b e.0 (lookup rest q) ∙ ih ∙ if_pos (ℕ_discrete q p) c 0 (lookup l q)
    go ih (no a) (no b) (no c) = if_neg (ℕ_discrete q e.1) b e.0 (lookup rest q) ∙ ih ∙ if_neg (ℕ_discrete q p) c 0 (lookup l q)

pub book_born : (b : Book) (p : ℕ) → count ℕ_discrete p (places b.live) ≡ 0 → table_of (record { cap = b.cap; next = suc b.next; live = b.live ++ (b.next, p) ∷ [] }) ≡ born p (table_of b)
book_born b p z = λ i. record { cap = b.cap; next = suc b.next; num = λ q. lookup_new b.live b.next p z q i; order = map_append (λ e. e.1) b.live ((b.next, p) ∷ []) i }

pub book_gone : (b : Book) (p : ℕ) → table_of (record { cap = b.cap; next = b.next; live = without_by ℕ_discrete (λ e. e.1) p b.live }) ≡ gone p (table_of b)
book_gone b p = λ i. record { cap = b.cap; next = b.next; num = λ q. lookup_gone b.live p q i; order = orders b.live i }
  where
    orders : (l : List (ℕ × ℕ)) → places (without_by ℕ_discrete (λ e. e.1) p l) ≡ without ℕ_discrete p (places l)
    orders [] = refl
    orders (e ∷ l) = go (orders l) (ℕ_discrete e.1 p)
      where
        go : places (without_by ℕ_discrete (λ e. e.1) p l) ≡ without ℕ_discrete p (places l) → (w : Dec (e.1 ≡ p)) → places (ite w (without_by ℕ_discrete (λ e. e.1) p l) (e ∷ without_by ℕ_discrete (λ e. e.1) p l)) ≡ ite w (without ℕ_discrete p (places l)) (e.1 ∷ without ℕ_discrete p (places l))
        go ih (yes q) = ih
        go ih (no q) = ap {B = List ℕ} (λ r. e.1 ∷ r) ih

-- ---- lists

-- the row k of c's family is c's; the node q of that family's kind
module _ (R : Rows) (M : Parts) (c : Con) (l : List ℕ) (q : ℕ) (o : Option ℕ) (mine : R.con (fam c.0) (R.row c.0 c.1.1) ≡ c) where
  abbrev k : ℕ
  k = R.row c.0 c.1.1

  abbrev M' : Parts
  M' = set_row (fam c.0) k l q o M

  abbrev x : Thing
  x = (node_in (fam c.0), q)

  abbrev node : Role → ℕ → Thing
  node r p = (node_of r, p)

  list_bridge : (a : Thing) (r : Role) → (store R M').list a r ≡ (set_list c (map (node c.0) l) (store R M)).list a r
  unfolding store set_row set_list
  list_bridge a r = by_cases (Con-dec (R.con (fam r) (R.row r a.1)) (r, a)) is is_not
    where
      S' : (m : List Thing) → ((a ≡ c.1) → (r ≡ c.0) → m ≡ map (node c.0) l) → (((a ≡ c.1) → (r ≡ c.0) → ⊥) → m ≡ (store R M).list a r) → m ≡ (set_list c (map (node c.0) l) (store R M)).list a r
      S' m here there = ⊎_elim (λ h. here h.0 h.1 ∙ sym h.2) (λ h. there h.0 ∙ sym h.1) (upd2_cases Thing-dec Role-dec (store R M).list c.1 c.0 (map (node c.0) l) a r)

      is : R.con (fam r) (R.row r a.1) ≡ (r, a) → (store R M').list a r ≡ (set_list c (map (node c.0) l) (store R M)).list a r
      is t =
          if_pos (Con-dec (R.con (fam r) (R.row r a.1)) (r, a)) t (map (node r) (M'.rows (fam r) (R.row r a.1))) []
          ∙ S' (map (node r) (M'.rows (fam r) (R.row r a.1)))
          (λ p q. rw (p, q, upd2_same Fam-dec ℕ_discrete M.rows (fam c.0) k l))
          (λ n. ⊎_elim
          (λ h. let e : (r, a) ≡ c = sym t ∙ rw (h.0, h.1) mine in absurd (n (ap (λ (d : Con). d.1) e) (ap (λ (d : Con). d.0) e)))
          (λ h. rw h.1 (sym (if_pos (Con-dec (R.con (fam r) (R.row r a.1)) (r, a)) t (map (node r) (M.rows (fam r) (R.row r a.1))) [])))
          (upd2_cases Fam-dec ℕ_discrete M.rows (fam c.0) k l (fam r) (R.row r a.1)))

      is_not : R.con (fam r) (R.row r a.1) ≢ (r, a) → (store R M').list a r ≡ (set_list c (map (node c.0) l) (store R M)).list a r
      is_not t =
          if_neg (Con-dec (R.con (fam r) (R.row r a.1)) (r, a)) t (map (node r) (M'.rows (fam r) (R.row r a.1))) []
          ∙ S' [] (λ p q. absurd (t (rw (p, q) mine))) (λ n. sym (if_neg (Con-dec (R.con (fam r) (R.row r a.1)) (r, a)) t (map (node r) (M.rows (fam r) (R.row r a.1))) []))

  own_bridge : (a : Thing) (f : Fam) → (store R M').own a f ≡ (set_own x (fam c.0) (con_of (R.con (fam c.0)) o) (store R M)).own a f
  unfolding store set_row set_own
  own_bridge a f = by_cases (Kind-dec a.0 (node_in f)) is is_not
    where
      S' : (m : Option Con) → ((a ≡ x) → (f ≡ fam c.0) → m ≡ con_of (R.con (fam c.0)) o) → (((a ≡ x) → (f ≡ fam c.0) → ⊥) → m ≡ (store R M).own a f) → m ≡ (set_own x (fam c.0) (con_of (R.con (fam c.0)) o) (store R M)).own a f
      S' m here there = ⊎_elim (λ h. here h.0 h.1 ∙ sym h.2) (λ h. there h.0 ∙ sym h.1) (upd2_cases Thing-dec Fam-dec (store R M).own x (fam c.0) (con_of (R.con (fam c.0)) o) a f)

      is : a.0 ≡ node_in f → (store R M').own a f ≡ (set_own x (fam c.0) (con_of (R.con (fam c.0)) o) (store R M)).own a f
      is t =
          if_pos (Kind-dec a.0 (node_in f)) t (con_of (R.con f) (M'.homes f a.1)) none
          ∙ S' (con_of (R.con f) (M'.homes f a.1))
          (λ p g. rw (p, g, upd2_same Fam-dec ℕ_discrete M.homes (fam c.0) q o))
          (λ n. ⊎_elim
          (λ h. absurd (n (λ j. ((t ∙ ap node_in h.0) j, h.1 j)) h.0))
          (λ h. rw h.1 (sym (if_pos (Kind-dec a.0 (node_in f)) t (con_of (R.con f) (M.homes f a.1)) none)))
          (upd2_cases Fam-dec ℕ_discrete M.homes (fam c.0) q o f a.1))

      is_not : a.0 ≢ node_in f → (store R M').own a f ≡ (set_own x (fam c.0) (con_of (R.con (fam c.0)) o) (store R M)).own a f
      is_not t =
          if_neg (Kind-dec a.0 (node_in f)) t (con_of (R.con f) (M'.homes f a.1)) none
          ∙ S' none (λ p g. absurd (t (rw (p, g) refl))) (λ n. sym (if_neg (Kind-dec a.0 (node_in f)) t (con_of (R.con f) (M.homes f a.1)) none))

  pub row_bridge : store R M' ≡ relink c (map (node c.0) l) x (con_of (R.con (fam c.0)) o) (store R M)
  unfolding store set_row relink set_own set_list
  row_bridge = λ i. record { tab = λ j. table_of (M.books j); list = λ a r. list_bridge a r i; own = λ a f. own_bridge a f i; tag = M.tags }
