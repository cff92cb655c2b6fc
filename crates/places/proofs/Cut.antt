-- The store without some things is sound where nothing outside stands in a list of theirs. Assumes nothing.
use mathlib.Core.Path.{◌≡◌, refl, sym, ap, ◌∙◌, fun_ext}
use mathlib.Core.Logic.{◌⊎◌, inl, inr, ⊎_elim}
use mathlib.Core.HLevel.{Discrete}
use mathlib.Core.List.{List, [], ◌∷◌, ◌++◌}
use mathlib.Core.Option.{Option, none, some}
use native.Mathlib.Decide.{ℕ_discrete}
use native.Mathlib.Omega.{arith}
use Prim.Native.Nat.{ℕ, zero, suc, ◌+◌, ◌<◌, ◌≤◌}
use lib.ListN.{length}
use Rattle.seqs.specs.Seqs.{tick, count, In, Rises}
use Rattle.places.specs.Store.{op, Fam, fam, Thing, Thing-dec, Con, Table, State, alive, Live, Tab, owns, Link, nest, up_by, up, Ends, Linked, Sound}
use Rattle.places.specs.Walk.{pick, sgn, sift, gone_by, place_cut_by, among, cut_all}
use Rattle.seqs.proofs.Base.{tick_no, in_head, in_tail, count_append, rises_on}
use Rattle.places.proofs.Steps.{some_none, owns_none}

-- ---- picking and sifting

pub pick_0 {ℓ} : {A : Type ℓ} (n : ℕ) (a b : A) → n ≡ 0 → pick n a b ≡ a
unfolding pick
pick_0 zero a b e = refl
pick_0 (suc n) a b e = absurd (omega arith)

pub pick_1 {ℓ} : {A : Type ℓ} (n : ℕ) (a b : A) → 0 < n → pick n a b ≡ b
unfolding pick
pick_1 zero a b e = absurd (omega arith)
pick_1 (suc n) a b e = refl

pub zero_or : (n : ℕ) → (n ≡ 0) ⊎ (0 < n)
zero_or zero = inl refl
zero_or (suc n) = inr (omega arith)

module _ {A : Type 0} (d : Discrete A) where
  pub count_sift_0 : (p : A → ℕ) (x : A) (l : List A) → p x ≡ 0 → count d x (sift p l) ≡ count d x l
  unfolding pick
  count_sift_0 p x [] e = refl
  count_sift_0 p x (y ∷ l) e = go (count_sift_0 p x l e) (p y) refl
    where
      go : count d x (sift p l) ≡ count d x l → (n : ℕ) → p y ≡ n → count d x (pick n (y ∷ sift p l) (sift p l)) ≡ tick (d x y) + count d x l
      go ih zero q = omega arith
      go ih (suc n) q = omega (arith, tick_no (d x y) (λ h. absurd (omega (arith, ap p h))))

  pub count_sift_1 : (p : A → ℕ) (x : A) (l : List A) → 0 < p x → count d x (sift p l) ≡ 0
  unfolding pick
  count_sift_1 p x [] e = refl
  count_sift_1 p x (y ∷ l) e = go (count_sift_1 p x l e) (p y) refl
    where
      go : count d x (sift p l) ≡ 0 → (n : ℕ) → p y ≡ n → count d x (pick n (y ∷ sift p l) (sift p l)) ≡ 0
      go ih zero q = omega (arith, tick_no (d x y) (λ h. absurd (omega (arith, ap p h))))
      go ih (suc n) q = ih

  pub count_sift : (p : A → ℕ) (x : A) (l : List A) → count d x (sift p l) ≡ pick (p x) (count d x l) 0
  count_sift p x l = ⊎_elim (λ e. count_sift_0 p x l e ∙ sym (pick_0 (p x) (count d x l) 0 e)) (λ e. count_sift_1 p x l e ∙ sym (pick_1 (p x) (count d x l) 0 e)) (zero_or (p x))

  pub sift_in : (p : A → ℕ) (x : A) (l : List A) → In d x (sift p l) → (p x ≡ 0) × In d x l
  sift_in p x l i = ⊎_elim (λ e. (e, omega (arith, count_sift_0 p x l e))) (λ e. absurd (omega (arith, count_sift_1 p x l e))) (zero_or (p x))

  -- only what stands in the list matters
  pub sift_on : (p q : A → ℕ) (l : List A) → ((x : A) → In d x l → sgn (p x) ≡ sgn (q x)) → sift p l ≡ sift q l
  unfolding pick
  sift_on p q [] h = refl
  sift_on p q (y ∷ l) h = go (sift_on p q l (λ x i. h x (in_tail d x y l i))) (p y) (q y) (h y (in_head d y l))
    where
      go : sift p l ≡ sift q l → (m n : ℕ) → sgn m ≡ sgn n → pick m (y ∷ sift p l) (sift p l) ≡ pick n (y ∷ sift q l) (sift q l)
      go ih zero zero e = ap {B = List A} (λ r. y ∷ r) ih
      go ih zero (suc n) e = absurd (omega arith)
      go ih (suc m) zero e = absurd (omega arith)
      go ih (suc m) (suc n) e = ih

  pub sift_all : (p : A → ℕ) (l : List A) → ((x : A) → In d x l → p x ≡ 0) → sift p l ≡ l
  sift_all p [] h = refl
  sift_all p (y ∷ l) h = pick_0 (p y) (y ∷ sift p l) (sift p l) (h y (in_head d y l)) ∙ ap {B = List A} (λ r. y ∷ r) (sift_all p l (λ x i. h x (in_tail d x y l i)))

  pub sift_none : (p : A → ℕ) (l : List A) → ((x : A) → In d x l → 0 < p x) → sift p l ≡ []
  sift_none p [] h = refl
  sift_none p (y ∷ l) h = pick_1 (p y) (y ∷ sift p l) (sift p l) (h y (in_head d y l)) ∙ sift_none p l (λ x i. h x (in_tail d x y l i))

module _ {A : Type 0} where
  pub sift_length : (p : A → ℕ) (l : List A) → length (sift p l) ≤ length l
  unfolding pick
  sift_length p [] = omega arith
  sift_length p (y ∷ l) = go (sift_length p l) (p y)
    where
      go : length (sift p l) ≤ length l → (n : ℕ) → length (pick n (y ∷ sift p l) (sift p l)) ≤ suc (length l)
      go ih zero = omega arith
      go ih (suc n) = omega arith

  pub sift_sift : (p q : A → ℕ) (l : List A) → sift p (sift q l) ≡ sift (λ x. q x + p x) l
  unfolding pick
  sift_sift p q [] = refl
  sift_sift p q (y ∷ l) = go (sift_sift p q l) (q y) (p y) refl
    where
      go : sift p (sift q l) ≡ sift (λ x. q x + p x) l → (m n : ℕ) → p y ≡ n → sift p (pick m (y ∷ sift q l) (sift q l)) ≡ pick (m + n) (y ∷ sift (λ x. q x + p x) l) (sift (λ x. q x + p x) l)
      go ih zero zero e = pick_0 (p y) (y ∷ sift p (sift q l)) (sift p (sift q l)) e ∙ ap {B = List A} (λ r. y ∷ r) ih ∙ sym (pick_0 (zero + zero) (y ∷ sift (λ x. q x + p x) l) (sift (λ x. q x + p x) l) (omega arith))
      go ih zero (suc n) e = pick_1 (p y) (y ∷ sift p (sift q l)) (sift p (sift q l)) (omega arith) ∙ ih ∙ sym (pick_1 (zero + suc n) (y ∷ sift (λ x. q x + p x) l) (sift (λ x. q x + p x) l) (omega arith))
      go ih (suc m) n e = ih ∙ sym (pick_1 (suc m + n) (y ∷ sift (λ x. q x + p x) l) (sift (λ x. q x + p x) l) (omega arith))

pub pick_pick {ℓ} : {A : Type ℓ} (m n : ℕ) (a b : A) → pick n (pick m a b) b ≡ pick (m + n) a b
unfolding pick
pick_pick zero zero a b = sym (pick_0 (zero + zero) a b (omega arith))
pick_pick zero (suc n) a b = sym (pick_1 (zero + suc n) a b (omega arith))
pick_pick (suc m) zero a b = sym (pick_1 (suc m + zero) a b (omega arith))
pick_pick (suc m) (suc n) a b = sym (pick_1 (suc m + suc n) a b (omega arith))

pub pick_same {ℓ} : {A : Type ℓ} (m n : ℕ) (a b : A) → sgn m ≡ sgn n → pick m a b ≡ pick n a b
unfolding pick
pick_same zero zero a b e = refl
pick_same zero (suc n) a b e = absurd (omega arith)
pick_same (suc m) zero a b e = absurd (omega arith)
pick_same (suc m) (suc n) a b e = refl

-- ---- cuts one after another, and cuts of the same things

pub cut_cut : (p q : Thing → ℕ) (P : State) → place_cut_by q (place_cut_by p P) ≡ place_cut_by (λ x. p x + q x) P
unfolding place_cut_by
cut_cut p q P = λ i. record {
  tab = λ k. record { cap = (P.tab k).cap; next = (P.tab k).next; num = λ n. pick_pick (p (k, n)) (q (k, n)) ((P.tab k).num n) 0 i; order = sift_sift (λ n. q (k, n)) (λ n. p (k, n)) (P.tab k).order i };
  list = λ c r. sift_sift q p (P.list c r) i;
  own = λ x f. pick_pick (p x) (q x) (P.own x f) none i;
  tag = λ x. pick_pick (p x) (q x) (P.tag x) 0 i;
}

pub cut_same : (p q : Thing → ℕ) (P : State) → ((x : Thing) → sgn (p x) ≡ sgn (q x)) → place_cut_by p P ≡ place_cut_by q P
unfolding place_cut_by
cut_same p q P h = λ i. record {
  tab = λ k. record { cap = (P.tab k).cap; next = (P.tab k).next; num = λ n. pick_same (p (k, n)) (q (k, n)) ((P.tab k).num n) 0 (h (k, n)) i; order = sift_on ℕ_discrete (λ n. p (k, n)) (λ n. q (k, n)) (P.tab k).order (λ n _. h (k, n)) i };
  list = λ c r. sift_on Thing-dec p q (P.list c r) (λ x _. h x) i;
  own = λ x f. pick_same (p x) (q x) (P.own x f) none (h x) i;
  tag = λ x. pick_same (p x) (q x) (P.tag x) 0 (h x) i;
}

pub cut_append : (l m : List Thing) (P : State) → cut_all m (cut_all l P) ≡ cut_all (l ++ m) P
cut_append l m P = cut_cut (among l) (among m) P ∙ ap (λ (p : Thing → ℕ). place_cut_by p P) (fun_ext λ x. sym (count_append Thing-dec x l m))

pub cut_nothing : (P : State) → cut_all [] P ≡ P
unfolding place_cut_by pick
cut_nothing P = λ i. record {
  tab = λ k. record { cap = (P.tab k).cap; next = (P.tab k).next; num = (P.tab k).num; order = sift_all ℕ_discrete (λ n. 0) (P.tab k).order (λ _ _. refl) i };
  list = λ c r. sift_all Thing-dec (λ x. 0) (P.list c r) (λ _ _. refl) i;
  own = P.own;
  tag = P.tag;
}

-- ---- soundness

-- nothing outside stands in a list of something inside
abbrev pub Closed : (Thing → ℕ) → State → Type 0
Closed p P = (x : Thing) (f : Fam) (c : Con) → P.own x f ≡ some c → 0 < p c.1 → 0 < p x

-- what is left rises as before
pub rises_sift : (num : ℕ → ℕ) (p : ℕ → ℕ) (l : List ℕ) → Rises num l → Rises num (sift p l)
unfolding pick
rises_sift num p [] h = tt
rises_sift num p (y ∷ l) h = go (rises_sift num p l h.1) (p y)
  where
    go : Rises num (sift p l) → (n : ℕ) → Rises num (pick n (y ∷ sift p l) (sift p l))
    go ih zero = (λ q i. h.0 q (sift_in ℕ_discrete p q l i).1, ih)
    go ih (suc n) = ih

tab_sift : (t : Table) (p : ℕ → ℕ) → Tab t → Tab (gone_by p t)
tab_sift t p T =
    record {
      rises = rises_on t.num (λ q. pick (p q) (t.num q) 0) (sift p t.order) (λ q i. pick_0 (p q) (t.num q) 0 (sift_in ℕ_discrete p q t.order i).0) (rises_sift t.num p t.order T.rises);
      below = λ q i. let s : (p q ≡ 0) × In ℕ_discrete q t.order = sift_in ℕ_discrete p q t.order i in omega (arith, T.below q s.1, pick_0 (p q) (t.num q) 0 s.0);
      fits = λ q i. T.fits q (sift_in ℕ_discrete p q t.order i).1;
    }

module _ (p : Thing → ℕ) (P : State) where
  abbrev Q : State
  Q = place_cut_by p P

  pub alive_cut_0 : (x : Thing) → p x ≡ 0 → alive Q x ≡ alive P x
  unfolding alive place_cut_by
  alive_cut_0 x e = count_sift_0 ℕ_discrete (λ q. p (x.0, q)) x.1 (P.tab x.0).order e

  pub live_cut : (x : Thing) → Live Q x → (p x ≡ 0) × Live P x
  unfolding alive place_cut_by
  live_cut x h = sift_in ℕ_discrete (λ q. p (x.0, q)) x.1 (P.tab x.0).order h

  pub own_cut_0 : (x : Thing) → p x ≡ 0 → Q.own x ≡ P.own x
  unfolding place_cut_by
  own_cut_0 x e = fun_ext λ f. pick_0 (p x) (P.own x f) none e

  pub own_cut_1 : (x : Thing) → 0 < p x → (f : Fam) → Q.own x f ≡ none
  unfolding place_cut_by
  own_cut_1 x e f = pick_1 (p x) (P.own x f) none e

  pub own_cut : (x : Thing) (f : Fam) (c : Con) → Q.own x f ≡ some c → (p x ≡ 0) × (P.own x f ≡ some c)
  own_cut x f c e = ⊎_elim (λ z. (z, ap (λ (h : Fam → Option Con). h f) (sym (own_cut_0 x z)) ∙ e)) (λ z. absurd (some_none e (own_cut_1 x z f))) (zero_or (p x))

  up_none : (k : Option Fam) → up_by (λ f. none) k ≡ none
  up_none none = refl
  up_none (some f) = refl

  pub up_cut_0 : (x : Thing) → p x ≡ 0 → up Q x ≡ up P x
  unfolding up
  up_cut_0 x e = ap (λ (h : Fam → Option Con). up_by h (nest x.0)) (own_cut_0 x e)

  pub up_cut_1 : (x : Thing) → 0 < p x → up Q x ≡ none
  unfolding up
  up_cut_1 x e = ap (λ (h : Fam → Option Con). up_by h (nest x.0)) (fun_ext λ f. own_cut_1 x e f) ∙ up_none (nest x.0)

  ends_cut : {x : Thing} → Ends (up P) x → Ends (up Q) x
  ends_cut {x} (Ends.top e) = ⊎_elim (λ z. Ends.top (up_cut_0 x z ∙ e)) (λ z. Ends.top (up_cut_1 x z)) (zero_or (p x))
  ends_cut {x} (Ends.climb {y = y} e c) = go (ends_cut c) (zero_or (p x))
    where
      go : Ends (up Q) y → (p x ≡ 0) ⊎ (0 < p x) → Ends (up Q) x
      go ih (inl z) = Ends.climb (up_cut_0 x z ∙ e) ih
      go ih (inr z) = Ends.top (up_cut_1 x z)

  owns_cut : (o : Option Con) (c : Con) (n : ℕ) → owns (pick n o none) c ≡ pick n (owns o c) 0
  unfolding pick
  owns_cut o c zero = refl
  owns_cut o c (suc n) = owns_none c

  module _ (closed : Closed p P) where
    link_cut : Linked P → (x : Thing) (f : Fam) (c : Con) → Q.own x f ≡ some c → Link Q x f c
    link_cut S x f c e =
        let o : (p x ≡ 0) × (P.own x f ≡ some c) = own_cut x f c e in
        let L : Link P x f c = S.link x f c o.1 in
        record {
          family = L.family;
          node = L.node;
          holder = L.holder;
          live = omega (arith, L.live, alive_cut_0 x o.0);
          home = ⊎_elim (λ z. omega (arith, L.home, alive_cut_0 c.1 z)) (λ z. absurd (omega (arith, o.0, closed x f c o.1 z))) (zero_or (p c.1));
        }

    pub cut_linked : Linked P → Linked Q
    unfolding place_cut_by
    cut_linked S =
        record {
          tabs = λ k. tab_sift (P.tab k) (λ q. p (k, q)) (S.tabs k);
          held = λ r c x. count_sift Thing-dec p x (P.list c r) ∙ ap (λ (n : ℕ). pick (p x) n 0) (S.held r c x) ∙ sym (owns_cut (P.own x (fam r)) (r, c) (p x));
          link = link_cut S;
          short = λ c r m. omega (arith, S.short c r m, sift_length p (P.list c r));
          flags = λ q h. rw (pick_0 (p (op, q)) (P.tag (op, q)) 0 (live_cut (op, q) h).0) (S.flags q (live_cut (op, q) h).1);
          ends = λ x. ends_cut (S.ends x);
        }

    pub cut_sound : Sound P → Sound Q
    cut_sound S = record { linked = cut_linked S.linked; placed = λ x h. let l : (p x ≡ 0) × Live P x = live_cut x h in rw (own_cut_0 x l.0) (S.placed x l.1) }
