-- What a number names after each way of changing a table, and how often a number stands in the lists of a table's entries. Assumes nothing.
use mathlib.Core.Path.{◌≡◌, refl, sym, ap, subst, ◌∙◌}
use mathlib.Core.Bool.{Bool, true, false, not, cond, ◌||◌}
use mathlib.Core.List.{List, [], ◌∷◌, ◌++◌}
use mathlib.Core.Option.{Option, none, some}
use Prim.Native.Nat.{ℕ, zero, suc, ◌+◌, ◌-◌, ◌≤◌, ◌<◌}
use native.Mathlib.Omega.{arith}
use borrow.Author.Tests.{ne_eqb, eqb-false, leb-true, leb-false}
use lib.Dec.{T, eqb, leb, eqb→eq, eqb_refl}
use Rattle.rules.specs.Table.{Table, find, change, change_all, keep_keys, number, nth, member, is_some, any, items, count}
use Rattle.rules.proofs.Places.{no_member, yes_member}
use Rattle.rules.proofs.Rising.{Rising}
pub use Rattle.rules.specs.Table.{spread}
pub use Rattle.rules.proofs.Tables.{none_some}
use Rattle.rules.proofs.Tables.{weigh_same}

pub yes : (b : Bool) → T b → b ≡ true
yes true t = refl
yes false t = absurd t

pub is_true : {b : Bool} → b ≡ true → T b
is_true e = subst T (sym e) tt

pub eqb_same : (n : ℕ) → eqb n n ≡ true
eqb_same n = yes (eqb n n) (eqb_refl n)

abbrev pub omap : {A B : Type 0} → (A → B) → Option A → Option B
omap f none = none
omap f (some a) = some (f a)

-- ---- what a number names

module _ {A : Type 0} where
  pub find_keeps : (p : ℕ → Bool) (t : Table A) (n : ℕ) → find (keep_keys p t) n ≡ cond (p n) (find t n) none
  unfolding find keep_keys
  find_keeps p [] n = at (p n)
    where
      at : (b : Bool) → ◌≡◌ {A = Option A} none (cond b none none)
      at true = refl
      at false = refl
  find_keeps p (e ∷ t) n = go (p e.0) refl (eqb e.0 n) refl (find_keeps p t n)
    where
      go : (b : Bool) → p e.0 ≡ b → (c : Bool) → eqb e.0 n ≡ c → find (keep_keys p t) n ≡ cond (p n) (find t n) none → find (cond b (e ∷ keep_keys p t) (keep_keys p t)) n ≡ cond (p n) (cond (eqb e.0 n) (some e.1) (find t n)) none
      go true z true w ih = rw w (rw (sym (ap p (eqb→eq e.0 n (is_true w))) ∙ z))
      go true z false w ih = rw w ih
      go false z true w ih = ih ∙ rw (sym (ap p (eqb→eq e.0 n (is_true w))) ∙ z)
      go false z false w ih = rw w ih

  pub find_changes : (n : ℕ) (f : A → A) (t : Table A) (m : ℕ) → find (change n f t) m ≡ cond (eqb n m) (omap f (find t m)) (find t m)
  unfolding find change
  find_changes n f [] m = at (eqb n m)
    where
      at : (b : Bool) → ◌≡◌ {A = Option A} none (cond b none none)
      at true = refl
      at false = refl
  find_changes n f (e ∷ t) m = go (eqb e.0 n) refl (eqb e.0 m) refl (find_changes n f t m)
    where
      go : (b : Bool) → eqb e.0 n ≡ b → (c : Bool) → eqb e.0 m ≡ c → find (change n f t) m ≡ cond (eqb n m) (omap f (find t m)) (find t m) → find (cond b ((e.0, f e.1) ∷ change n f t) (e ∷ change n f t)) m ≡ cond (eqb n m) (omap f (cond (eqb e.0 m) (some e.1) (find t m))) (cond (eqb e.0 m) (some e.1) (find t m))
      go true z true w ih = let s : eqb n m ≡ true = ap (λ (x : ℕ). eqb x m) (sym (eqb→eq e.0 n (is_true z))) ∙ w in rw w (rw s)
      go true z false w ih = rw w ih
      go false z true w ih = let s : eqb n m ≡ false = ne_eqb n m (λ q. eqb-false e.0 n z (eqb→eq e.0 m (is_true w) ∙ sym q)) in rw w (rw s)
      go false z false w ih = rw w ih

  -- at the number, at another, and for what f leaves
  pub find_self : (n : ℕ) (f : A → A) (t : Table A) (a : A) → find t n ≡ some a → find (change n f t) n ≡ some (f a)
  find_self n f t a e = find_changes n f t n ∙ rw (eqb_same n) (ap (omap f) e)

  pub find_other : (n m : ℕ) (f : A → A) (t : Table A) → eqb n m ≡ false → find (change n f t) m ≡ find t m
  find_other n m f t z = find_changes n f t m ∙ rw z refl

  pub find_alike : {B : Type 0} (q : Option A → B) (n : ℕ) (f : A → A) (t : Table A) (m : ℕ) → ((a : A) → q (some (f a)) ≡ q (some a)) → q (find (change n f t) m) ≡ q (find t m)
  find_alike q n f t m k = ap q (find_changes n f t m) ∙ at (eqb n m) (find t m)
    where
      at : (c : Bool) (o : Option A) → q (cond c (omap f o) o) ≡ q o
      at true none = refl
      at true (some a) = k a
      at false o = refl

  pub find_changes_all : (f : ℕ → A → A) (t : Table A) (m : ℕ) → find (change_all f t) m ≡ omap (f m) (find t m)
  unfolding find change_all
  find_changes_all f [] m = refl
  find_changes_all f (e ∷ t) m = go (eqb e.0 m) refl (find_changes_all f t m)
    where
      go : (c : Bool) → eqb e.0 m ≡ c → find (change_all f t) m ≡ omap (f m) (find t m) → cond (eqb e.0 m) (some (f e.0 e.1)) (find (change_all f t) m) ≡ omap (f m) (cond (eqb e.0 m) (some e.1) (find t m))
      go true w ih = rw w (ap (λ (x : ℕ). some (f x e.1)) (eqb→eq e.0 m (is_true w)))
      go false w ih = rw w ih

  pub find_number : (n : ℕ) (xs : List A) (m : ℕ) → n ≤ m → find (number n xs) m ≡ nth xs (m - n)
  unfolding find number nth
  find_number n [] m h = refl
  find_number n (x ∷ xs) m h = go (find_number (suc n) xs m) (eqb n m) refl
    where
      at : (d : ℕ) → m - n ≡ suc d → m - suc n ≡ d
      at d z = omega arith

      step : (suc n ≤ m → find (number (suc n) xs) m ≡ nth xs (m - suc n)) → (d : ℕ) → m - n ≡ d → (n ≡ m → ⊥) → find (number (suc n) xs) m ≡ nth (x ∷ xs) d
      step ih zero z k = absurd (k (omega arith))
      step ih (suc d) z k = ih (omega arith) ∙ ap (nth xs) (at d z)

      go : (suc n ≤ m → find (number (suc n) xs) m ≡ nth xs (m - suc n)) → (c : Bool) → eqb n m ≡ c → cond (eqb n m) (some x) (find (number (suc n) xs) m) ≡ nth (x ∷ xs) (m - n)
      go ih true w = rw w (ap (nth (x ∷ xs)) (let z : n ≡ m = eqb→eq n m (is_true w) in let q : 0 ≡ m - n = omega arith in q))
      go ih false w = rw w (step ih (m - n) refl (eqb-false n m w))

  pub find_below : (lo b : ℕ) (t : Table A) (m : ℕ) → Rising lo b t → b ≤ m → find t m ≡ none
  unfolding find
  find_below lo b [] m r h = refl
  find_below lo b (e ∷ t) m r h = go (find_below (suc e.0) b t m r.1 h) (eqb e.0 m) refl
    where
      under : (l : ℕ) (s : Table A) → Rising l b s → l ≤ b
      under l [] q = q
      under l (x ∷ s) q = let z : suc x.0 ≤ b = under (suc x.0) s q.1 in omega (arith, q.0)

      go : find t m ≡ none → (c : Bool) → eqb e.0 m ≡ c → cond (eqb e.0 m) (some e.1) (find t m) ≡ none
      go ih true w = let z : suc e.0 ≤ b = under (suc e.0) t r.1 in absurd (omega (arith, eqb→eq e.0 m (is_true w)))
      go ih false w = rw w ih

  pub find_numbered : (n : ℕ) (xs : List A) (m : ℕ) → m < n → find (number n xs) m ≡ none
  unfolding find number
  find_numbered n [] m h = refl
  find_numbered n (x ∷ xs) m h = rw (ne_eqb n m (λ z. omega arith)) (find_numbered (suc n) xs m (omega arith))

  pub find_joined : (s t : Table A) (m : ℕ) → find (s ++ t) m ≡ cond (is_some (find s m)) (find s m) (find t m)
  unfolding find is_some
  find_joined [] t m = refl
  find_joined (e ∷ s) t m = go (eqb e.0 m) refl (find_joined s t m)
    where
      go : (c : Bool) → eqb e.0 m ≡ c → find (s ++ t) m ≡ cond (is_some (find s m)) (find s m) (find t m) → cond (eqb e.0 m) (some e.1) (find (s ++ t) m) ≡ cond (is_some (cond (eqb e.0 m) (some e.1) (find s m))) (cond (eqb e.0 m) (some e.1) (find s m)) (find t m)
      go true w ih = rw w refl
      go false w ih = rw w ih

  -- new entries, numbered on
  pub find_more : (b : ℕ) (t : Table A) (xs : List A) (m : ℕ) → Rising 0 b t → find (t ++ number b xs) m ≡ cond (leb b m) (nth xs (m - b)) (find t m)
  unfolding is_some
  find_more b t xs m r = find_joined t (number b xs) m ∙ go (leb b m) refl
    where
      old : (o : Option A) → find t m ≡ o → leb b m ≡ false → cond (is_some (find t m)) (find t m) (find (number b xs) m) ≡ find t m
      old none z w = rw z (find_numbered b xs m (leb-false b m w))
      old (some a) z w = rw z refl

      go : (c : Bool) → leb b m ≡ c → cond (is_some (find t m)) (find t m) (find (number b xs) m) ≡ cond (leb b m) (nth xs (m - b)) (find t m)
      go true w = rw w (rw (find_below 0 b t m r (leb-true b m w)) (find_number b xs m (leb-true b m w)))
      go false w = rw w (old (find t m) refl w)

-- ---- how often a number stands in the entries' lists

module _ {A : Type 0} (g : A → List ℕ) where
  -- a change that leaves the lists
  pub spread_same : (r n : ℕ) (f : A → A) (t : Table A) → ((a : A) → g (f a) ≡ g a) → spread g r (change n f t) ≡ spread g r t
  spread_same r n f t h = weigh_same (λ a. count r (g a)) n f t (λ a. ap (count r) (h a))

  -- what stands somewhere stands in an entry's list
  pub spread_found : (r lo b : ℕ) (t : Table A) → Rising lo b t → 1 ≤ spread g r t → (n : ℕ) × (a : A) × (find t n ≡ some a) × (1 ≤ count r (g a)) × (lo ≤ n)
  unfolding find
  spread_found r lo b [] k h = absurd (omega arith)
  spread_found r lo b (e ∷ t) k h = go (spread_found r (suc e.0) b t k.1) (member r (g e.1)) refl
    where
      go : (1 ≤ spread g r t → (n : ℕ) × (a : A) × (find t n ≡ some a) × (1 ≤ count r (g a)) × (suc e.0 ≤ n)) → (c : Bool) → member r (g e.1) ≡ c → (n : ℕ) × (a : A) × (cond (eqb e.0 n) (some e.1) (find t n) ≡ some a) × (1 ≤ count r (g a)) × (lo ≤ n)
      go ih true z = (e.0, e.1, (rw (eqb_same e.0) refl), yes_member r (g e.1) (is_true z), k.0)
      go ih false z =
          let f = ih (omega (arith, no_member r (g e.1) (subst (λ (q : Bool). T (not q)) (sym z) tt))) in
          (f.0, f.1, (rw (ne_eqb e.0 f.0 (λ q. omega (arith, f.4))) f.2), f.3, omega (arith, f.4, k.0))

  pub spread_any : (r : ℕ) (t : Table A) → T (any (λ (a : A). member r (g a)) (items t)) → 1 ≤ spread g r t
  unfolding any items
  spread_any r [] h = absurd h
  spread_any r (e ∷ t) h = go (member r (g e.1)) refl h (spread_any r t)
    where
      go : (b : Bool) → member r (g e.1) ≡ b → T (b || any (λ (a : A). member r (g a)) (items t)) → (T (any (λ (a : A). member r (g a)) (items t)) → 1 ≤ spread g r t) → 1 ≤ count r (g e.1) + spread g r t
      go true z q ih = omega (arith, yes_member r (g e.1) (is_true z))
      go false z q ih = omega (arith, ih q)

  pub any_spread : (r : ℕ) (t : Table A) → 1 ≤ spread g r t → T (any (λ (a : A). member r (g a)) (items t))
  unfolding any items
  any_spread r [] h = absurd (omega arith)
  any_spread r (e ∷ t) h = go (member r (g e.1)) refl (any_spread r t)
    where
      go : (b : Bool) → member r (g e.1) ≡ b → (1 ≤ spread g r t → T (any (λ (a : A). member r (g a)) (items t))) → T (b || any (λ (a : A). member r (g a)) (items t))
      go true z ih = tt
      go false z ih = ih (omega (arith, no_member r (g e.1) (subst (λ (q : Bool). T (not q)) (sym z) tt)))
