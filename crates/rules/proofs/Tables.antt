-- Laws of the tables of specs/Table: what stays where a table is changed, kept in part or made longer. Assumes nothing.
use mathlib.Core.Path.{◌≡◌, refl, sym, ap, subst, ◌∙◌}
use mathlib.Core.Logic.{◌⊎◌, inl, inr}
use mathlib.Core.Bool.{Bool, true, false, not, cond, ◌&&◌, ◌||◌}
use mathlib.Core.List.{List, [], ◌∷◌, ◌++◌}
use mathlib.Core.Option.{none, some}
use Prim.Native.Nat.{ℕ, zero, suc, ◌+◌, ◌≤◌, ◌<◌}
use lib.Dec.{T, eqb, ltb, eqb→eq, nltb→le}
use native.Mathlib.Nat.{not-suc-le-zero, zero-add}
use lib.ListN.{length, get_or}
use Rattle.rules.specs.Table.{Table, any, find, items, change, change_all, keep_keys, keys_where, gather, number, member, insert_at, remove_at, is_some, Rising, weigh}
use native.Mathlib.Omega.{arith}
use borrow.Author.Tests.{ne_eqb}

pub none_some : {A : Type 0} {a : A} → none ≡ some a → ⊥
none_some q = let z : ◌≡◌ {A = ℕ} 0 1 = cc in omega arith

-- ---- tests

pub or_l : (a b : Bool) → T a → T (a || b)
or_l true b t = tt
or_l false b t = absurd t

pub or_r : (a b : Bool) → T b → T (a || b)
or_r true b t = tt
or_r false b t = t

pub or_split : (a b : Bool) → T (a || b) → T a ⊎ T b
or_split true b t = inl tt
or_split false b t = inr t

-- a disjunction grows where both parts do
pub or_map : (a b c d : Bool) → (T a → T c) → (T b → T d) → T (a || b) → T (c || d)
or_map true b c d f g t = or_l c d (f tt)
or_map false b c d f g t = or_r c d (g t)

pub and_l : (a b : Bool) → T (a && b) → T a
and_l true b t = tt
and_l false b t = t

pub and_r : (a b : Bool) → T (a && b) → T b
and_r true b t = t
and_r false b t = absurd t

pub not_or : (a b : Bool) → T (not (a || b)) → T (not a) × T (not b)
not_or true b t = absurd t
not_or false b t = (tt, t)

-- ---- where numbers rise, a change at a number meets one entry

module _ {A : Type 0} where
  pub change_past : (n lo b : ℕ) (f : A → A) (t : Table A) → Rising lo b t → n < lo → change n f t ≡ t
  unfolding change
  change_past n lo b f [] r k = refl
  change_past n lo b f (e ∷ t) r k = rw (ne_eqb e.0 n (λ z. omega (arith, r.0))) (ap {B = Table A} (λ x. e ∷ x) (change_past n (suc e.0) b f t r.1 (omega (arith, r.0))))

  -- past the entry that the number names nothing changes
  pub change_first : (n b : ℕ) (f : A → A) (e : ℕ × A) (t : Table A) → Rising (suc e.0) b t → eqb e.0 n ≡ true → change n f t ≡ t
  change_first n b f e t r z = change_past n (suc e.0) b f t r (omega (arith, eqb→eq e.0 n (subst T (sym z) tt)))

-- ---- sums over the entries of a table

module _ {A : Type 0} (w : A → ℕ) where
  pub weigh_append : (s t : Table A) → weigh w (s ++ t) ≡ weigh w s + weigh w t
  weigh_append [] t = sym (zero-add (weigh w t))
  weigh_append (e ∷ s) t = omega (arith, weigh_append s t)

  -- a change that adds nothing, and one that leaves the sum
  pub weigh_less : (n : ℕ) (f : A → A) (t : Table A) → ((a : A) → w (f a) ≤ w a) → weigh w (change n f t) ≤ weigh w t
  unfolding change
  weigh_less n f [] h = omega arith
  weigh_less n f (e ∷ t) h = go (eqb e.0 n) (weigh_less n f t h)
    where
      go : (b : Bool) → weigh w (change n f t) ≤ weigh w t → weigh w (cond b ((e.0, f e.1) ∷ change n f t) (e ∷ change n f t)) ≤ w e.1 + weigh w t
      go true ih = omega (arith, h e.1)
      go false ih = omega arith

  pub weigh_same : (n : ℕ) (f : A → A) (t : Table A) → ((a : A) → w (f a) ≡ w a) → weigh w (change n f t) ≡ weigh w t
  unfolding change
  weigh_same n f [] h = refl
  weigh_same n f (e ∷ t) h = go (eqb e.0 n) (weigh_same n f t h)
    where
      go : (b : Bool) → weigh w (change n f t) ≡ weigh w t → weigh w (cond b ((e.0, f e.1) ∷ change n f t) (e ∷ change n f t)) ≡ w e.1 + weigh w t
      go true ih = omega (arith, h e.1)
      go false ih = omega arith

  -- where numbers rise: a change by no more than k, and the change of what the number names
  pub weigh_more : (k n lo b : ℕ) (f : A → A) (t : Table A) → Rising lo b t → ((a : A) → w (f a) ≤ k + w a) → weigh w (change n f t) ≤ k + weigh w t
  unfolding change
  weigh_more k n lo b f [] r h = omega arith
  weigh_more k n lo b f (e ∷ t) r h = go (eqb e.0 n) refl (weigh_more k n (suc e.0) b f t r.1 h)
    where
      go : (c : Bool) → eqb e.0 n ≡ c → weigh w (change n f t) ≤ k + weigh w t → weigh w (cond c ((e.0, f e.1) ∷ change n f t) (e ∷ change n f t)) ≤ k + (w e.1 + weigh w t)
      go true z ih = omega (arith, h e.1, ap (weigh w) (change_first n b f e t r.1 z))
      go false z ih = omega arith

  pub weigh_change : (n lo b : ℕ) (f : A → A) (t : Table A) (a : A) → Rising lo b t → find t n ≡ some a → w a + weigh w (change n f t) ≡ w (f a) + weigh w t
  unfolding find change
  weigh_change n lo b f [] a r q = absurd (none_some q)
  weigh_change n lo b f (e ∷ t) a r q = go (eqb e.0 n) refl q (weigh_change n (suc e.0) b f t a r.1)
    where
      go : (c : Bool) → eqb e.0 n ≡ c → cond c (some e.1) (find t n) ≡ some a → (find t n ≡ some a → w a + weigh w (change n f t) ≡ w (f a) + weigh w t) → w a + weigh w (cond c ((e.0, f e.1) ∷ change n f t) (e ∷ change n f t)) ≡ w (f a) + (w e.1 + weigh w t)
      go true z v ih = let same : e.1 ≡ a = cc in omega (arith, ap w same, ap (λ (x : A). w (f x)) same, ap (weigh w) (change_first n b f e t r.1 z))
      go false z v ih = omega (arith, ih v)

  pub weigh_all : (f : ℕ → A → A) (t : Table A) → ((n : ℕ) (a : A) → w (f n a) ≤ w a) → weigh w (change_all f t) ≤ weigh w t
  unfolding change_all
  weigh_all f [] h = omega arith
  weigh_all f (e ∷ t) h = omega (arith, h e.0 e.1, weigh_all f t h)

  pub weigh_all_same : (f : ℕ → A → A) (t : Table A) → ((n : ℕ) (a : A) → w (f n a) ≡ w a) → weigh w (change_all f t) ≡ weigh w t
  unfolding change_all
  weigh_all_same f [] h = refl
  weigh_all_same f (e ∷ t) h = omega (arith, h e.0 e.1, weigh_all_same f t h)

  pub weigh_keep : (p : ℕ → Bool) (t : Table A) → weigh w (keep_keys p t) ≤ weigh w t
  unfolding keep_keys
  weigh_keep p [] = omega arith
  weigh_keep p (e ∷ t) = go (p e.0) (weigh_keep p t)
    where
      go : (b : Bool) → weigh w (keep_keys p t) ≤ weigh w t → weigh w (cond b (e ∷ keep_keys p t) (keep_keys p t)) ≤ w e.1 + weigh w t
      go true ih = omega arith
      go false ih = omega arith

  -- what a number names weighs no more than all, and two together no more
  pub weigh_at : (n : ℕ) (t : Table A) (a : A) → find t n ≡ some a → w a ≤ weigh w t
  unfolding find
  weigh_at n [] a q = absurd (none_some q)
  weigh_at n (e ∷ t) a q = go (eqb e.0 n) q (weigh_at n t a)
    where
      go : (b : Bool) → cond b (some e.1) (find t n) ≡ some a → (find t n ≡ some a → w a ≤ weigh w t) → w a ≤ w e.1 + weigh w t
      go true v ih = let z : e.1 ≡ a = cc in omega (arith, ap w z)
      go false v ih = omega (arith, ih v)

  pub weigh_two : (n m : ℕ) (t : Table A) (a b : A) → (n ≡ m → ⊥) → find t n ≡ some a → find t m ≡ some b → w a + w b ≤ weigh w t
  unfolding find
  weigh_two n m [] a b k p q = absurd (none_some p)
  weigh_two n m (e ∷ t) a b k p q = go (eqb e.0 n) refl (eqb e.0 m) refl p q (weigh_two n m t a b k)
    where
      go : (x : Bool) → eqb e.0 n ≡ x → (y : Bool) → eqb e.0 m ≡ y → cond x (some e.1) (find t n) ≡ some a → cond y (some e.1) (find t m) ≡ some b → (find t n ≡ some a → find t m ≡ some b → w a + w b ≤ weigh w t) → w a + w b ≤ w e.1 + weigh w t
      go true z true v p' q' ih = absurd (k (sym (eqb→eq e.0 n (subst T (sym z) tt)) ∙ eqb→eq e.0 m (subst T (sym v) tt)))
      go true z false v p' q' ih = let s : e.1 ≡ a = cc in omega (arith, ap w s, weigh_at m t b q')
      go false z true v p' q' ih = let s : e.1 ≡ b = cc in omega (arith, ap w s, weigh_at n t a p')
      go false z false v p' q' ih = omega (arith, ih p' q')

-- ---- every item of a table, every element of a list

module _ {A : Type 0} (P : A → Type 0) where
  abbrev pub Every : Table A → Type 0
  Every [] = Unit {0}
  Every (e ∷ t) = P e.1 × Every t

  abbrev pub All : List A → Type 0
  All [] = Unit {0}
  All (x ∷ xs) = P x × All xs

  pub All-append : (s t : List A) → All s → All t → All (s ++ t)
  All-append [] t hs ht = ht
  All-append (x ∷ s) t hs ht = (hs.0, All-append s t hs.1 ht)

  pub All-append_l : (s t : List A) → All (s ++ t) → All s
  All-append_l [] t h = tt
  All-append_l (x ∷ s) t h = (h.0, All-append_l s t h.1)

  pub All-append_r : (s t : List A) → All (s ++ t) → All t
  All-append_r [] t h = h
  All-append_r (x ∷ s) t h = All-append_r s t h.1

  pub Every-append : (s t : Table A) → Every s → Every t → Every (s ++ t)
  Every-append [] t hs ht = ht
  Every-append (e ∷ s) t hs ht = (hs.0, Every-append s t hs.1 ht)

  pub Every-number : (n : ℕ) (xs : List A) → All xs → Every (number n xs)
  unfolding number
  Every-number n [] h = tt
  Every-number n (x ∷ xs) h = (h.0, Every-number (suc n) xs h.1)

  pub Every-keep : (p : ℕ → Bool) (t : Table A) → Every t → Every (keep_keys p t)
  unfolding keep_keys
  Every-keep p [] h = tt
  Every-keep p (e ∷ t) h = go (p e.0) (Every-keep p t h.1)
    where
      go : (b : Bool) → Every (keep_keys p t) → Every (cond b (e ∷ keep_keys p t) (keep_keys p t))
      go true r = (h.0, r)
      go false r = r

  pub Every-change : (n : ℕ) (f : A → A) (t : Table A) → ((a : A) → P a → P (f a)) → Every t → Every (change n f t)
  unfolding change
  Every-change n f [] g h = tt
  Every-change n f (e ∷ t) g h = go (eqb e.0 n) (Every-change n f t g h.1)
    where
      go : (b : Bool) → Every (change n f t) → Every (cond b ((e.0, f e.1) ∷ change n f t) (e ∷ change n f t))
      go true r = (g e.1 h.0, r)
      go false r = (h.0, r)

  -- where numbers rise, f need only keep the property of what the number names
  pub Every-at : (n lo b : ℕ) (f : A → A) (t : Table A) → Rising lo b t → ((a : A) → find t n ≡ some a → P a → P (f a)) → Every t → Every (change n f t)
  unfolding change find
  Every-at n lo b f [] r g h = tt
  Every-at n lo b f (e ∷ t) r g h = go (eqb e.0 n) refl g (Every-at n (suc e.0) b f t r.1)
    where
      go : (c : Bool) → eqb e.0 n ≡ c → ((a : A) → cond c (some e.1) (find t n) ≡ some a → P a → P (f a)) → (((a : A) → find t n ≡ some a → P a → P (f a)) → Every t → Every (change n f t)) → Every (cond c ((e.0, f e.1) ∷ change n f t) (e ∷ change n f t))
      go true z k ih = (k e.1 refl h.0, subst Every (sym (change_first n b f e t r.1 z)) h.1)
      go false z k ih = (h.0, ih k h.1)

  pub Every-find : (t : Table A) → Every t → (n : ℕ) (a : A) → find t n ≡ some a → P a
  unfolding find
  Every-find [] w n a e = absurd (none_some e)
  Every-find (x ∷ t) w n a e = go (eqb x.0 n) e (Every-find t w.1 n a)
    where
      go : (b : Bool) → cond b (some x.1) (find t n) ≡ some a → (find t n ≡ some a → P a) → P a
      go true q ih = let z : x.1 ≡ a = cc in subst P z w.0
      go false q ih = ih q

  pub Every-change_all : (f : ℕ → A → A) (t : Table A) → ((n : ℕ) (a : A) → P a → P (f n a)) → Every t → Every (change_all f t)
  unfolding change_all
  Every-change_all f [] g h = tt
  Every-change_all f (e ∷ t) g h = (g e.0 e.1 h.0, Every-change_all f t g h.1)

pub Every-map : {A : Type 0} (P Q : A → Type 0) → ((a : A) → P a → Q a) → (t : Table A) → Every P t → Every Q t
Every-map P Q f [] h = tt
Every-map P Q f (e ∷ t) h = (f e.1 h.0, Every-map P Q f t h.1)

pub Every-both : {A : Type 0} (P Q : A → Type 0) → (t : Table A) → Every P t → Every Q t → Every (λ a. P a × Q a) t
Every-both P Q [] h k = tt
Every-both P Q (e ∷ t) h k = ((h.0, k.0), Every-both P Q t h.1 k.1)

-- ---- an item that passes a test stays

module _ {A : Type 0} where
  pub any_append : (p : A → Bool) (s t : Table A) → T (any p (items s)) → T (any p (items (s ++ t)))
  unfolding any items
  any_append p [] t h = absurd h
  any_append p (e ∷ s) t h = or_map (p e.1) (any p (items s)) (p e.1) (any p (items (s ++ t))) (λ x. x) (any_append p s t) h

  pub any_change : (p : A → Bool) (n : ℕ) (f : A → A) (t : Table A) → ((a : A) → T (p a) → T (p (f a))) → T (any p (items t)) → T (any p (items (change n f t)))
  unfolding any items change
  any_change p n f [] g h = h
  any_change p n f (e ∷ t) g h = go (any_change p n f t g) (eqb e.0 n)
    where
      go : (T (any p (items t)) → T (any p (items (change n f t)))) → (b : Bool) → T (any p (items (cond b ((e.0, f e.1) ∷ change n f t) (e ∷ change n f t))))
      go ih true = or_map (p e.1) (any p (items t)) (p (f e.1)) (any p (items (change n f t))) (g e.1) ih h
      go ih false = or_map (p e.1) (any p (items t)) (p e.1) (any p (items (change n f t))) (λ x. x) ih h

  -- where numbers rise, f need only keep the test at what the number names
  pub any_at : (p : A → Bool) (n lo b : ℕ) (f : A → A) (t : Table A) → Rising lo b t → ((a : A) → find t n ≡ some a → T (p a) → T (p (f a))) → T (any p (items t)) → T (any p (items (change n f t)))
  unfolding any items change find
  any_at p n lo b f [] r g h = h
  any_at p n lo b f (e ∷ t) r g h = go (any_at p n (suc e.0) b f t r.1) (eqb e.0 n) refl g
    where
      go : (((a : A) → find t n ≡ some a → T (p a) → T (p (f a))) → T (any p (items t)) → T (any p (items (change n f t)))) → (c : Bool) → eqb e.0 n ≡ c → ((a : A) → cond c (some e.1) (find t n) ≡ some a → T (p a) → T (p (f a))) → T (any p (items (cond c ((e.0, f e.1) ∷ change n f t) (e ∷ change n f t))))
      go ih true z k = or_map (p e.1) (any p (items t)) (p (f e.1)) (any p (items (change n f t))) (k e.1 refl) (subst (λ (x : Table A). T (any p (items x))) (sym (change_first n b f e t r.1 z))) h
      go ih false z k = or_map (p e.1) (any p (items t)) (p e.1) (any p (items (change n f t))) (λ x. x) (ih k) h

  pub any_change_all : (p : A → Bool) (f : ℕ → A → A) (t : Table A) → ((n : ℕ) (a : A) → T (p a) → T (p (f n a))) → T (any p (items t)) → T (any p (items (change_all f t)))
  unfolding any items change_all
  any_change_all p f [] g h = h
  any_change_all p f (e ∷ t) g h =
      or_map (p e.1) (any p (items t)) (p (f e.0 e.1)) (any p (items (change_all f t))) (g e.0 e.1) (any_change_all p f t g) h

  pub find_append : (s t : Table A) (n : ℕ) → T (is_some (find s n)) → T (is_some (find (s ++ t) n))
  unfolding find is_some
  find_append [] t n h = absurd h
  find_append (e ∷ s) t n h = go (find_append s t n) (eqb e.0 n) h
    where
      go : (T (is_some (find s n)) → T (is_some (find (s ++ t) n))) → (b : Bool) → T (is_some (cond b (some e.1) (find s n))) → T (is_some (cond b (some e.1) (find (s ++ t) n)))
      go ih true k = tt
      go ih false k = ih k

  pub find_change : (n : ℕ) (f : A → A) (t : Table A) (m : ℕ) → T (is_some (find t m)) → T (is_some (find (change n f t) m))
  unfolding find is_some change
  find_change n f [] m h = h
  find_change n f (e ∷ t) m h = go (find_change n f t m) (eqb e.0 n)
    where
      at : (x : A) → (T (is_some (find t m)) → T (is_some (find (change n f t) m))) → (c : Bool) → T (is_some (cond c (some e.1) (find t m))) → T (is_some (cond c (some x) (find (change n f t) m)))
      at x ih true k = tt
      at x ih false k = ih k

      go : (T (is_some (find t m)) → T (is_some (find (change n f t) m))) → (b : Bool) → T (is_some (find (cond b ((e.0, f e.1) ∷ change n f t) (e ∷ change n f t)) m))
      go ih true = at (f e.1) ih (eqb e.0 m) h
      go ih false = at e.1 ih (eqb e.0 m) h

-- ---- lists of numbers

pub member_append : (n : ℕ) (s t : List ℕ) → T (member n s) → T (member n (s ++ t))
unfolding member
member_append n [] t h = absurd h
member_append n (x ∷ s) t h = or_map (eqb x n) (member n s) (eqb x n) (member n (s ++ t)) (λ y. y) (member_append n s t) h

pub member_insert : (n i a : ℕ) (s : List ℕ) → T (member n s) → T (member n (insert_at i a s))
unfolding member insert_at
member_insert n zero a s h = or_r (eqb a n) (member n s) h
member_insert n (suc i) a [] h = absurd h
member_insert n (suc i) a (x ∷ s) h = or_map (eqb x n) (member n s) (eqb x n) (member n (insert_at i a s)) (λ y. y) (member_insert n i a s) h

-- what is not the element at the index stays when that is taken out
pub member_remove : (n i : ℕ) (s : List ℕ) → T (not (eqb (get_or s i 0) n)) → T (member n s) → T (member n (remove_at i s))
unfolding member remove_at
member_remove n i [] k h = absurd h
member_remove n zero (x ∷ s) k h = go (eqb x n) k h
  where
    go : (b : Bool) → T (not b) → T (b || member n s) → T (member n s)
    go true q r = absurd q
    go false q r = r
member_remove n (suc i) (x ∷ s) k h = or_map (eqb x n) (member n s) (eqb x n) (member n (remove_at i s)) (λ y. y) (member_remove n i s k) h

-- no number passes: then no item does
pub none_where : {A : Type 0} (p : A → Bool) (t : Table A) → T (not (ltb 0 (length (keys_where p t)))) → Every (λ a. T (not (p a))) t
unfolding keys_where
none_where p [] h = tt
none_where p (e ∷ t) h = go (none_where p t) (p e.1) h
  where
    go : (T (not (ltb 0 (length (keys_where p t)))) → Every (λ a. T (not (p a))) t) → (b : Bool) → T (not (ltb 0 (length (cond b (e.0 ∷ keys_where p t) (keys_where p t))))) → T (not b) × Every (λ a. T (not (p a))) t
    go ih true k = absurd (not-suc-le-zero (nltb→le 0 (suc (length (keys_where p t))) k))
    go ih false k = (tt, ih k)

pub All-items : {A : Type 0} (P : A → Type 0) (t : Table A) → All P (items t) → Every P t
unfolding items
All-items P [] h = tt
All-items P (e ∷ t) h = (h.0, All-items P t h.1)

-- no element passes: then each one fails
pub none_any : {A : Type 0} (p : A → Bool) (xs : List A) → T (not (any p xs)) → All (λ a. T (not (p a))) xs
unfolding any
none_any p [] h = tt
none_any p (x ∷ xs) h = let k : T (not (p x)) × T (not (any p xs)) = not_or (p x) (any p xs) h in (k.0, none_any p xs k.1)

pub any_append_l : {A : Type 0} (p : A → Bool) (s t : List A) → T (any p s) → T (any p (s ++ t))
unfolding any
any_append_l p [] t h = absurd h
any_append_l p (x ∷ s) t h = or_map (p x) (any p s) (p x) (any p (s ++ t)) (λ y. y) (any_append_l p s t) h

pub any_append_r : {A : Type 0} (p : A → Bool) (s t : List A) → T (any p t) → T (any p (s ++ t))
unfolding any
any_append_r p [] t h = h
any_append_r p (x ∷ s) t h = or_r (p x) (any p (s ++ t)) (any_append_r p s t h)

pub against : (b : Bool) → T (not b) → T b → ⊥
against true p q = p
against false p q = q

-- what passes p and is not kept is among what is gathered, if f shows q of each that passes p
pub any_kept : {A B : Type 0} (inside : ℕ → Bool) (f : ℕ → A → List B) (p : A → Bool) (q : B → Bool) → ((n : ℕ) (a : A) → T (p a) → T (any q (f n a))) → (t : Table A) → T (not (any q (gather inside f t))) → T (any p (items t)) → T (any p (items (keep_keys (λ n. not (inside n)) t)))
unfolding any items gather keep_keys
any_kept inside f p q g [] k h = h
any_kept {A} {B} inside f p q g (e ∷ t) k h = go (any_kept inside f p q g t) (inside e.0) k
  where
    go : (T (not (any q (gather inside f t))) → T (any p (items t)) → T (any p (items (keep_keys (λ n. not (inside n)) t)))) → (b : Bool) → T (not (any q (cond b (f e.0 e.1 ++ gather inside f t) (gather inside f t)))) → T (any p (items (cond (not b) (e ∷ keep_keys (λ n. not (inside n)) t) (keep_keys (λ n. not (inside n)) t))))
    go ih true k' = here (or_split (p e.1) (any p (items t)) h)
      where
        here : T (p e.1) ⊎ T (any p (items t)) → T (any p (items (keep_keys (λ n. not (inside n)) t)))
        here (inl x) = absurd (against (any q (f e.0 e.1 ++ gather inside f t)) k' (any_append_l q (f e.0 e.1) (gather inside f t) (g e.0 e.1 x)))
        here (inr x) = ih (rest (any q (gather inside f t)) (any_append_r q (f e.0 e.1) (gather inside f t)) k') x
          where
            rest : (c : Bool) → (T c → T (any q (f e.0 e.1 ++ gather inside f t))) → T (not (any q (f e.0 e.1 ++ gather inside f t))) → T (not c)
            rest true z w = against (any q (f e.0 e.1 ++ gather inside f t)) w (z tt)
            rest false z w = tt
    go ih false k' = or_map (p e.1) (any p (items t)) (p e.1) (any p (items (keep_keys (λ n. not (inside n)) t))) (λ y. y) (ih k') h

-- what a number names is kept where the number passes
pub find_keep : {A : Type 0} (p : ℕ → Bool) (m : ℕ) (t : Table A) → T (p m) → T (is_some (find t m)) → T (is_some (find (keep_keys p t) m))
unfolding find is_some keep_keys
find_keep p m [] k h = h
find_keep p m (e ∷ t) k h = go (find_keep p m t k) (p e.0) refl
  where
    inner : (T (is_some (find t m)) → T (is_some (find (keep_keys p t) m))) → (c : Bool) → T (is_some (cond c (some e.1) (find t m))) → T (is_some (cond c (some e.1) (find (keep_keys p t) m)))
    inner ih true x = tt
    inner ih false x = ih x

    outer : p e.0 ≡ false → (T (is_some (find t m)) → T (is_some (find (keep_keys p t) m))) → (c : Bool) → eqb e.0 m ≡ c → T (is_some (cond c (some e.1) (find t m))) → T (is_some (find (keep_keys p t) m))
    outer z ih true w x = absurd (subst T (sym (ap p (eqb→eq e.0 m (subst T (sym w) tt))) ∙ z) k)
    outer z ih false w x = ih x

    go : (T (is_some (find t m)) → T (is_some (find (keep_keys p t) m))) → (b : Bool) → p e.0 ≡ b → T (is_some (find (cond b (e ∷ keep_keys p t) (keep_keys p t)) m))
    go ih true z = inner ih (eqb e.0 m) h
    go ih false z = outer z ih (eqb e.0 m) refl h

-- what a number inside names is among what is gathered
pub gathered : {A B : Type 0} (inside : ℕ → Bool) (f : ℕ → A → List B) (q : B → Bool) (m : ℕ) → ((a : A) → T (any q (f m a))) → (t : Table A) → T (inside m) → T (is_some (find t m)) → T (any q (gather inside f t))
unfolding any find is_some gather
gathered inside f q m g [] k h = absurd h
gathered {A} {B} inside f q m g (e ∷ t) k h = go (gathered inside f q m g t k) (eqb e.0 m) refl h
  where
    first : (b : Bool) → inside e.0 ≡ b → e.0 ≡ m → T (any q (cond b (f e.0 e.1 ++ gather inside f t) (gather inside f t)))
    first true z w = any_append_l q (f e.0 e.1) (gather inside f t) (subst (λ (n : ℕ). T (any q (f n e.1))) (sym w) (g e.1))
    first false z w = absurd (subst T (sym (ap inside w) ∙ z) k)

    later : T (any q (gather inside f t)) → (b : Bool) → T (any q (cond b (f e.0 e.1 ++ gather inside f t) (gather inside f t)))
    later x true = any_append_r q (f e.0 e.1) (gather inside f t) x
    later x false = x

    go : (T (is_some (find t m)) → T (any q (gather inside f t))) → (c : Bool) → eqb e.0 m ≡ c → T (is_some (cond c (some e.1) (find t m))) → T (any q (cond (inside e.0) (f e.0 e.1 ++ gather inside f t) (gather inside f t)))
    go ih true w x = first (inside e.0) refl (eqb→eq e.0 m (subst T (sym w) tt))
    go ih false w x = later (ih x) (inside e.0)

-- the same for what a number names
pub find_kept : {A B : Type 0} (inside : ℕ → Bool) (f : ℕ → A → List B) (q : B → Bool) (m : ℕ) → ((a : A) → T (any q (f m a))) → (t : Table A) → T (not (any q (gather inside f t))) → T (is_some (find t m)) → T (is_some (find (keep_keys (λ n. not (inside n)) t) m))
find_kept inside f q m g t k h = find_keep (λ n. not (inside n)) m t (go (inside m) refl) h
  where
    go : (b : Bool) → inside m ≡ b → T (not (inside m))
    go true z = absurd (against (any q (gather inside f t)) k (gathered inside f q m g t (subst T (sym z) tt) h))
    go false z = subst (λ (b : Bool). T (not b)) (sym z) tt
