-- Laws of the definitions of specs/Table.antt. Assumes nothing.
use Rattle.std.proofs.Common.{◌≡◌, refl, sym, ap, ap₂, ◌∙◌, subst, Bool, true, false, cond, ◌⊎◌, inl, inr, ⊎_elim, List, [], ◌∷◌, ◌++◌, append-nil, ℕ, zero, suc, ◌+◌, ◌≤◌, ◌<◌, suc-le-suc, eq-or-lt_of_le, le_of_suc-le-suc, not-suc-le-zero, arith, eq-eqb, ne_eqb, eqb, Option, Some, None}
use mathlib.Core.Logic.{ite, if_pos, if_neg}
use native.Mathlib.Decide.{ℕ_discrete, dec_lt}
use lib.Arith.{lt_of_le-ne}
use Rattle.table.specs.Table.{Table, Shape, Ordered, Rank, count, order, stamp, live, entry, tab, find_in, without}
use Rattle.bits.specs.Map.{lowest}
use Rattle.std.specs.Option.{option_or}
pub use Rattle.seqs.proofs.Says.{says_map, says_no, says_yes}
use Rattle.bits.proofs.Lowest.{last_or, taken_all}
use Rattle.std.proofs.lemmas.Bool.{cases_eq}
use Rattle.bits.proofs.Digits.{le_or_lt}

-- ---- tab
pub tab_ext : (f g : ℕ → ℕ × ℕ) (m : ℕ) → ((i : ℕ) → i < m → f i ≡ g i) → tab f m ≡ tab g m
unfolding tab
tab_ext f g zero h = refl
tab_ext f g (suc m) h = ap₂ (λ (a : List (ℕ × ℕ)) (x : ℕ × ℕ). a ++ (x ∷ [])) (tab_ext f g m (λ i l. h i (omega arith))) (h m (omega arith))

-- ---- findIn
pub find_append : (a b : List (ℕ × ℕ)) (x : ℕ) → find_in (a ++ b) x ≡ option_or (find_in a x) (find_in b x)
unfolding find_in
find_append [] b x = refl
find_append (e ∷ a) b x = go (eqb e.0 x) (find_append a b x)
  where
    go : (q : Bool) → find_in (a ++ b) x ≡ option_or (find_in a x) (find_in b x) → cond q (Some e.1) (find_in (a ++ b) x) ≡ option_or (cond q (Some e.1) (find_in a x)) (find_in b x)
    go true r = refl
    go false r = r

pub miss : (f : ℕ → ℕ × ℕ) (m x : ℕ) → ((i : ℕ) → i < m → (f i).0 ≡ x → ⊥) → find_in (tab f m) x ≡ None
unfolding tab find_in
miss f zero x h = refl
miss f (suc m) x h =
    find_append (tab f m) (f m ∷ []) x
    ∙ ap₂ (λ (a : Option ℕ) (q : Bool). option_or a (cond q (Some (f m).1) None)) (miss f m x (λ i l. h i (omega arith))) (ne_eqb (f m).0 x (h m (omega arith)))

pub hit : (f : ℕ → ℕ × ℕ) (m k x : ℕ) → k < m → ((i : ℕ) → i < k → (f i).0 ≡ x → ⊥) → (f k).0 ≡ x → find_in (tab f m) x ≡ Some (f k).1
unfolding tab find_in
hit f zero k x l h e = absurd (not-suc-le-zero l)
hit f (suc m) k x l h e =
    find_append (tab f m) (f m ∷ []) x
    ∙ ⊎_elim
    (λ q. ap₂ (λ (a : Option ℕ) (b : Bool). option_or a (cond b (Some (f m).1) None)) (miss f m x (λ i l. h i (omega arith))) (eq-eqb (f m).0 x (ap (λ (j : ℕ). (f j).0) (sym q) ∙ e))
    ∙ ap (λ (j : ℕ). Some (f j).1) (sym q))
    (λ q. ap (λ (a : Option ℕ). option_or a (find_in (f m ∷ []) x)) (hit f m k x q h e)) (last_or l)

-- ---- deciding
pub tri : (i j : ℕ) → (i < j) ⊎ ((i ≡ j) ⊎ (j < i))
tri i j = ⊎_elim (λ h. ⊎_elim (λ e. inr (inl e)) (λ l. inl l) (eq-or-lt_of_le h)) (λ h. inr (inr h)) (le_or_lt i j)

-- ---- without
without_append : (p : ℕ) (a b : List (ℕ × ℕ)) → without p (a ++ b) ≡ without p a ++ without p b
without_append p [] b = refl
without_append p (e ∷ a) b = go (ℕ_discrete e.1 p) (without_append p a b)
  where
    go : (q : Dec (e.1 ≡ p)) → without p (a ++ b) ≡ without p a ++ without p b → ite q (without p (a ++ b)) (e ∷ without p (a ++ b)) ≡ ite q (without p a) (e ∷ without p a) ++ without p b
    go (yes _) r = r
    go (no _) r = ap (λ (l : List (ℕ × ℕ)). e ∷ l) r

-- one entry, which goes or stays
gone_one : (p : ℕ) (e : ℕ × ℕ) → e.1 ≡ p → without p (e ∷ []) ≡ []
gone_one p e h = if_pos (ℕ_discrete e.1 p) h [] (e ∷ [])

kept_one : (p : ℕ) (e : ℕ × ℕ) → (e.1 ≡ p → ⊥) → without p (e ∷ []) ≡ e ∷ []
kept_one p e h = if_neg (ℕ_discrete e.1 p) h [] (e ∷ [])

without_none : (f : ℕ → ℕ × ℕ) (p m : ℕ) → ((i : ℕ) → i < m → (f i).1 ≡ p → ⊥) → without p (tab f m) ≡ tab f m
unfolding tab
without_none f p zero h = refl
without_none f p (suc m) h =
    without_append p (tab f m) (f m ∷ [])
    ∙ ap₂ (λ (a b : List (ℕ × ℕ)). a ++ b) (without_none f p m (λ i l. h i (omega arith))) (kept_one p (f m) (h m (omega arith)))

-- the one at k goes: what comes before stays, and what comes after moves down
without_last : (f g : ℕ → ℕ × ℕ) (p k m : ℕ) → k ≡ m → (f k).1 ≡ p → ((i : ℕ) → i < suc m → (i ≡ k → ⊥) → (f i).1 ≡ p → ⊥) → ((i : ℕ) → i < k → g i ≡ f i) → without p (tab f (suc m)) ≡ tab g m
unfolding tab
without_last f g p k m q e d lo =
    without_append p (tab f m) (f m ∷ [])
    ∙ ap₂ (λ (a b : List (ℕ × ℕ)). a ++ b) (without_none f p m (λ i r. d i (omega arith) (omega arith)) ∙ tab_ext f g m (λ i r. sym (lo i (omega arith)))) (gone_one p (f m) (ap (λ (j : ℕ). (f j).1) (sym q) ∙ e))
    ∙ append-nil (tab g m)

pub without_one : (f g : ℕ → ℕ × ℕ) (p k m : ℕ) → k ≤ m → (f k).1 ≡ p → ((i : ℕ) → i < suc m → (i ≡ k → ⊥) → (f i).1 ≡ p → ⊥) → ((i : ℕ) → i < k → g i ≡ f i) → ((i : ℕ) → k ≤ i → i < m → g i ≡ f (suc i)) → without p (tab f (suc m)) ≡ tab g m
unfolding tab
without_one f g p k zero l e d lo hi = without_last f g p k zero (omega arith) e d lo
without_one f g p k (suc m) l e d lo hi = ⊎_elim (λ q. without_last f g p k (suc m) q e d lo)
    (λ q. without_append p (tab f (suc m)) (f (suc m) ∷ [])
    ∙ ap₂ (λ (a b : List (ℕ × ℕ)). a ++ b) (without_one f g p k m (omega arith) e (λ i r. d i (omega arith)) lo (λ i r u. hi i r (omega arith))) (kept_one p (f (suc m)) (d (suc m) (omega arith) (omega arith)))
    ∙ ap (λ (x : ℕ × ℕ). tab g m ++ (x ∷ [])) (sym (hi m (omega arith) (omega arith)))) (eq-or-lt_of_le l)

-- ---- find
module _ (n : ℕ) (t : List ℕ) (x r : ℕ) (T : Table n t) (R : Rank n t x r) where
  pub find_hit : (p : ℕ) → p ≡ order t r → r < count t → stamp n t p ≡ suc x → find_in (live n t) x ≡ Some p
  find_hit p e l f =
      hit (entry n t) (count t) r x l (λ i q z. omega (arith, R.low i q, T.used i (omega arith))) (omega (arith, f, ap (stamp n t) e)) ∙ ap Some (sym e)

  pub find_other : (p : ℕ) → p ≡ order t r → r < count t → (stamp n t p ≡ suc x → ⊥) → find_in (live n t) x ≡ None
  find_other p e l g = miss (entry n t) (count t) x (λ i q z.
      let u : 0 < stamp n t (order t i) = T.used i q in
      let k : stamp n t p ≡ stamp n t (order t r) = ap (stamp n t) e in
      ⊎_elim (λ h. omega (arith, R.low i h)) (⊎_elim (λ h. g (omega (arith, ap (λ (j : ℕ). stamp n t (order t j)) h))) (λ h. omega (arith, T.rising r i h q, R.high r (omega arith) l))) (tri i r))

  pub find_past : count t ≤ r → find_in (live n t) x ≡ None
  find_past l = miss (entry n t) (count t) x (λ i q z. omega (arith, T.used i q, R.low i (omega arith)))

-- ---- no place for two: a function that is one-to-one below a, with values below b
abbrev pick_n : Bool → ℕ → ℕ → ℕ
pick_n true x y = x
pick_n false x y = y

pigeon : (b a : ℕ) (f : ℕ → ℕ) → ((i : ℕ) → i < a → f i < b) → ((i j : ℕ) → i < j → j < a → f i ≡ f j → ⊥) → a ≤ b
pigeon zero zero f v d = omega arith
pigeon zero (suc a) f v d = absurd (not-suc-le-zero (v 0 (omega arith)))
pigeon (suc b) zero f v d = omega arith
pigeon (suc b) (suc a) f v d =
    let g : ℕ → ℕ = λ i. pick_n (eqb (f i) b) (f a) (f i) in
    let by : (i : ℕ) → ((f i ≡ b) × (g i ≡ f a)) ⊎ ((f i ≡ b → ⊥) × (g i ≡ f i)) = λ i. ⊎_elim (λ e. inl (e, ap (λ (q : Bool). pick_n q (f a) (f i)) (eq-eqb (f i) b e))) (λ e. inr (e, ap (λ (q : Bool). pick_n q (f a) (f i)) (ne_eqb (f i) b e))) (cases_eq (f i) b) in
    suc-le-suc (pigeon b a g
    (λ i l. ⊎_elim (λ w. omega (arith, v a (omega arith), lt_of_le-ne (le_of_suc-le-suc (v a (omega arith))) (λ e. d i a l (omega arith) (w.0 ∙ sym e)))) (λ w. omega (arith, lt_of_le-ne (le_of_suc-le-suc (v i (omega arith))) w.0)) (by i))
    (λ i j l m e. ⊎_elim (λ w. ⊎_elim (λ u. d i j l (omega arith) (w.0 ∙ sym u.0)) (λ u. d j a m (omega arith) (sym u.1 ∙ sym e ∙ w.1)) (by j)) (λ w. ⊎_elim (λ u. d i a (omega arith) (omega arith) (sym w.1 ∙ e ∙ u.1)) (λ u. d i j l (omega arith) (sym w.1 ∙ e ∙ u.1)) (by j)) (by i)))

-- the same for a relation: each i below a has a j below b, and no two have the same
dec_of : (a : ℕ) (P : ℕ → ℕ → Type 0) → ((i : ℕ) → i < a → (j : ℕ) × P i j) → (i : ℕ) → Dec (i < a) → ℕ
dec_of a P h i (yes l) = (h i l).0
dec_of a P h i (no l) = 0

dec_is : (a : ℕ) (P : ℕ → ℕ → Type 0) (h : (i : ℕ) → i < a → (j : ℕ) × P i j) (i : ℕ) → i < a → (d : Dec (i < a)) → P i (dec_of a P h i d)
unfolding dec_of
dec_is a P h i l (yes q) = (h i q).1
dec_is a P h i l (no q) = absurd (q l)

pub pigeon_of : (b a : ℕ) (P : ℕ → ℕ → Type 0) → ((i : ℕ) → i < a → (j : ℕ) × P i j) → ((i j : ℕ) → P i j → j < b) → ((i j k : ℕ) → P i k → P j k → i ≡ j) → a ≤ b
pigeon_of b a P h v d =
    let f : ℕ → ℕ = λ i. dec_of a P h i (dec_lt i a) in
    let is : (i : ℕ) → i < a → P i (f i) = λ i l. dec_is a P h i l (dec_lt i a) in
    pigeon b a f (λ i l. v i (f i) (is i l)) (λ i j l m e. omega (arith, d i j (f j) (subst (P i) e (is i (omega arith))) (is j m)))

-- ---- a table is full exactly where no place is free
pub full : (n : ℕ) (t : List ℕ) → Table n t → ((p : ℕ) → p < n → 0 < stamp n t p) → n ≤ count t
full n t T all = pigeon_of (count t) n (λ p i. (i < count t) × (order t i ≡ p)) (λ p l. let f = T.found p l (all p l) in (f.0, (f.1, f.2))) (λ p i w. w.0) (λ p q i w u. sym w.1 ∙ u.1)

pub has_free : (n : ℕ) (t : List ℕ) → Table n t → count t < n → lowest (stamp n t) n ≡ None → ⊥
has_free n t T l e = omega (arith, full n t T (taken_all (stamp n t) n e))

-- a free place is one that the order does not have: so the count is below n
pub not_full : (n : ℕ) (t : List ℕ) → Table n t → (p : ℕ) → p < n → stamp n t p ≡ 0 → count t < n
not_full n t T p l z =
    let f : ℕ → ℕ = λ i. pick_n (eqb i (count t)) p (order t i) in
    let in_f : (i : ℕ) → i < count t → f i ≡ order t i = λ i l. ap (λ (q : Bool). pick_n q p (order t i)) (ne_eqb i (count t) (omega arith)) in
    let at_f : f (count t) ≡ p = ap (λ (q : Bool). pick_n q p (order t (count t))) (eq-eqb (count t) (count t) refl) in
    pigeon n (suc (count t)) f
    (λ i q. ⊎_elim (λ e. omega (arith, ap f e)) (λ r. omega (arith, in_f i r, T.inside i r)) (last_or q))
    (λ i j d q e. ⊎_elim (λ r. omega (arith, T.used i (omega arith), ap (stamp n t) (sym (in_f i (omega arith)) ∙ e ∙ ap f r ∙ at_f)))
    (λ r. omega (arith, T.rising i j d r, ap (stamp n t) (sym (in_f i (omega arith)) ∙ e ∙ in_f j r))) (last_or q))

pub shape : {n : ℕ} {t : List ℕ} → Table n t → Shape n t
shape T = record { cap = T.cap; size = T.size; few = T.few }

pub ordered : {n : ℕ} {t : List ℕ} → Table n t → Ordered n t
ordered T = record { inside = T.inside; used = T.used; rising = T.rising }

-- the rank of a live thing's number is its position
pub at_rank : (n : ℕ) (t : List ℕ) (p x k : ℕ) → Ordered n t → (i : ℕ) × (i < count t) × (order t i ≡ p) → x + 1 ≡ stamp n t p → Rank n t x k → (k < count t) × (order t k ≡ p)
at_rank n t p x k O f e R =
    let l : f.0 < count t = f.1 in
    let g : stamp n t (order t f.0) ≡ stamp n t p = ap (stamp n t) f.2 in
    ⊎_elim (λ q. absurd (omega (arith, R.low f.0 q)))
    (⊎_elim (λ q. (omega arith, ap (order t) (sym q) ∙ f.2))
    (λ q. absurd (omega (arith, R.high k (omega arith) (omega arith), O.rising k f.0 q l)))) (tri f.0 k)
