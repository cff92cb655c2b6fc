-- The rules' changes of tables, over a list of places; and sums over places. Assumes nothing.
use mathlib.Core.Path.{◌≡◌, refl, sym, ap, ap₂, ◌∙◌}
use mathlib.Core.Logic.{◌≢◌, by_cases, ⊎_elim}
use mathlib.Core.HLevel.{Discrete}
use mathlib.Core.Bool.{Bool, true, false, not, cond}
use mathlib.Core.List.{List, [], ◌∷◌, ◌++◌, map}
use native.Mathlib.Decide.{ℕ_discrete}
use native.Mathlib.Omega.{arith}
use Prim.Native.Nat.{ℕ, zero, suc, ◌+◌, ◌<◌}
use lib.Dec.{eqb}
use lib.ListN.{length}
use Rattle.seqs.specs.Seqs.{tick, count, In, sum, seq_remove_at}
use Rattle.places.specs.Walk.{pick, sgn, sift}
use Rattle.rules.specs.Table.{change_all, keep_keys, gather, keep, items, concat, any, change, remove_at}
use Rattle.seqs.proofs.Base.{tick_yes, tick_no, tick_pos, in_head, in_tail, count_append}
use Rattle.seqs.proofs.Sums.{sum_append}
use Rattle.places.proofs.Cut.{zero_or}
use Rattle.places.proofs.Bits.{bit, bit_eqb, or_sum, sgn_bit}

module _ {A : Type 0} (nm : ℕ → ℕ) (g : ℕ → A) where
  pub keep_tabled : (p : ℕ → Bool) (q : ℕ → ℕ) (l : List ℕ) → ((o : ℕ) → In ℕ_discrete o l → sgn (q o) ≡ bit (not (p (nm o)))) → keep_keys p (map (λ o. (nm o, g o)) l) ≡ map (λ o. (nm o, g o)) (sift q l)
  unfolding keep_keys pick
  keep_tabled p q [] h = refl
  keep_tabled p q (o ∷ l) h = go (keep_tabled p q l (λ r i. h r (in_tail ℕ_discrete r o l i))) (p (nm o)) (q o) (h o (in_head ℕ_discrete o l))
    where
      go : keep_keys p (map (λ o. (nm o, g o)) l) ≡ map (λ o. (nm o, g o)) (sift q l) → (b : Bool) (n : ℕ) → sgn n ≡ bit (not b) → cond b ((nm o, g o) ∷ keep_keys p (map (λ o. (nm o, g o)) l)) (keep_keys p (map (λ o. (nm o, g o)) l)) ≡ map (λ o. (nm o, g o)) (pick n (o ∷ sift q l) (sift q l))
      go ih true zero e = ap {B = List (ℕ × A)} (λ r. (nm o, g o) ∷ r) ih
      go ih true (suc n) e = absurd (omega arith)
      go ih false zero e = absurd (omega arith)
      go ih false (suc n) e = ih

  pub change_tabled : (ch : ℕ → A → A) (l : List ℕ) → change_all ch (map (λ o. (nm o, g o)) l) ≡ map (λ o. (nm o, ch (nm o) (g o))) l
  unfolding change_all
  change_tabled ch [] = refl
  change_tabled ch (o ∷ l) = ap {B = List (ℕ × A)} (λ r. (nm o, ch (nm o) (g o)) ∷ r) (change_tabled ch l)

  pub count_tabled : {B : Type 0} (d : Discrete B) (m : B) (p : ℕ → Bool) (f : ℕ → A → List B) (l : List ℕ) → count d m (gather p f (map (λ o. (nm o, g o)) l)) ≡ sum (λ o. cond (p (nm o)) (count d m (f (nm o) (g o))) 0) l
  unfolding gather
  count_tabled d m p f [] = refl
  count_tabled d m p f (o ∷ l) = go (count_tabled d m p f l) (p (nm o))
    where
      go : count d m (gather p f (map (λ o. (nm o, g o)) l)) ≡ sum (λ o. cond (p (nm o)) (count d m (f (nm o) (g o))) 0) l → (b : Bool) → count d m (cond b (f (nm o) (g o) ++ gather p f (map (λ o. (nm o, g o)) l)) (gather p f (map (λ o. (nm o, g o)) l))) ≡ cond b (count d m (f (nm o) (g o))) 0 + sum (λ o. cond (p (nm o)) (count d m (f (nm o) (g o))) 0) l
      go ih true = count_append d m (f (nm o) (g o)) (gather p f (map (λ o. (nm o, g o)) l)) ∙ ap (λ (n : ℕ). count d m (f (nm o) (g o)) + n) ih
      go ih false = omega arith

-- ---- sums

sum_none : (f : ℕ → ℕ) (l : List ℕ) (p : ℕ) → count ℕ_discrete p l ≡ 0 → ((q : ℕ) → q ≢ p → f q ≡ 0) → sum f l ≡ 0
sum_none f [] p c h = refl
sum_none f (q ∷ l) p c h = omega (arith, h q (λ e. absurd (omega (arith, tick_yes (ℕ_discrete p q) (sym e)))), sum_none f l p (omega arith) h)

pub sum_single : (f : ℕ → ℕ) (l : List ℕ) (p : ℕ) → count ℕ_discrete p l ≡ 1 → ((q : ℕ) → q ≢ p → f q ≡ 0) → sum f l ≡ f p
sum_single f [] p c h = absurd (omega arith)
sum_single f (q ∷ l) p c h =
    by_cases (ℕ_discrete q p)
    (λ e. omega (arith, ap f e, sum_none f l p (omega (arith, tick_yes (ℕ_discrete p q) (sym e))) h))
    (λ n. omega (arith, h q n, sum_single f l p (omega (arith, tick_no (ℕ_discrete p q) (λ e. n (sym e)))) h))

-- a positive sum has a positive part
pub sum_some : {A : Type 0} (d : Discrete A) (f : A → ℕ) (l : List A) → 0 < sum f l → (x : A) × In d x l × (0 < f x)
sum_some d f [] h = absurd (omega arith)
sum_some d f (y ∷ l) h = ⊎_elim (λ z. let r : (x : _) × In d x l × (0 < f x) = sum_some d f l (omega arith) in (r.0, in_tail d r.0 y l r.1, r.2)) (λ z. (y, in_head d y l, z)) (zero_or (f y))

pub in_mapped : {A B : Type 0} (dA : Discrete A) (dB : Discrete B) (g : A → B) (b : B) (l : List A) → In dB b (map g l) → (x : A) × (b ≡ g x) × In dA x l
in_mapped dA dB g b [] h = absurd (omega arith)
in_mapped dA dB g b (y ∷ l) h = by_cases (dB b (g y)) (λ e. (y, e, in_head dA y l)) (λ n. let r : (x : _) × (b ≡ g x) × In dA x l = in_mapped dA dB g b l (omega (arith, tick_no (dB b (g y)) n)) in (r.0, r.1, in_tail dA r.0 y l r.2))

module _ {A : Type 0} (nm : ℕ → ℕ) (g : ℕ → A) where
  pub items_tabled : (l : List ℕ) → items (map (λ o. (nm o, g o)) l) ≡ map g l
  unfolding items
  items_tabled [] = refl
  items_tabled (o ∷ l) = ap {B = List A} (λ r. g o ∷ r) (items_tabled l)

  pub sum_tabled : {B : Type 0} (F : B → ℕ) (p : ℕ → Bool) (f : ℕ → A → List B) (l : List ℕ) → sum F (gather p f (map (λ o. (nm o, g o)) l)) ≡ sum (λ o. cond (p (nm o)) (sum F (f (nm o) (g o))) 0) l
  unfolding gather
  sum_tabled F p f [] = refl
  sum_tabled F p f (o ∷ l) = go (sum_tabled F p f l) (p (nm o))
    where
      go : sum F (gather p f (map (λ o. (nm o, g o)) l)) ≡ sum (λ o. cond (p (nm o)) (sum F (f (nm o) (g o))) 0) l → (b : Bool) → sum F (cond b (f (nm o) (g o) ++ gather p f (map (λ o. (nm o, g o)) l)) (gather p f (map (λ o. (nm o, g o)) l))) ≡ cond b (sum F (f (nm o) (g o))) 0 + sum (λ o. cond (p (nm o)) (sum F (f (nm o) (g o))) 0) l
      go ih true = sum_append F (f (nm o) (g o)) (gather p f (map (λ o. (nm o, g o)) l)) ∙ ap (λ (n : ℕ). sum F (f (nm o) (g o)) + n) ih
      go ih false = omega arith

pub sum_kept : {A B C : Type 0} (F : B → ℕ) (p : C → Bool) (h : C → List B) (g : A → C) (l : List A) → sum F (concat (map h (keep p (map g l)))) ≡ sum (λ o. cond (p (g o)) (sum F (h (g o))) 0) l
unfolding concat keep
sum_kept F p h g [] = refl
sum_kept {A} {B} {C} F p h g (o ∷ l) = go (sum_kept F p h g l) (p (g o))
  where
    rest : List C
    rest = keep p (map g l)

    go : sum F (concat (map h rest)) ≡ sum (λ o. cond (p (g o)) (sum F (h (g o))) 0) l → (b : Bool) → sum F (concat (map h (cond b (g o ∷ rest) rest))) ≡ cond b (sum F (h (g o))) 0 + sum (λ o. cond (p (g o)) (sum F (h (g o))) 0) l
    go ih true = sum_append F (h (g o)) (concat (map h rest)) ∙ ap (λ (n : ℕ). sum F (h (g o)) + n) ih
    go ih false = omega arith

pub bit_any : {A : Type 0} (p : A → Bool) (l : List A) → bit (any p l) ≡ sgn (sum (λ x. bit (p x)) l)
unfolding any pick
bit_any p [] = refl
bit_any p (x ∷ l) = or_sum (p x) (any p l) (bit (p x)) (sum (λ x. bit (p x)) l) (sym (sgn_bit (p x))) (bit_any p l)

pub sum_sift : (f p : ℕ → ℕ) (l : List ℕ) → sum f (sift p l) ≡ sum (λ x. pick (p x) (f x) 0) l
unfolding pick
sum_sift f p [] = refl
sum_sift f p (x ∷ l) = go (sum_sift f p l) (p x)
  where
    go : sum f (sift p l) ≡ sum (λ x. pick (p x) (f x) 0) l → (n : ℕ) → sum f (pick n (x ∷ sift p l) (sift p l)) ≡ pick n (f x) 0 + sum (λ x. pick (p x) (f x) 0) l
    go ih zero = omega arith
    go ih (suc n) = omega arith

-- a part that passes
pub cond_pos : (b : Bool) (n : ℕ) → 0 < cond b n 0 → (0 < bit b) × (0 < n)
cond_pos true n h = (omega arith, h)
cond_pos false n h = absurd (omega arith)

pub cond_true : (b : Bool) (n : ℕ) → 0 < bit b → cond b n 0 ≡ n
cond_true true n h = refl
cond_true false n h = absurd (omega arith)

sum_none_on : (f : ℕ → ℕ) (l : List ℕ) (p : ℕ) → count ℕ_discrete p l ≡ 0 → ((q : ℕ) → In ℕ_discrete q l → q ≢ p → f q ≡ 0) → sum f l ≡ 0
sum_none_on f [] p c h = refl
sum_none_on f (q ∷ l) p c h = omega (arith, h q (in_head ℕ_discrete q l) (λ e. absurd (omega (arith, tick_yes (ℕ_discrete p q) (sym e)))), sum_none_on f l p (omega arith) (λ r i. h r (in_tail ℕ_discrete r q l i)))

pub sum_single_on : (f : ℕ → ℕ) (l : List ℕ) (p : ℕ) → count ℕ_discrete p l ≡ 1 → ((q : ℕ) → In ℕ_discrete q l → q ≢ p → f q ≡ 0) → sum f l ≡ f p
sum_single_on f [] p c h = absurd (omega arith)
sum_single_on f (q ∷ l) p c h =
    by_cases (ℕ_discrete q p)
    (λ e. omega (arith, ap f e, sum_none_on f l p (omega (arith, tick_yes (ℕ_discrete p q) (sym e))) (λ r i. h r (in_tail ℕ_discrete r q l i))))
    (λ n. omega (arith, h q (in_head ℕ_discrete q l) n, sum_single_on f l p (omega (arith, tick_no (ℕ_discrete p q) (λ e. n (sym e)))) (λ r i. h r (in_tail ℕ_discrete r q l i))))

-- one entry changes
module _ {A : Type 0} (nm : ℕ → ℕ) (g h : ℕ → A) (f : A → A) (o : ℕ) where
  pub change_one : (l : List ℕ) → ((q : ℕ) → In ℕ_discrete q l → nm q ≡ nm o → q ≡ o) → h o ≡ f (g o) → ((q : ℕ) → In ℕ_discrete q l → q ≢ o → h q ≡ g q) → change (nm o) f (map (λ q. (nm q, g q)) l) ≡ map (λ q. (nm q, h q)) l
  unfolding change
  change_one [] inj at e = refl
  change_one (q ∷ l) inj at e = go (change_one l (λ r i. inj r (in_tail ℕ_discrete r q l i)) at (λ r i. e r (in_tail ℕ_discrete r q l i))) (eqb (nm q) (nm o)) (bit_eqb (nm q) (nm o))
    where
      go : change (nm o) f (map (λ q. (nm q, g q)) l) ≡ map (λ q. (nm q, h q)) l → (b : Bool) → bit b ≡ tick (ℕ_discrete (nm q) (nm o)) → cond b ((nm q, f (g q)) ∷ change (nm o) f (map (λ q. (nm q, g q)) l)) ((nm q, g q) ∷ change (nm o) f (map (λ q. (nm q, g q)) l)) ≡ (nm q, h q) ∷ map (λ q. (nm q, h q)) l
      go ih true b =
          let p : q ≡ o = inj q (in_head ℕ_discrete q l) (tick_pos (ℕ_discrete (nm q) (nm o)) (omega arith)) in
          ap₂ {C = List (ℕ × A)} (λ (a : A) (r : List (ℕ × A)). (nm q, a) ∷ r) (ap (λ (k : ℕ). f (g k)) p ∙ sym at ∙ ap h (sym p)) ih
      go ih false b = ap₂ {C = List (ℕ × A)} (λ (a : A) (r : List (ℕ × A)). (nm q, a) ∷ r) (sym (e q (in_head ℕ_discrete q l) (λ p. absurd (omega (arith, tick_yes (ℕ_discrete (nm q) (nm o)) (ap nm p)))))) ih

pub map_remove : {A B : Type 0} (f : A → B) (i : ℕ) (l : List A) → map f (seq_remove_at i l) ≡ remove_at i (map f l)
unfolding remove_at
map_remove f zero [] = refl
map_remove f (suc i) [] = refl
map_remove f zero (x ∷ l) = refl
map_remove {B} f (suc i) (x ∷ l) = ap {B = List B} (λ r. f x ∷ r) (map_remove f i l)

pub length_sift : (p : ℕ → ℕ) (l : List ℕ) → length (sift p l) + sum (λ q. sgn (p q)) l ≡ length l
unfolding pick
length_sift p [] = refl
length_sift p (x ∷ l) = go (length_sift p l) (p x)
  where
    go : length (sift p l) + sum (λ q. sgn (p q)) l ≡ length l → (n : ℕ) → length (pick n (x ∷ sift p l) (sift p l)) + (sgn n + sum (λ q. sgn (p q)) l) ≡ suc (length l)
    go ih zero = omega arith
    go ih (suc n) = omega arith
