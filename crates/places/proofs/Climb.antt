-- Climbing from a live thing meets each operation once: at most as many as live. Assumes nothing.
use mathlib.Core.Path.{◌≡◌, refl, sym, ap, ◌∙◌, subst}
use mathlib.Core.Logic.{ite, by_cases}
use mathlib.Core.HLevel.{Discrete}
use mathlib.Core.List.{List, [], ◌∷◌}
use mathlib.Core.Option.{Option}
use native.Mathlib.Decide.{ℕ_discrete}
use native.Mathlib.Omega.{arith}
use Prim.Native.Nat.{ℕ, suc, ◌+◌, ◌≤◌}
use lib.ListN.{length}
use Rattle.seqs.specs.Seqs.{tick, count, In, sum}
use Rattle.places.specs.Store.{Kind-dec, op, Thing, Thing-dec, State, alive, Live, Linked, up, Ends}
use Rattle.seqs.proofs.Base.{tick_yes, tick_no, tick_pos, rises_once}
use Rattle.places.proofs.Steps.{some_inj, some_none, up_live, thing_eq}
use Rattle.seqs.proofs.Sums.{length_count, sum_one}

pub sum_mono : {A : Type 0} (f g : A → ℕ) → ((x : A) → f x ≤ g x) → (l : List A) → sum f l ≤ sum g l
sum_mono f g h [] = omega arith
sum_mono f g h (x ∷ l) = omega (arith, h x, sum_mono f g h l)

-- what stands at most once in l, and once in m, makes l no longer than m
pub pigeon : {A : Type 0} (d : Discrete A) (l m : List A) → ((x : A) → count d x l ≤ 1) → ((x : A) → In d x l → count d x m ≡ 1) → length l ≤ length m
pigeon d l m once all = omega (arith, length_count d l m all, sum_mono (λ x. count d x l) (λ x. 1) once m, sum_one m)

module _ {u : Thing → Option Thing} where
  height : {x : Thing} → Ends u x → ℕ
  height (Ends.top e) = 0
  height (Ends.climb e c) = suc (height c)

  height_eq : {x y : Thing} → x ≡ y → (a : Ends u x) (b : Ends u y) → height a ≡ height b
  unfolding height
  height_eq p (Ends.top e) (Ends.top e') = refl
  height_eq p (Ends.top e) (Ends.climb e' c') = absurd (some_none e' (ap u (sym p) ∙ e))
  height_eq p (Ends.climb e c) (Ends.top e') = absurd (some_none e (ap u p ∙ e'))
  height_eq p (Ends.climb e c) (Ends.climb e' c') = ap suc (height_eq (some_inj (sym e ∙ ap u p ∙ e')) c c')

  -- x, what it lies in, and so on
  unfoldable pub path : {x : Thing} → Ends u x → List Thing
  path {x} (Ends.top e) = x ∷ []
  path {x} (Ends.climb e c) = x ∷ path c

  path_height : {x : Thing} (a : Ends u x) (y : Thing) → In Thing-dec y (path a) → (b : Ends u y) → height b ≤ height a
  unfolding height path
  path_height {x} (Ends.top e) y i b = omega (arith, height_eq (tick_pos (Thing-dec y x) (omega arith)) b (Ends.top e))
  path_height {x} (Ends.climb e c) y i b = go (λ j. path_height c y j b) (Thing-dec y x)
    where
      go : (In Thing-dec y (path c) → height b ≤ height c) → Dec (y ≡ x) → height b ≤ suc (height c)
      go ih (yes p) = omega (arith, height_eq p b (Ends.climb e c))
      go ih (no n) = omega (arith, ih (omega (arith, tick_no (Thing-dec y x) n)))

  pub path_once : {x : Thing} (a : Ends u x) (y : Thing) → count Thing-dec y (path a) ≤ 1
  unfolding height path
  path_once {x} (Ends.top e) y = by_cases (Thing-dec y x) (λ p. omega (arith, tick_yes (Thing-dec y x) p)) (λ n. omega (arith, tick_no (Thing-dec y x) n))
  path_once {x} (Ends.climb {y = z} e c) y = go (path_once c y) (Thing-dec y x) (ℕ_discrete (count Thing-dec y (path c)) 0)
    where
      go : count Thing-dec y (path c) ≤ 1 → Dec (y ≡ x) → Dec (count Thing-dec y (path c) ≡ 0) → tick (Thing-dec y x) + count Thing-dec y (path c) ≤ 1
      go ih (no n) w = omega (arith, tick_no (Thing-dec y x) n)
      go ih (yes p) (yes q) = omega (arith, tick_yes (Thing-dec y x) p)
      go ih (yes p) (no q) = absurd (omega (arith, path_height c y (omega arith) (subst (λ (t : Thing). Ends u t) (sym p) (Ends.climb e c)), height_eq p (subst (λ (t : Thing). Ends u t) (sym p) (Ends.climb e c)) (Ends.climb e c)))

pub path_live : {P : State} → Linked P → {x : Thing} (a : Ends (up P) x) → Live P x → (y : Thing) → In Thing-dec y (path a) → Live P y
unfolding path
path_live {P} S {x} (Ends.top e) h y i = rw (tick_pos (Thing-dec y x) (omega arith)) h
path_live {P} S {x} (Ends.climb {y = z} e c) h y i = go (path_live S c (up_live S x z e) y) (Thing-dec y x)
  where
    go : (In Thing-dec y (path c) → Live P y) → Dec (y ≡ x) → Live P y
    go ih (yes p) = rw p h
    go ih (no n) = ih (omega (arith, tick_no (Thing-dec y x) n))

-- the operations of a list
unfoldable pub ops_among : List Thing → List ℕ
ops_among [] = []
ops_among (x ∷ l) = ite (Kind-dec x.0 op) (x.1 ∷ ops_among l) (ops_among l)

pub count_ops : (p : ℕ) (l : List Thing) → count ℕ_discrete p (ops_among l) ≡ count Thing-dec (op, p) l
unfolding ops_among
count_ops p [] = refl
count_ops p (x ∷ l) = go (count_ops p l) (Kind-dec x.0 op)
  where
    go : count ℕ_discrete p (ops_among l) ≡ count Thing-dec (op, p) l → (w : Dec (x.0 ≡ op)) → count ℕ_discrete p (ite w (x.1 ∷ ops_among l) (ops_among l)) ≡ tick (Thing-dec (op, p) x) + count Thing-dec (op, p) l
    go ih (yes k) = by_cases (ℕ_discrete p x.1) (λ e. omega (arith, tick_yes (ℕ_discrete p x.1) e, tick_yes (Thing-dec (op, p) x) (thing_eq (op, p) x (sym k) e))) (λ n. omega (arith, tick_no (ℕ_discrete p x.1) n, tick_no (Thing-dec (op, p) x) (λ e. n (ap (λ (a : Thing). a.1) e))))
    go ih (no k) = omega (arith, tick_no (Thing-dec (op, p) x) (λ e. k (sym (ap (λ (a : Thing). a.0) e))))

pub climb_bound : {P : State} → Linked P → {x : Thing} (a : Ends (up P) x) → Live P x → length (ops_among (path a)) ≤ length (P.tab op).order
unfolding alive
climb_bound {P} S {x} a h =
    pigeon ℕ_discrete (ops_among (path a)) (P.tab op).order
    (λ p. omega (arith, count_ops p (path a), path_once a (op, p)))
    (λ p i. rises_once (P.tab op).num (P.tab op).order (S.tabs op).rises p (path_live S a h (op, p) (omega (arith, count_ops p (path a)))))
