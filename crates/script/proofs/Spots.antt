-- Look-ups by number in a store by places: the place that is found is the one live thing with the number, and where none is found no live thing has it.
-- Assumes nothing.
use mathlib.Core.Path.{◌≡◌, refl, sym, ap, ◌∙◌}
use mathlib.Core.Logic.{◌≢◌, by_cases}
use mathlib.Core.Bool.{Bool, true, false, cond}
use mathlib.Core.List.{List, [], ◌∷◌, map}
use mathlib.Core.Option.{Option, none, some}
use Prim.Native.Nat.{ℕ}
use native.Mathlib.Decide.{ℕ_discrete}
use native.Mathlib.Omega.{arith}
use lib.Dec.{eqb, eqb→eq}
use borrow.Author.Tests.{eqb-false}
use Rattle.seqs.specs.Seqs.{tick, count, In}
use Rattle.seqs.proofs.Base.{tick_yes, tick_no, in_head, in_tail}
use Rattle.rules.specs.Table.{find, keys, keys_where, one}
use Rattle.rules.specs.Table.{count as rcount}
use Rattle.rules.proofs.Laws.{none_some, is_true}
use Rattle.places.specs.Store.{Kind, State, alive, Live}
use Rattle.places.specs.View.{num}
use Rattle.places.specs.Roles.{Unnamed}
use Rattle.script.specs.See.{place_of}

-- two tests for the same number
one_tick : (m n : ℕ) → one (eqb m n) ≡ tick (ℕ_discrete n m)
one_tick m n = go (eqb m n) refl
  where
    go : (b : Bool) → eqb m n ≡ b → one b ≡ tick (ℕ_discrete n m)
    go true e = sym (tick_yes (ℕ_discrete n m) (sym (eqb→eq m n (is_true e))))
    go false e = sym (tick_no (ℕ_discrete n m) (λ q. eqb-false m n e (sym q)))

-- the two counts are one
pub count_is : (n : ℕ) (l : List ℕ) → rcount n l ≡ count ℕ_discrete n l
count_is n [] = refl
count_is n (x ∷ l) = omega (arith, one_tick x n, count_is n l)

module _ (nm : ℕ → ℕ) where
  found_in : (l : List ℕ) (n p : ℕ) → find (map (λ q. (nm q, q)) l) n ≡ some p → In ℕ_discrete p l × (nm p ≡ n)
  unfolding find
  found_in [] n p e = absurd (none_some e)
  found_in (q ∷ l) n p e = go (found_in l n p) (eqb (nm q) n) refl e
    where
      go : (find (map (λ q. (nm q, q)) l) n ≡ some p → In ℕ_discrete p l × (nm p ≡ n)) → (b : Bool) → eqb (nm q) n ≡ b → cond b (some q) (find (map (λ q. (nm q, q)) l) n) ≡ some p → In ℕ_discrete p (q ∷ l) × (nm p ≡ n)
      go ih true z w = let s : q ≡ p = cc in (rw s (in_head ℕ_discrete p l), rw s at (eqb→eq (nm q) n (is_true z)))
      go ih false z w = let r = ih w in (in_tail ℕ_discrete p q l r.0, r.1)

  none_in : (l : List ℕ) (n : ℕ) → find (map (λ q. (nm q, q)) l) n ≡ none → (q : ℕ) → In ℕ_discrete q l → nm q ≢ n
  unfolding find
  none_in [] n e q i = absurd (omega arith)
  none_in (r ∷ l) n e q i = go (none_in l n) (eqb (nm r) n) refl e
    where
      go : (find (map (λ q. (nm q, q)) l) n ≡ none → (q : ℕ) → In ℕ_discrete q l → nm q ≢ n) → (b : Bool) → eqb (nm r) n ≡ b → cond b (some r) (find (map (λ q. (nm q, q)) l) n) ≡ none → nm q ≢ n
      go ih true z w = absurd (none_some (sym w))
      go ih false z w = by_cases (ℕ_discrete q r) (λ s. rw s (eqb-false (nm r) n z)) (λ s. ih w q (omega (arith, i, tick_no (ℕ_discrete q r) s)))

-- where the live thing of a kind with a number is, if there is one
pub data Spot (P : State) (k : Kind) (n : ℕ) : Type 0 where
  here : (p : ℕ) → place_of P k n ≡ some p → Live P (k, p) → num P (k, p) ≡ n → Spot P k n
  nowhere : place_of P k n ≡ none → Unnamed P k n → Spot P k n

pub spot : (P : State) (k : Kind) (n : ℕ) → Spot P k n
unfolding place_of alive
spot P k n = go (place_of P k n) refl
  where
    go : (o : Option ℕ) → place_of P k n ≡ o → Spot P k n
    go (some p) e = let r = found_in (λ q. num P (k, q)) (P.tab k).order n p e in here p e r.0 r.1
    go none e = nowhere e (none_in (λ q. num P (k, q)) (P.tab k).order n e)

-- the keys of a table over places, and those of what passes a test that nothing passes
module _ {A : Type 0} (nm : ℕ → ℕ) (g : ℕ → A) where
  pub keys_tabled : (l : List ℕ) → keys (map (λ q. (nm q, g q)) l) ≡ map nm l
  unfolding keys
  keys_tabled [] = refl
  keys_tabled (q ∷ l) = ap (λ (r : List ℕ). nm q ∷ r) (keys_tabled l)

  pub where_none : (test : A → Bool) (l : List ℕ) → ((q : ℕ) → In ℕ_discrete q l → test (g q) ≡ false) → keys_where test (map (λ q. (nm q, g q)) l) ≡ []
  unfolding keys_where
  where_none test [] h = refl
  where_none test (q ∷ l) h = ap (λ (b : Bool). cond b (nm q ∷ keys_where test (map (λ q. (nm q, g q)) l)) (keys_where test (map (λ q. (nm q, g q)) l))) (h q (in_head ℕ_discrete q l)) ∙ where_none test l (λ r i. h r (in_tail ℕ_discrete r q l i))
