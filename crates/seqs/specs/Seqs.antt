-- The functions on lists that several crates share: insertion, removal, index, count, sum; updates of functions; rising orders.
-- Assumes nothing: these are definitions.
use Rattle.std.proofs.Math.Logic.{ite}
use Rattle.std.specs.Prelude.{Bool, true, false, List, [], ◌∷◌, map, ℕ, zero, suc, ◌+◌, ◌<◌}
use mathlib.Core.HLevel.{Discrete}
use Rattle.std.proofs.Math.Decide.{ℕ_discrete}

-- a test's answer: the fact holds where it is true, and does not where it is false
abbrev pub Says : Bool → Type 0 → Type 0
Says true P = P
Says false P = P → ⊥

-- the function f, but v at k
unfoldable pub upd {ℓ κ} : {A : Type ℓ} {B : Type κ} → Discrete A → (A → B) → A → B → A → B
upd d f k v x = ite (d x k) v (f x)

-- 1 where it holds, 0 where it does not
unfoldable pub tick {ℓ} : {A : Type ℓ} → Dec A → ℕ
tick (yes e) = 1
tick (no n) = 0

module _ {A : Type 0} where
  -- x at index i, or last where the list is shorter
  abbrev pub seq_insert_at : ℕ → A → List A → List A
  seq_insert_at zero x l = x ∷ l
  seq_insert_at (suc i) x [] = x ∷ []
  seq_insert_at (suc i) x (y ∷ l) = y ∷ seq_insert_at i x l

  -- the list without what stands at index i
  abbrev pub seq_remove_at : ℕ → List A → List A
  seq_remove_at i [] = []
  seq_remove_at zero (y ∷ l) = l
  seq_remove_at (suc i) (y ∷ l) = y ∷ seq_remove_at i l

  -- the index of the first x; the length where there is none
  abbrev pub index_of : Discrete A → A → List A → ℕ
  index_of d x [] = zero
  index_of d x (y ∷ l) = ite (d y x) zero (suc (index_of d x l))

  -- how often x stands in l
  abbrev pub count : Discrete A → A → List A → ℕ
  count d x [] = zero
  count d x (y ∷ l) = tick (d x y) + count d x l

  -- x stands in l
  abbrev pub In : Discrete A → A → List A → Type 0
  In d x l = 0 < count d x l

-- the list without the elements whose key is k
abbrev pub without_by {ℓ} : {A : Type 0} {B : Type ℓ} → Discrete B → (A → B) → B → List A → List A
without_by d key k [] = []
without_by d key k (y ∷ l) = ite (d (key y) k) (without_by d key k l) (y ∷ without_by d key k l)

-- the list without x
abbrev pub without : {A : Type 0} → Discrete A → A → List A → List A
without d x l = without_by d (λ y. y) x l

-- the numbers of the places of a list rise
abbrev pub Rises : (ℕ → ℕ) → List ℕ → Type 0
Rises num [] = Unit {0}
Rises num (p ∷ l) = ((q : ℕ) → In ℕ_discrete q l → num p < num q) × Rises num l

-- f of each element, together
abbrev pub sum : {A : Type 0} → (A → ℕ) → List A → ℕ
sum f [] = 0
sum f (x ∷ l) = f x + sum f l

-- the numbers below n
abbrev pub upto : ℕ → List ℕ
upto zero = []
upto (suc n) = n ∷ upto n

module _ {A : Type 0} where
  -- of the list x ∷ l: its last element, and all the others
  abbrev pub seq_last_of : A → List A → A
  seq_last_of x [] = x
  seq_last_of x (y ∷ l) = seq_last_of y l

  abbrev pub seq_front_of : A → List A → List A
  seq_front_of x [] = []
  seq_front_of x (y ∷ l) = x ∷ seq_front_of y l

  -- x taken out, and the last element put into the gap
  abbrev pub seq_swap_out : Discrete A → A → List A → List A
  seq_swap_out d x [] = []
  seq_swap_out d x (y ∷ l) = map (λ a. ite (d a x) (seq_last_of y l) a) (seq_front_of y l)
