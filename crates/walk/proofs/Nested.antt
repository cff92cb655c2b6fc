-- The operations inside a thing, counted; and what an option of a place holds. Assumes nothing.
use mathlib.Core.Path.{◌≡◌, refl, sym, ap, ap₂, ◌∙◌}
use Rattle.std.specs.Prelude.{Option, None, Some}
use mathlib.Core.Logic.{ite}
use mathlib.Core.List.{List, [], ◌∷◌}
use native.Mathlib.Omega.{arith}
use Prim.Native.Nat.{ℕ, ◌+◌}
use lib.ListN.{length}
use Rattle.seqs.specs.Seqs.{tick, sum}
use Rattle.places.specs.Store.{Kind-dec, op, Thing, State, Linked}
use Rattle.places.specs.Walk.{kids, walk}
use Rattle.places.proofs.Climb.{ops_among}
use Rattle.places.proofs.DropTurn.{ops_eq}
use Rattle.walk.specs.Drop.{operations}

-- ---- an option of a place

pub same_place : {p q : ℕ} → ◌≡◌ {A = Option ℕ} (Some p) (Some q) → p ≡ q
same_place e = cc

pub none_some : {p : ℕ} → ◌≡◌ {A = Option ℕ} None (Some p) → ⊥
none_some e = let z : ◌≡◌ {A = ℕ} 0 1 = cc in absurd (omega arith)

-- ---- the operations inside

ops_sum : (l : List Thing) → sum (λ y. tick (Kind-dec y.0 op)) l ≡ length (ops_among l)
unfolding ops_among tick
ops_sum [] = refl
ops_sum (y ∷ l) = go (ops_sum l) (Kind-dec y.0 op)
  where
    go : sum (λ y. tick (Kind-dec y.0 op)) l ≡ length (ops_among l) → (w : Dec (y.0 ≡ op)) → tick w + sum (λ y. tick (Kind-dec y.0 op)) l ≡ length (ite w (y.1 ∷ ops_among l) (ops_among l))
    go ih (yes e) = omega arith
    go ih (no e) = omega arith

pub operations_are : (P : State) (x : Thing) → operations P x ≡ length (ops_among (walk P x))
unfolding operations
operations_are P x = ops_sum (walk P x)

sum_same : {A : Type 0} (f g : A → ℕ) (l : List A) → ((x : A) → f x ≡ g x) → sum f l ≡ sum g l
sum_same f g [] h = refl
sum_same f g (x ∷ l) h = ap₂ ◌+◌ (h x) (sum_same f g l h)

pub operations_eq : {P : State} → Linked P → (x : Thing) → operations P x ≡ tick (Kind-dec x.0 op) + sum (operations P) (kids P x)
operations_eq {P} S x =
    operations_are P x ∙ ops_eq S x
    ∙ ap (λ (n : ℕ). tick (Kind-dec x.0 op) + n) (sum_same (λ k. length (ops_among (walk P k))) (operations P) (kids P x) (λ k. sym (operations_are P k)))
