-- Demand 3 of one view holds of every view that is alike to it. Assumes nothing.
use mathlib.Core.Path.{◌≡◌, refl, sym, ap, subst, ◌∙◌}
use mathlib.Core.Bool.{Bool, not}
use mathlib.Core.List.{List, [], ◌∷◌}
use Prim.Native.Nat.{ℕ, ◌+◌}
use native.Mathlib.Omega.{arith}
use lib.Dec.{T}
use lib.ListN.{length}
use Rattle.edit.specs.Record.{Edit, Thing}
use Rattle.rules.specs.Table.{nth, sum_over, one, count, next_of, previous_of}
use Rattle.rules.specs.Told.{ended, born}
use Rattle.rules.specs.Demand.{View, Place, stands_at, LiesIn, directly, further, container_thing, tally, HeldBy, StandsAt, Demand3}
use Rattle.rules.specs.Alike.{Alike}

-- sums of the same numbers
sum_same : {A : Type 0} (f g : A → ℕ) → ((a : A) → f a ≡ g a) → (l : List A) → sum_over f l ≡ sum_over g l
unfolding sum_over
sum_same f g e [] = refl
sum_same f g e (x ∷ l) = omega (arith, e x, sum_same f g e l)

-- every view is alike to itself
pub alike_same : (v : View) → Alike v v
alike_same v = record {
  holds_use = λ u. refl;
  holds = λ t. refl;
  holds_definition = λ d. refl;
  definitions = refl;
  use_set = λ d u. refl;
  use_sizes = λ d. refl;
  uses_at = λ sl o. refl;
  members = λ m c. refl;
  next = λ m x. refl;
  previous = λ m x. refl;
  up = λ t. refl;
}

module _ (v w : View) (A : Alike v w) where
  lies : {a b : Thing} → LiesIn v.up a b → LiesIn w.up a b
  lies (directly {a = a} e) = directly (sym (A.up a) ∙ e)
  lies (further {a = a} e r) = further (sym (A.up a) ∙ e) (lies r)

  same_place : (p : Place) → stands_at v p ≡ stands_at w p
  unfolding stands_at
  same_place p = ap (λ (l : List ℕ). nth l p.index) (A.uses_at p.slot p.operation)

  module _ (log : List Edit) (D : Demand3 w log) where
    held_by : (u : ℕ) → T (v.holds_use u) → HeldBy v log u
    held_by u k =
        let h = D.use_defined u (subst T (A.holds_use u) k) in
        record { definition = h.definition; named = h.named; live = subst T (sym (A.holds_definition h.definition)) h.live; only = λ d. A.use_set d u ∙ h.only d }

    stands : (u : ℕ) → T (v.holds_use u) → StandsAt v log u
    stands u k =
        let s = D.use_stands u (subst T (A.holds_use u) k) in
        record { place = s.place; told_here = s.told_here; here = same_place s.place ∙ s.here; only = λ p e. s.only p (sym (same_place p) ∙ e); sort = s.sort }

    all_uses : sum_over (λ d. length (v.use_set d)) v.definitions + ended log ≡ (born log).uses
    all_uses =
        ap (λ (n : ℕ). n + ended log) (ap (sum_over (λ d. length (v.use_set d))) A.definitions ∙ sum_same (λ d. length (v.use_set d)) (λ d. length (w.use_set d)) A.use_sizes w.definitions)
        ∙ D.sizes

    pub alike_demand : Demand3 v log
    alike_demand = record {
      use_held = λ u. A.holds_use u ∙ D.use_held u;
      operation_held = λ n. A.holds _ ∙ D.operation_held n;
      block_held = λ n. A.holds _ ∙ D.block_held n;
      use_defined = held_by;
      live_told = λ d. A.holds_definition d ∙ D.live_told d;
      use_stands = stands;
      no_other_held = λ u d k. A.use_set d u ∙ D.no_other_held u d (subst (λ (b : Bool). T (not b)) (A.holds_use u) k);
      no_other_stands = λ u p e. subst T (sym (A.holds_use u)) (D.no_other_stands u p (sym (same_place p) ∙ e));
      sizes = all_uses;
      all_sizes = λ d. ap (tally d) A.definitions ∙ D.all_sizes d ∙ ap one (sym (A.holds_definition d));
      listed = λ m x c. ap (count x) (A.members m c) ∙ D.listed m x c;
      list_held = λ m x c e. subst T (sym (A.holds (container_thing m c))) (D.list_held m x c e);
      neighbours = λ m x y e. A.previous m y ∙ D.neighbours m x y (sym (A.next m x) ∙ e);
      neighbours_back = λ m x y e. A.next m x ∙ D.neighbours_back m x y (sym (A.previous m y) ∙ e);
      next_follows = λ m x c e. A.next m x ∙ D.next_follows m x c e ∙ ap (next_of x) (sym (A.members m c));
      previous_precedes = λ m x c e. A.previous m x ∙ D.previous_precedes m x c e ∙ ap (previous_of x) (sym (A.members m c));
      up_told = λ t. A.up t ∙ D.up_told t;
      outside_itself = λ t z. D.outside_itself t (lies z);
    }
