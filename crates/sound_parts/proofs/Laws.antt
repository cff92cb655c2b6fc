-- What the loops have passed. Assumes nothing.
use mathlib.Core.Path.{◌≡◌, refl, sym, ap, ◌∙◌, subst}
use mathlib.Core.Logic.{by_cases}
use mathlib.Core.Bool.{Bool, true}
use mathlib.Core.List.{List, [], ◌∷◌}
use native.Mathlib.Decide.{ℕ_discrete}
use native.Mathlib.Nat.{suc_inj}
use native.Mathlib.Omega.{arith}
use Prim.Native.Nat.{ℕ, zero, suc, ◌+◌, ◌-◌, ◌*◌, ◌<◌, ◌≤◌}
use native.Mathlib.Numerals.{add-one}
use lib.ListN.{length, get_or, drop}
use Rattle.std.proofs.lemmas.List.{length-drop}
use Rattle.seqs.specs.Seqs.{Says}
use Rattle.linked_list.specs.Links.{home, at, row, Linked}
use Rattle.linked_list.specs.declared.Lists.{Lists}
use Rattle.linked_list.proofs.Laws.{at_lt}
use Rattle.linked_list.proofs.View.{seat}
use Rattle.linked_list.proofs.Truncated.{linked}
use Rattle.sound_parts.specs.Tests.{Sized, UseAt, SlotsAt, Around, climb}
use Rattle.sound_parts.specs.Cross.{step_up}

-- the container of a node is one of the containers
pub home_le : (nc nn : ℕ) (s : List ℕ) → Linked nc nn s → (q : ℕ) → q < nn → get_or s (home nc nn q) 0 ≤ nc
home_le nc nn s K q h = go (get_or s (home nc nn q) 0) refl
  where
    go : (x : ℕ) → get_or s (home nc nn q) 0 ≡ x → x ≤ nc
    go zero e = omega arith
    go (suc d) e = (seat K d q h e).c<

-- a family's links, by sizes that equal its own
pub linked_as : (f : Lists) (nc nn : ℕ) (s : List ℕ) → Sized f nc nn → ∥ Linked f.nc f.nn s ∥₁ → Linked nc nn s
linked_as f nc nn s S T = rw (S.lists, S.nodes) at (linked f.nc f.nn s T)

pub says_of : (b : Bool) (P : Type 0) → b ≡ true → P → Says b P
says_of b P e h = subst (λ (x : Bool). Says x P) (sym e) h

-- ---- the climb: one step of it, by the operation around

pub climb_from : (o b r : ℕ) (so sb sr : List ℕ) (p a n : ℕ) → (n ≡ 0 → ⊥) → Around o b r so sb sr p a → step_up a (climb o b r so sb sr (n - 1)) ≡ climb o b r so sb sr n p
climb_from o b r so sb sr p a zero h A = absurd (h refl)
climb_from o b r so sb sr p a (suc m) h A = let w : m ≡ suc m - 1 = omega arith in subst (λ k. step_up a (climb o b r so sb sr k) ≡ climb o b r so sb sr (suc m) p) w (A (climb o b r so sb sr m))

-- ---- the slots

-- the first that is left of l past its first j, and none
first_left : (l : List ℕ) (j x : ℕ) (r : List ℕ) → drop j l ≡ x ∷ r → (at l j ≡ suc x) × (drop (suc j) l ≡ r)
first_left [] zero x r e = absurd (omega (arith, ap length e))
first_left [] (suc j) x r e = absurd (omega (arith, ap length e))
first_left (y ∷ l) zero x r e = (ap (λ (t : List ℕ). at t 0) e, ap (drop 1) e)
first_left (y ∷ l) (suc j) x r e = first_left l j x r e

none_left : (l : List ℕ) (j : ℕ) → drop j l ≡ [] → length l ≤ j
none_left l j e = omega (arith, ap length e, length-drop j l)

module _ (o v d u : ℕ) (to tu ss su : List ℕ) (c : ℕ) where
  abbrev l : List ℕ
  l = row (2 * o) u ss c

  -- the first j uses of the list c are as they must be, and the others are left
  pub record UsesTo (left : List ℕ) (j : ℕ) : Type 0 where
    pub few : j ≤ 64
    pub rest : drop j l ≡ left
    pub uses : (i x : ℕ) → i < j → at l i ≡ suc x → UseAt o v d u to tu su c x

  pub uses_begun : {left : List ℕ} → left ≡ l → UsesTo left 0
  uses_begun e = record { few = omega arith; rest = sym e; uses = λ i x h. absurd (omega (arith, h)) }

  module _ {x j : ℕ} {left : List ℕ} (U : UsesTo (x ∷ left) j) where
    pub use_there : at l j ≡ suc x
    use_there = (first_left l j x left U.rest).0

    pub uses_more : j < 64 → UseAt o v d u to tu su c x → UsesTo left (j + 1)
    uses_more h g =
        record {
          few = omega arith;
          rest = rw (add-one j) (first_left l j x left U.rest).1;
          uses = λ i y m f. by_cases (ℕ_discrete i j) (λ q. subst (λ (z : ℕ). UseAt o v d u to tu su c z) (suc_inj (sym use_there ∙ ap (at l) (sym q) ∙ f)) g) (λ q. U.uses i y (omega arith) f);
        }

    pub too_long : 64 ≤ j → SlotsAt o v d u to tu ss su c → ⊥
    too_long h S = omega (arith, at_lt l j x use_there, S.short)

    pub unheld : (UseAt o v d u to tu su c x → ⊥) → SlotsAt o v d u to tu ss su c → ⊥
    unheld g S = g (S.uses j x use_there)

  pub uses_all : (j : ℕ) → UsesTo [] j → SlotsAt o v d u to tu ss su c
  uses_all j U =
      let short : length l ≤ j = none_left l j U.rest in
      record { short = omega (arith, U.few); uses = λ i x f. U.uses i x (omega (arith, at_lt l i x f)) f }
