-- The link cells of a sound store name the neighbours of a node in its list, by number. Assumes nothing.
use mathlib.Core.Path.{◌≡◌, refl, sym, ap, ◌∙◌}
use mathlib.Core.Logic.{◌≢◌, ◌⊎◌, inl, inr}
use mathlib.Core.Bool.{Bool, cond}
use mathlib.Core.List.{List, [], ◌∷◌, map}
use mathlib.Core.Option.{Option, none, some}
use Prim.Native.Nat.{ℕ, zero, suc, ◌+◌, ◌*◌, ◌<◌}
use native.Mathlib.Omega.{arith}
use borrow.Author.Tests.{eq-eqb, ne_eqb}
use lib.ListN.{get_or}
use Rattle.linked_list.specs.Links.{at, place, home, Free, Held, Linked}
use Rattle.linked_list.specs.Links.{lists as rows}
use Rattle.linked_list.proofs.Laws.{at_inj, at_lt}
use Rattle.linked_list.proofs.View.{Seat, seat}
use Rattle.rules.specs.Table.{next_of, previous_of}
use Rattle.context.specs.Memory.{decode}

-- the number of the node that a cell stands for
abbrev pub named : (ℕ → ℕ) → Option ℕ → Option ℕ
named nm none = none
named nm (some q) = some (nm q)

module _ (nm : ℕ → ℕ) (p : ℕ) where
  -- p's number stands at index i and nowhere else
  abbrev Only : List ℕ → ℕ → Type 0
  Only l i = (j q : ℕ) → at l j ≡ suc q → nm q ≡ nm p → j ≡ i

  next_at : (l : List ℕ) (i : ℕ) → at l i ≡ suc p → Only l i → next_of (nm p) (map nm l) ≡ named nm (decode (at l (suc i)))
  unfolding next_of
  next_at [] i e o = absurd (omega arith)
  next_at (x ∷ []) zero e o = refl
  next_at (x ∷ []) (suc i) e o = absurd (omega arith)
  next_at (x ∷ y ∷ l) zero e o = let s : x ≡ p = omega (arith, e) in ap (λ (b : Bool). cond b (some (nm y)) (next_of (nm p) (nm y ∷ map nm l))) (eq-eqb (nm x) (nm p) (ap nm s))
  next_at (x ∷ y ∷ l) (suc i) e o =
      ap (λ (b : Bool). cond b (some (nm y)) (next_of (nm p) (nm y ∷ map nm l))) (ne_eqb (nm x) (nm p) (λ z. absurd (omega (arith, o 0 x refl z))))
      ∙ next_at (y ∷ l) i e (λ j q a z. omega (arith, o (suc j) q a z))

  gone : (l : List ℕ) → ((j q : ℕ) → at l (suc j) ≡ suc q → nm q ≢ nm p) → previous_of (nm p) (map nm l) ≡ none
  unfolding previous_of
  gone [] h = refl
  gone (x ∷ []) h = refl
  gone (x ∷ y ∷ l) h = ap (λ (b : Bool). cond b (some (nm x)) (previous_of (nm p) (nm y ∷ map nm l))) (ne_eqb (nm y) (nm p) (h 0 y refl)) ∙ gone (y ∷ l) (λ j q a. h (suc j) q a)

  previous_at : (l : List ℕ) (i : ℕ) → at l i ≡ suc p → Only l i → previous_of (nm p) (map nm l) ≡ named nm (decode (place l i))
  unfolding previous_of
  previous_at [] i e o = absurd (omega arith)
  previous_at (x ∷ []) zero e o = refl
  previous_at (x ∷ []) (suc i) e o = absurd (omega arith)
  previous_at (x ∷ y ∷ l) zero e o = gone (x ∷ y ∷ l) (λ j q a z. omega (arith, o (suc j) q a z))
  previous_at (x ∷ y ∷ l) (suc zero) e o = let s : y ≡ p = omega (arith, e) in ap (λ (b : Bool). cond b (some (nm x)) (previous_of (nm p) (nm y ∷ map nm l))) (eq-eqb (nm y) (nm p) (ap nm s))
  previous_at (x ∷ y ∷ l) (suc (suc i)) e o =
      ap (λ (b : Bool). cond b (some (nm x)) (previous_of (nm p) (nm y ∷ map nm l))) (ne_eqb (nm y) (nm p) (λ z. absurd (omega (arith, o 1 y refl z))))
      ∙ previous_at (y ∷ l) (suc i) e (λ j q a z. omega (arith, o (suc j) q a z))

-- what the cells of a node say: nothing where it is in no list, and else its neighbours in that list
pub record Beside (nm : ℕ → ℕ) (nc nn : ℕ) (s : List ℕ) (p : ℕ) (l : List ℕ) : Type 0 where
  pub next : named nm (decode (get_or s (2 * nc + p) 0)) ≡ next_of (nm p) (map nm l)
  pub previous : named nm (decode (get_or s (2 * nc + nn + p) 0)) ≡ previous_of (nm p) (map nm l)

module _ (nm : ℕ → ℕ) {nc nn : ℕ} {s : List ℕ} (L : Linked nc nn s) (p : ℕ) (p< : p < nn) where
  pub alone : get_or s (home nc nn p) 0 ≡ 0 → Beside nm nc nn s p []
  unfolding next_of previous_of
  alone h = go (L.node p p<)
    where
      go : Free nc nn s p ⊎ Held nc (rows nc nn s) p → Beside nm nc nn s p []
      go (inl F) = record { next = ap (λ (n : ℕ). named nm (decode n)) F.next0; previous = ap (λ (n : ℕ). named nm (decode n)) F.prev0 }
      go (inr H) = absurd (omega (arith, h, ((L.row H.cont H.cont<).own H.index p H.there).1))

  pub among : (c : ℕ) → get_or s (home nc nn p) 0 ≡ suc c → ((j q : ℕ) → at (get_or (rows nc nn s) c []) j ≡ suc q → nm q ≡ nm p → q ≡ p) → Beside nm nc nn s p (get_or (rows nc nn s) c [])
  among c h o =
      let S : Seat nc nn s (rows nc nn s) c p = seat L c p p< h in
      let l : List ℕ = get_or (rows nc nn s) c [] in
      let only : (j q : ℕ) → at l j ≡ suc q → nm q ≡ nm p → j ≡ S.index = λ j q a z. at_inj (L.row c S.c<) j S.index (omega (arith, at_lt l j q a)) (omega (arith, S.index<)) (a ∙ ap suc (o j q a z) ∙ sym S.there) in
      record {
        next = ap (λ (n : ℕ). named nm (decode n)) S.next_is ∙ sym (next_at nm p l S.index S.there only);
        previous = ap (λ (n : ℕ). named nm (decode n)) S.prev_is ∙ sym (previous_at nm p l S.index S.there only);
      }
