-- A cut by birth numbers. Assumes nothing.
use mathlib.Core.Path.{◌≡◌, refl, sym, ap, ◌∙◌}
use mathlib.Core.Logic.{⊎_elim}
use mathlib.Core.HLevel.{Discrete}
use mathlib.Core.List.{List, [], ◌∷◌, map}
use mathlib.Core.Option.{Option, none, some}
use native.Mathlib.Omega.{arith}
use Prim.Native.Nat.{ℕ, zero, suc}
use Rattle.seqs.specs.Seqs.{In}
use Rattle.places.specs.Store.{Kind, Role, operands, successors, value_uses, block_uses, results, arguments, regions, ops, blocks, Fam, fam, node_of, Thing, Thing-dec, Con, State, Live, Link, Linked}
use Rattle.places.specs.View.{shown, num, home_by, rec_of}
use Rattle.places.specs.Walk.{pick, sgn, sift, place_cut_by, trim}
use Rattle.seqs.proofs.Base.{in_head, in_tail, map_on}
use Rattle.places.proofs.Steps.{listed}
use Rattle.places.proofs.Cut.{pick_0, zero_or, sift_in, Closed, own_cut_0}

-- a map of what is kept is what is kept of a map
pub map_sift : {A : Type 0} {B : Type 0} (d : Discrete A) (f : A → B) (p : A → ℕ) (q : B → ℕ) (l : List A) → ((x : A) → In d x l → sgn (q (f x)) ≡ sgn (p x)) → map f (sift p l) ≡ sift q (map f l)
unfolding pick
map_sift d f p q [] h = refl
map_sift {B} d f p q (x ∷ l) h = go (map_sift d f p q l (λ y i. h y (in_tail d y x l i))) (p x) (q (f x)) (h x (in_head d x l))
  where
    go : map f (sift p l) ≡ sift q (map f l) → (m n : ℕ) → sgn n ≡ sgn m → map f (pick m (x ∷ sift p l) (sift p l)) ≡ pick n (f x ∷ sift q (map f l)) (sift q (map f l))
    go ih zero zero e = ap {B = List B} (λ r. f x ∷ r) ih
    go ih zero (suc n) e = absurd (omega arith)
    go ih (suc m) zero e = absurd (omega arith)
    go ih (suc m) (suc n) e = ih

shown_sift : (r : Role) (p : ℕ → ℕ) (l : List ℕ) → shown r (sift p l) ≡ sift p (shown r l)
shown_sift operands p l = refl
shown_sift successors p l = refl
shown_sift value_uses p l = refl
shown_sift block_uses p l = refl
shown_sift results p l = refl
shown_sift arguments p l = refl
shown_sift regions p l = refl
shown_sift ops p l = refl
shown_sift blocks p l = refl

-- p by places, n by numbers
module _ {P : State} (S : Linked P) (p : Thing → ℕ) (closed : Closed p P) (n : Kind → ℕ → ℕ) (same : (x : Thing) → Live P x → sgn (n x.0 (num P x)) ≡ sgn (p x)) where
  abbrev Q : State
  Q = place_cut_by p P

  pub num_cut : (x : Thing) → p x ≡ 0 → num Q x ≡ num P x
  unfolding place_cut_by
  num_cut x e = pick_0 (p x) (num P x) 0 e

  lists_cut : (x : Thing) (r : Role) → map (num Q) (sift p (P.list x r)) ≡ sift (n (node_of r)) (map (num P) (P.list x r))
  lists_cut x r =
      map_on Thing-dec (num Q) (num P) (sift p (P.list x r)) (λ y i. num_cut y (sift_in Thing-dec p y (P.list x r) i).0)
      ∙ map_sift Thing-dec (num P) p (n (node_of r)) (P.list x r) (λ y i. let L : Link P y (fam r) (r, x) = S.link y (fam r) (r, x) (listed S y x r i) in ap (λ (k : Kind). sgn (n k (num P y))) (sym L.node) ∙ same y L.live)

  homes_cut : (x : Thing) → p x ≡ 0 → (f : Fam) → home_by (num Q) (Q.own x f) ≡ home_by (num P) (P.own x f)
  homes_cut x e f = ap (λ (h : Fam → Option Con). home_by (num Q) (h f)) (own_cut_0 p P x e) ∙ go (P.own x f) refl
    where
      go : (o : Option Con) → P.own x f ≡ o → home_by (num Q) o ≡ home_by (num P) o
      go none q = refl
      go (some c) q = ⊎_elim (λ z. ap (λ (m : ℕ). some (c.0, m)) (num_cut c.1 z)) (λ z. absurd (omega (arith, closed x f c q z))) (zero_or (p c.1))

  pub rec_cut : (x : Thing) → p x ≡ 0 → rec_of Q x ≡ trim n (rec_of P x)
  unfolding rec_of place_cut_by
  rec_cut x e = λ i. record { num = num_cut x e i; tag = pick_0 (p x) (P.tag x) 0 e i; lists = λ r. (ap (shown r) (lists_cut x r) ∙ shown_sift r (n (node_of r)) (map (num P) (P.list x r))) i; homes = λ f. homes_cut x e f i }
