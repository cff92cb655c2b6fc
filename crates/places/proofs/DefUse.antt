-- In a sound store every test of uses and definitions passes: an operand is a use of its definition, and what a definition lists points back to it.
-- So the verdicts may leave these tests out. Assumes nothing.
use mathlib.Core.Path.{◌≡◌, refl, sym, ap, ◌∙◌, subst}
use mathlib.Core.Option.{some}
use Rattle.seqs.specs.Seqs.{In}
use Rattle.places.specs.Store.{Kind, usg, Role, slots, use_sets, fam, node_of, Fam, Thing, Thing-dec, Con, State, Link, Fit, UseHeld, Placed, Sound}
use Rattle.places.specs.DefUse.{IsUseOfItsDefinition, PointsBack}
use Rattle.places.proofs.Steps.{some_inj, once, listed}

-- the sort of a slot and that of its use set tell each other
record Sorts (r s : Role) : Type 0 where
  slot : fam r ≡ slots
  set : fam s ≡ use_sets
  slot_of_use : node_of r ≡ usg
  set_of_use : node_of s ≡ usg
  one_set : (t : Role) → Fit r t → t ≡ s
  one_slot : (q : Role) → Fit q s → q ≡ r

one_set_of : {r s t : Role} → Fit r s → Fit r t → t ≡ s
one_set_of Fit.operand Fit.operand = refl
one_set_of Fit.successor Fit.successor = refl

one_slot_of : {q r s : Role} → Fit r s → Fit q s → q ≡ r
one_slot_of Fit.operand Fit.operand = refl
one_slot_of Fit.successor Fit.successor = refl

sorts : {r s : Role} → Fit r s → Sorts r s
sorts Fit.operand = record { slot = refl; set = refl; slot_of_use = refl; set_of_use = refl; one_set = λ t. one_set_of Fit.operand; one_slot = λ q. one_slot_of Fit.operand }
sorts Fit.successor = record { slot = refl; set = refl; slot_of_use = refl; set_of_use = refl; one_set = λ t. one_set_of Fit.successor; one_slot = λ q. one_slot_of Fit.successor }

module _ {P : State} (S : Sound P) {r s : Role} (f : Fit r s) where
  N : Sorts r s
  N = sorts f

  -- a thing that stands in a list of uses is a live use, and is held
  held_use : (x : Thing) (g : Fam) (c : Con) → P.own x g ≡ some c → node_of c.0 ≡ usg → UseHeld (P.own x)
  held_use x g c e n =
      let L : Link P x g c = S.linked.link x g c e in
      subst (λ (k : Kind). Placed k (P.own x)) (L.node ∙ n) (S.placed x L.live)

  pub operand_is_use : (o u : Thing) → In Thing-dec u (P.list o r) → IsUseOfItsDefinition P s u
  operand_is_use o u i =
      let e : P.own u (fam r) ≡ some (r, o) = listed S.linked u o r i in
      let H : UseHeld (P.own u) = held_use u (fam r) (r, o) e N.slot_of_use in
      let k : H.slot ≡ (r, o) = some_inj (sym H.in_slot ∙ ap (P.own u) (sym N.slot) ∙ e) in
      let z : H.def.0 ≡ s = N.one_set H.def.0 (subst (λ (c : Con). Fit c.0 H.def.0) k H.fit) in
      let d : P.own u use_sets ≡ some (s, H.def.1) = H.in_def ∙ ap (λ (t : Role). some (t, H.def.1)) z in
      record { definition = H.def.1; live = (S.linked.link u use_sets (s, H.def.1) d).home; names = d; lists = once S.linked u use_sets (s, H.def.1) d }

  pub use_points_back : (d u : Thing) → In Thing-dec u (P.list d s) → PointsBack P r s d u
  use_points_back d u i =
      let e : P.own u (fam s) ≡ some (s, d) = listed S.linked u d s i in
      let n : P.own u use_sets ≡ some (s, d) = ap (P.own u) (sym N.set) ∙ e in
      let H : UseHeld (P.own u) = held_use u (fam s) (s, d) e N.set_of_use in
      let k : H.def ≡ (s, d) = some_inj (sym H.in_def ∙ n) in
      let z : H.slot.0 ≡ r = N.one_slot H.slot.0 (subst (λ (c : Con). Fit H.slot.0 c.0) k H.fit) in
      let q : P.own u slots ≡ some (r, H.slot.1) = H.in_slot ∙ ap (λ (t : Role). some (t, H.slot.1)) z in
      record { user = H.slot.1; live = (S.linked.link u slots (r, H.slot.1) q).home; found = once S.linked u slots (r, H.slot.1) q; names = n }
