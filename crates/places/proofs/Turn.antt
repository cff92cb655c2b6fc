-- A loop of primitives: all operands of an operation end, one after the other. Assumes nothing.
use mathlib.Core.Path.{◌≡◌, refl, sym, ap, ◌∙◌}
use mathlib.Core.List.{List, ◌∷◌, map}
use mathlib.Core.Option.{some}
use native.Mathlib.Omega.{arith}
use Rattle.places.specs.Store.{usg, slots, fam, Thing, Thing-dec, Con, State, Live, Link, UseHeld, Sound}
use Rattle.places.specs.View.{num, named, named_c, view}
use Rattle.places.specs.Edits.{n_drop, end_use, n_end_use}
use Rattle.places.proofs.Steps.{listed}
use Rattle.places.proofs.Placing.{use_holds_nothing}
use Rattle.places.specs.Parts.{node_in}
use Rattle.places.proofs.Rows.{node_in_lem}
use Rattle.seqs.specs.Seqs.{without, count}
use Rattle.places.proofs.Steps.{once, thing_eq, some_inj}
use Rattle.seqs.proofs.Base.{in_head, map_on, tick_yes, count_gone}
use Rattle.places.proofs.Extra.{without_head}
use Rattle.places.proofs.EndUse.{end_use_view, end_use_num, end_use_list}

-- one turn: the first operand ends
module _ {P : State} (S : Sound P) (c : Con) (F : fam c.0 ≡ slots) (x : Thing) (l : List Thing) (at : P.list c.1 c.0 ≡ x ∷ l) where
  owned : P.own x slots ≡ some c
  owned = rw F at (listed S.linked x c.1 c.0 (rw at (in_head Thing-dec x l)))

  L : Link P x slots c
  L = S.linked.link x slots c owned

  abbrev pub u : Thing
  u = (usg, x.1)

  pub x_is : x ≡ u
  x_is = thing_eq x u (L.node ∙ sym (node_in_lem c.0) ∙ ap node_in F) refl

  pub live : Live P u
  live = rw x_is at L.live

  pub held : UseHeld (P.own u)
  held = S.placed u live

  slot_is : held.slot ≡ c
  slot_is = some_inj (sym held.in_slot ∙ ap (λ (y : Thing). P.own y slots) (sym x_is) ∙ owned)

  abbrev pub P₁ : State
  P₁ = end_use held.slot held.def u P

  rest : without Thing-dec u (x ∷ l) ≡ l
  rest = without_head Thing-dec u x l x_is (omega (arith, ap (count Thing-dec u) at, once S.linked x slots c owned, ap (λ (y : Thing). count Thing-dec y (P.list c.1 c.0)) x_is, tick_yes (Thing-dec u x) (sym x_is)))

  pub list₁ : P₁.list c.1 c.0 ≡ l
  list₁ = ap (λ (d : Con). P₁.list d.1 d.0) (sym slot_is) ∙ end_use_list S x.1 live held ∙ ap (λ (d : Con). without Thing-dec u (P.list d.1 d.0)) slot_is ∙ ap (without Thing-dec u) at ∙ rest

  seen₁ : view P₁ ≡ n_end_use (named_c P c) (usg, num P x) (view P)
  seen₁ = end_use_view S x.1 live held ∙ ap (λ (d : Con). n_end_use (named_c P d) (named P u) (view P)) slot_is ∙ ap (λ (y : Thing). n_end_use (named_c P c) (usg, num P y) (view P)) (sym x_is)

  nums : map (num P₁) l ≡ map (num P) l
  nums = map_on Thing-dec (num P₁) (num P) l (λ y i. end_use_num S x.1 live held y (λ e. absurd (omega (arith, i, ap (λ (z : Thing). count Thing-dec z l) e, ap (count Thing-dec u) rest, count_gone Thing-dec u (x ∷ l)))))

  num_o : num P₁ c.1 ≡ num P c.1
  num_o = end_use_num S x.1 live held c.1 (λ e. use_holds_nothing c.0 (sym (ap (λ (a : Thing). a.0) e) ∙ L.holder))

  pub left : n_drop (named_c P₁ c) (map (num P₁) (P₁.list c.1 c.0)) (view P₁) ≡ n_drop (named_c P c) (map (num P) (P.list c.1 c.0)) (view P)
  unfolding n_drop
  left = rw (list₁, nums, num_o, seen₁, at)
