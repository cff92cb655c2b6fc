-- The end of a thing that holds nothing, in primitives: it leaves its list, if it stands in one, and ends. Assumes nothing.
use mathlib.Core.Path.{◌≡◌, sym, ap, ap₂, ◌∙◌}
use mathlib.Core.Logic.{◌≢◌, ⊎_elim}
use mathlib.Core.List.{List, [], ◌∷◌}
use mathlib.Core.Option.{none, some}
use Rattle.seqs.specs.Seqs.{without}
use Rattle.places.specs.Store.{usg, Role, fam, node_of, Thing, Thing-dec, Con, State, Sound, end, leave, relink}
use Rattle.places.specs.Walk.{cut_all}
use Rattle.places.proofs.Steps.{lists, leave_ok, own_left}
use Rattle.places.proofs.Whole.{left_bare}
use Rattle.places.proofs.Cuts.{end_cut, finish_cut, cut_one_sound}

-- ---- a thing that stands in a list, and has none itself: value, region, linked operation or block

module _ {Z : State} (S : Sound Z) (x : Thing) (empty : (r : Role) → Z.list x r ≡ []) where
  pub end_in : (c : Con) → node_of c.0 ≢ usg → Z.own x (fam c.0) ≡ some c → end x (leave c x Z) ≡ cut_all (x ∷ []) Z
  unfolding leave relink
  end_in c n at = finish_cut S.linked c x at (left_bare (leave_ok S.linked c x at) c x (S.linked.link x (fam c.0) c at).node n (own_left Z c x) still).alone
    where
      still : (r : Role) → (leave c x Z).list x r ≡ []
      still r = ⊎_elim (λ h. h.2 ∙ ap (without Thing-dec x) (ap₂ {C = List Thing} (λ (b : Thing) (q : Role). Z.list b q) (sym h.0) (sym h.1) ∙ empty r)) (λ h. h.1 ∙ empty r) (lists Z c (without Thing-dec x (Z.list c.1 c.0)) x none x r)

  -- an operation in no block, a block in no region
  pub end_free : (c : Con) → node_of c.0 ≢ usg → x.0 ≡ node_of c.0 → Z.own x (fam c.0) ≡ none → end x Z ≡ cut_all (x ∷ []) Z
  end_free c n k free = end_cut S.linked x (left_bare S.linked c x k n free empty).alone

  pub end_sound : Sound (cut_all (x ∷ []) Z)
  end_sound = cut_one_sound S x empty
