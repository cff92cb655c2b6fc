-- The values of a list end one after another, the first one first; and the values of a thing. Assumes nothing.
use mathlib.Core.Path.{◌≡◌, refl, sym, ap, ap₂, ◌∙◌, subst}
use mathlib.Core.Logic.{⊎_elim}
use mathlib.Core.List.{List, [], ◌∷◌}
use mathlib.Core.Option.{some}
use native.Mathlib.Omega.{arith}
use Prim.Native.Nat.{ℕ, ◌<◌, ◌≤◌}
use lib.ListN.{length}
use Rattle.seqs.specs.Seqs.{count, In}
use Rattle.places.specs.Store.{op, blk, reg, val, Role, results, arguments, value_uses, Fam, vals, fam, node_of, Thing, Thing-dec, Con, State}
use Rattle.places.specs.Parts.{node_in}
use Rattle.places.specs.Walk.{sift, place_cut_by, cut_all, among, place_values_at}
use Rattle.seqs.proofs.Base.{tick_yes, tick_pos, in_head}
use Rattle.places.proofs.Nest.{kind_code}
use Rattle.places.proofs.Rows.{node_in_lem}
use Rattle.places.proofs.Cut.{pick_1, zero_or, sift_all, cut_append, cut_nothing}
use Rattle.places.proofs.DropTurn.{values_op, values_blk}
use Rattle.places.proofs.EraseTurn.{value_bare}
use Rattle.places.proofs.Prims.{end_in}
use Rattle.context.specs.declared.Layout.{Layout}
use Rattle.std.specs.Prelude.{Option, None, Some}
use Rattle.context.specs.Memory.{part, con, ListIs, state_of, SoundStore, FirstIs}
use Rattle.context.specs.Steps.{EndedValue, Unused}
use Rattle.context.proofs.Families.{con_back}
use Rattle.context.proofs.Numbers.{list_there}
use Rattle.walk.specs.Erase.{CanErase, CanEndValues, EndedValues, OwnEnded}
use Rattle.context.proofs.Cursor.{row, At, Here, first_at, here, at_end, single}
use Rattle.walk.proofs.EraseLaws.{to_free, region_none}

-- what is left to do is the whole
pub record Ending (l : Layout) (c : ℕ) (m₀ m : List ℕ) : Type 0 where
  pub can : CanEndValues l c m
  pub rest : part l m 14 ≡ part l m₀ 14
  pub state : cut_all (row l vals c m) (state_of l m) ≡ cut_all (row l vals c m₀) (state_of l m₀)

-- the first of a list is sifted out
sift_first : (v : Thing) (r : List Thing) → count Thing-dec v r ≡ 0 → sift (among (v ∷ [])) (v ∷ r) ≡ r
sift_first v r z =
    pick_1 (among (v ∷ []) v) (v ∷ sift (among (v ∷ [])) r) (sift (among (v ∷ [])) r) (omega (arith, tick_yes (Thing-dec v v) refl))
    ∙ sift_all Thing-dec (among (v ∷ [])) r (λ y i. ⊎_elim (λ q. q) (λ q. absurd (omega (arith, i, z, ap (λ (t : Thing). count Thing-dec t r) (tick_pos (Thing-dec y v) (omega (arith, q)))))) (zero_or (among (v ∷ []) y)))

pub ending : {l : Layout} {c : ℕ} {m : List ℕ} → CanEndValues l c m → Ending l c m m
ending C = record { can = C; rest = refl; state = refl }

module _ {l : Layout} {c : ℕ} {m₀ m : List ℕ} {k : Option ℕ} (E : Ending l c m₀ m) (F : FirstIs l vals c m k) where
  abbrev P : State
  P = state_of l m

  abbrev d : Con
  d = con l vals c

  abbrev S : SoundStore l m
  S = E.can.store

  A : At l vals c m k
  unfolding first_at
  A = first_at F

  todo : A.todo ≡ row l vals c m
  unfolding A first_at
  todo = refl

  family : fam d.0 ≡ vals
  family = (con_back l.values l.ops vals c).family

  node : node_of d.0 ≡ val
  node = sym (node_in_lem d.0) ∙ ap node_in family

  -- all have ended
  pub values_ended : k ≡ None → EndedValues l c m₀ m
  values_ended z = record { store = S; rest = E.rest; state = sym (ap (λ (r : List Thing). cut_all r P) (sym todo ∙ at_end S A z) ∙ cut_nothing P) ∙ E.state }

  module _ {p : ℕ} (h : k ≡ Some p) where
    abbrev v : Thing
    v = (val, p)

    H : Here l vals c m p A.todo
    H = here S A h

    is_row : row l vals c m ≡ v ∷ H.later
    is_row = sym todo ∙ H.is

    inside : In Thing-dec v (row l vals c m)
    inside = omega (arith, ap (count Thing-dec v) is_row, in_head Thing-dec v H.later)

    pub value_unused : Unused P p
    value_unused = record { live = H.live; none = E.can.bare v inside value_uses }

    fresh : count Thing-dec v H.later ≡ 0
    fresh = omega (arith, ap (count Thing-dec v) is_row, tick_yes (Thing-dec v v) refl, (single S.sound.linked d.1 d.0).once v)

    module _ {m' : List ℕ} (G : EndedValue l p m m') where
      at : P.own v (fam d.0) ≡ some d
      at = subst (λ (f : Fam). P.own v f ≡ some d) (sym family) H.own

      gone : state_of l m' ≡ cut_all (v ∷ []) P
      unfolding kind_code
      gone = G.state d H.own ∙ end_in S.sound v (λ q. E.can.bare v inside q) d (λ e. absurd (omega (arith, ap kind_code (sym node ∙ e)))) at

      left : row l vals c m' ≡ H.later
      unfolding place_cut_by
      left = ap (λ (Q : State). Q.list d.1 d.0) gone ∙ ap (sift (among (v ∷ []))) is_row ∙ sift_first v H.later fresh

      bare' : (y : Thing) → In Thing-dec y (row l vals c m') → (r : Role) → (state_of l m').list y r ≡ []
      unfolding place_cut_by
      bare' y i r = ap (λ (Q : State). Q.list y r) gone ∙ ap (sift (among (v ∷ []))) (E.can.bare y (omega (arith, i, ap (count Thing-dec y) left, ap (count Thing-dec y) is_row)) r)

      pub value_turn : Ending l c m₀ m'
      value_turn =
          record {
            can = record { store = G.sound; row = E.can.row; bare = bare' };
            rest = G.rest ∙ E.rest;
            state = ap₂ {C = State} (λ (r : List Thing) (Q : State). cut_all r Q) left gone ∙ cut_append (v ∷ []) H.later P ∙ ap (λ (r : List Thing). cut_all r P) (sym is_row) ∙ E.state;
          }

      pub values_less : length (row l vals c m') < length (row l vals c m)
      values_less = omega (arith, ap length left, ap length is_row)

-- ---- the values of a thing

module _ {l : Layout} {m : List ℕ} where
  module _ (x : Thing) {c : ℕ} {r : Role} (K : ListIs l vals (r, x) c) (q : place_values_at (state_of l m) x ≡ (state_of l m).list x r) where
    by_row : kind_code x.0 ≤ 2 → CanErase l x m → CanEndValues l c m
    by_row kx C =
        record {
          store = C.store;
          row = K.inside;
          bare = λ v i q'. value_bare C.store.sound x kx (to_free C.unused) v (omega (arith, i, ap (count Thing-dec v) q, ap (count Thing-dec v) (list_there K m))) q';
        }

    own_row : {m' : List ℕ} → EndedValues l c m m' → OwnEnded l x m m'
    own_row E = record { store = E.store; rest = E.rest; state = E.state ∙ ap (λ (t : List Thing). cut_all t (state_of l m)) (list_there K m ∙ sym q) }

  module _ (p : ℕ) (C : CanErase l (op, p) m) {c : ℕ} (K : ListIs l vals (results, (op, p)) c) where
    pub can_results : CanEndValues l c m
    unfolding kind_code
    can_results = by_row (op, p) K (values_op C.store.sound.linked p) (omega arith) C

    pub own_results : {m' : List ℕ} → EndedValues l c m m' → OwnEnded l (op, p) m m'
    own_results E = own_row (op, p) K (values_op C.store.sound.linked p) E

  module _ (p : ℕ) (C : CanErase l (blk, p) m) {c : ℕ} (K : ListIs l vals (arguments, (blk, p)) c) where
    pub can_arguments : CanEndValues l c m
    unfolding kind_code
    can_arguments = by_row (blk, p) K (values_blk C.store.sound.linked p) (omega arith) C

    pub own_arguments : {m' : List ℕ} → EndedValues l c m m' → OwnEnded l (blk, p) m m'
    own_arguments E = own_row (blk, p) K (values_blk C.store.sound.linked p) E

  pub own_nothing : (p : ℕ) → CanErase l (reg, p) m → OwnEnded l (reg, p) m m
  own_nothing p C = record { store = C.store; rest = refl; state = sym (ap (λ (t : List Thing). cut_all t (state_of l m)) (region_none C.store.sound p) ∙ cut_nothing (state_of l m)) }
