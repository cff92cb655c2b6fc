-- Erasing a nest, once its uses have ended: what the three functions need. Assumes nothing.
use mathlib.Core.Path.{◌≡◌, refl, ap, ◌∙◌, subst}
use mathlib.Core.Logic.{by_cases, ⊎_elim}
use mathlib.Core.List.{List, [], ◌∷◌, ◌++◌, map}
use mathlib.Core.Option.{Option, none, some}
use native.Mathlib.Decide.{ℕ_discrete}
use native.Mathlib.Omega.{arith}
use Prim.Native.Nat.{◌<◌, ◌≤◌}
use lib.ListN.{length}
use Rattle.seqs.specs.Seqs.{count, In}
use Rattle.places.specs.Store.{op, blk, reg, val, usg, Role, operands, successors, value_uses, block_uses, results, arguments, regions, ops, blocks, vals, Thing, Thing-dec, Con, Con-dec, State, Linked, outer, up}
use Rattle.places.specs.Walk.{over, sift, gather, place_cut_by, among, cut_all, kids, walk, place_uses_at, place_values_at, def_sets, innards}
use Rattle.seqs.proofs.Base.{tick_pos, count_append}
use Rattle.places.proofs.Cut.{zero_or, sift_all, Closed}
use Rattle.places.proofs.Nest.{kind_code, up_to, count_gather, gather_on, walk_eq, walk_once, walk_same, walk_up, walk_self, kids_up}
use Rattle.places.proofs.DropAll.{values_at}
use Rattle.places.proofs.DropTurn.{gather_gather}
use Rattle.places.proofs.Outside.{innards_count, no_value, not_walked, closed_by, part_sum}

-- nothing inside has a use or is used
pub record Free (P : State) (x : Thing) : Type 0 where
  pub unusing : (z : Thing) → In Thing-dec z (walk P x) → place_uses_at P z ≡ []
  pub unused : (z : Thing) → In Thing-dec z (walk P x) → (c : Con) → In Con-dec c (def_sets P z) → P.list c.1 c.0 ≡ []

module _ {P : State} (S : Linked P) where
  pub innards_eq : (x : Thing) → innards P x ≡ (place_values_at P x ++ (x ∷ [])) ++ gather (innards P) (kids P x)
  unfolding innards
  innards_eq x = ap (gather (λ y. place_values_at P y ++ (y ∷ []))) (walk_eq S x) ∙ ap {B = List Thing} (λ r. (place_values_at P x ++ (x ∷ [])) ++ r) (gather_gather (λ y. place_values_at P y ++ (y ∷ [])) (walk P) (kids P x))

  -- each once
  over_once : (x : Thing) (o : Option Thing) → over o (λ z. count Thing-dec z (walk P x)) ≤ 1
  over_once x none = omega arith
  over_once x (some z) = walk_once S x z

  pub innards_once : (x y : Thing) → kind_code x.0 ≤ 2 → count Thing-dec y (innards P x) ≤ 1
  innards_once x y kx =
      by_cases (ℕ_discrete (kind_code y.0) 3)
      (λ k. omega (arith, innards_count S x y, not_walked S x y kx (omega arith), over_once x (outer (P.own y vals))))
      (λ n. omega (arith, innards_count S x y, no_value S x y n, walk_once S x y))

  in_kid : (x k y : Thing) → In Thing-dec k (kids P x) → In Thing-dec y (walk P k) → In Thing-dec y (walk P x)
  in_kid x k y i j = omega (arith, ap (count Thing-dec y) (walk_eq S x), count_gather Thing-dec y (walk P) (kids P x), part_sum Thing-dec (λ k. count Thing-dec y (walk P k)) (kids P x) k i)

  pub free_kid : (x k : Thing) → In Thing-dec k (kids P x) → Free P x → Free P k
  free_kid x k i F = record { unusing = λ z j. F.unusing z (in_kid x k z i j); unused = λ z j. F.unused z (in_kid x k z i j) }

  -- what lies in something inside, or is a value of it, is inside
  pub innards_closed : (x : Thing) → kind_code x.0 ≤ 2 → Free P x → Closed (among (innards P x)) P
  innards_closed x kx F =
      closed_by S x kx (among (innards P x))
      (λ y h. omega (arith, innards_count S x y))
      (λ y k h. omega (arith, innards_count S x y))
      (λ b y w i. absurd (omega (arith, i, ap (count Thing-dec y) (F.unusing b w))))
      (λ b y w c i j. absurd (omega (arith, j, ap (count Thing-dec y) (F.unused b w c i))))

  pub kid_kind : (x k : Thing) → In Thing-dec k (kids P x) → kind_code k.0 ≤ 2
  unfolding kind_code up
  kid_kind x (op, p) i = omega arith
  kid_kind x (blk, p) i = omega arith
  kid_kind x (reg, p) i = omega arith
  kid_kind x (val, p) i = absurd (omega (arith, i, kids_up S x (val, p)))
  kid_kind x (usg, p) i = absurd (omega (arith, i, kids_up S x (usg, p)))

  -- what stands among the children or values of something inside is inside
  pub child_in : (x z y : Thing) → In Thing-dec z (walk P x) → In Thing-dec y (kids P z) → In Thing-dec y (innards P x)
  child_in x z y w i = omega (arith, innards_count S x y, by_cases {C = 0 < count Thing-dec y (walk P x)} (Thing-dec y x) (λ p. omega (arith, walk_self S x, ap (λ (t : Thing). count Thing-dec t (walk P x)) p)) (λ n. omega (arith, w, walk_up S x y z (up_z (up P y) (omega (arith, kids_up S z y))) n)))
    where
      up_z : (o : Option Thing) → 0 < up_to o z → o ≡ some z
      up_z none h = absurd (omega arith)
      up_z (some t) h = ap some (tick_pos (Thing-dec t z) h)

  pub value_in : (x z y : Thing) → In Thing-dec z (walk P x) → In Thing-dec y (place_values_at P z) → In Thing-dec y (innards P x)
  value_in x z y w i = omega (arith, innards_count S x y, at (outer (P.own y vals)) (omega (arith, values_at S y z)))
    where
      at : (o : Option Thing) → 0 < up_to o z → 0 < over o (λ t. count Thing-dec t (walk P x))
      at none h = absurd (omega arith)
      at (some t) h = rw (tick_pos (Thing-dec t z) h) w

append_none : {A : Type 0} (a b : List A) → a ++ b ≡ [] → (a ≡ []) × (b ≡ [])
append_none [] b e = (refl, e)
append_none (x ∷ a) b e = absurd (omega (arith, ap length e))

-- ---- things elsewhere have ended: what is inside is the same

module _ {P : State} (S : Linked P) (l : List Thing) (T : Linked (cut_all l P)) (k : Thing) (apart : (y : Thing) → In Thing-dec y l → count Thing-dec y (innards P k) ≡ 0) where
  abbrev Q : State
  Q = cut_all l P

  stays : (y : Thing) → In Thing-dec y (innards P k) → among l y ≡ 0
  stays y i = ⊎_elim (λ z. z) (λ z. absurd (omega (arith, apart y z))) (zero_or (among l y))

  pub kids_stay : (z : Thing) → In Thing-dec z (walk P k) → kids Q z ≡ kids P z
  unfolding place_cut_by
  kids_stay z w = cc (
    list regions (λ y i. omega (arith, i, count_append Thing-dec y (P.list z regions) (P.list z blocks ++ P.list z ops))),
    list blocks (λ y i. omega (arith, i, count_append Thing-dec y (P.list z regions) (P.list z blocks ++ P.list z ops), count_append Thing-dec y (P.list z blocks) (P.list z ops))),
    list ops (λ y i. omega (arith, i, count_append Thing-dec y (P.list z regions) (P.list z blocks ++ P.list z ops), count_append Thing-dec y (P.list z blocks) (P.list z ops))),
  )
    where
      list : (r : Role) → ((y : Thing) → In Thing-dec y (P.list z r) → In Thing-dec y (kids P z)) → sift (among l) (P.list z r) ≡ P.list z r
      list r h = sift_all Thing-dec (among l) (P.list z r) (λ y i. stays y (child_in S k z y w (h y i)))

  pub walk_stays : walk Q k ≡ walk P k
  walk_stays = walk_same S T k kids_stay

  pub values_stay : (z : Thing) → In Thing-dec z (walk P k) → place_values_at Q z ≡ place_values_at P z
  unfolding place_cut_by
  values_stay z w = cc (list results (λ y i. omega (arith, i, count_append Thing-dec y (P.list z results) (P.list z arguments))), list arguments (λ y i. omega (arith, i, count_append Thing-dec y (P.list z results) (P.list z arguments))))
    where
      list : (r : Role) → ((y : Thing) → In Thing-dec y (P.list z r) → In Thing-dec y (place_values_at P z)) → sift (among l) (P.list z r) ≡ P.list z r
      list r h = sift_all Thing-dec (among l) (P.list z r) (λ y i. stays y (value_in S k z y w (h y i)))

  pub innards_stay : innards Q k ≡ innards P k
  unfolding innards
  innards_stay = ap (gather (λ y. place_values_at Q y ++ (y ∷ []))) walk_stays ∙ gather_on Thing-dec (λ y. place_values_at Q y ++ (y ∷ [])) (λ y. place_values_at P y ++ (y ∷ [])) (walk P k) (λ z w. ap {B = List Thing} (λ r. r ++ (z ∷ [])) (values_stay z w))

  pub free_stays : Free P k → Free Q k
  unfolding place_cut_by
  free_stays F =
      record {
        unusing = λ z w. let n : (P.list z operands ≡ []) × (P.list z successors ≡ []) = append_none (P.list z operands) (P.list z successors) (F.unusing z (back z w)) in rw (n.0, n.1);
        unused = λ z w c i. rw (F.unused z (back z w) c (subst (λ (m : List Thing). In Con-dec c ((block_uses, z) ∷ map (λ v. (value_uses, v)) m)) (values_stay z (back z w)) i));
      }
    where
      back : (z : Thing) → In Thing-dec z (walk Q k) → In Thing-dec z (walk P k)
      back z w = subst (λ (m : List Thing). In Thing-dec z m) walk_stays w
