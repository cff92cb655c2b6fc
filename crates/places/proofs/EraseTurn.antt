-- One turn of the loop over the children that are erased, and the end of the thing itself. Assumes nothing.
use mathlib.Core.Path.{◌≡◌, refl, sym, ap, ap₂, ◌∙◌, subst}
use mathlib.Core.Logic.{◌≢◌, by_cases, ⊎_elim}
use mathlib.Core.List.{List, [], ◌∷◌, ◌++◌, map}
use mathlib.Core.Option.{Option, some}
use native.Mathlib.Decide.{ℕ_discrete}
use native.Mathlib.Omega.{arith}
use Prim.Native.Nat.{ℕ, zero, suc, ◌+◌, ◌<◌, ◌≤◌}
use lib.ListN.{length}
use Rattle.seqs.specs.Seqs.{tick, count, In, sum}
use Rattle.places.specs.Store.{val, usg, Role, operands, successors, value_uses, block_uses, results, arguments, regions, ops, blocks, slots, fam, node_of, holder_of, Thing, Thing-dec, Con, Con-dec, State, Link, Sound, outer}
use Rattle.places.specs.Walk.{over, pick, sift, gather, place_cut_by, among, cut_all, kids, walk, place_values_at, drop_list, dropped, strays_in, innards}
use Rattle.seqs.proofs.Base.{tick_yes, tick_no, in_tail, count_append}
use Rattle.places.proofs.Steps.{listed, once}
use Rattle.places.proofs.Placing.{is_use}
use Rattle.places.proofs.Climb.{ops_among}
use Rattle.places.proofs.Cut.{zero_or, sift_all, sift_none, cut_append, Closed, cut_sound}
use Rattle.places.proofs.Nest.{kind_code, count_gather, walk_self}
use Rattle.places.proofs.DropAll.{drop_count, drop_uses}
use Rattle.places.proofs.DropTurn.{append_assoc, append_nil, gather_append, list_none, list_kept, walk_kept}
use Rattle.places.proofs.Tables.{sum_some}
use Rattle.seqs.proofs.Sums.{sum_append, count_map}
use Rattle.places.proofs.Outside.{innards_count, Marks, held_inside, part_sum}
use Rattle.places.proofs.Erase.{Free, innards_eq, innards_once, free_kid, innards_closed, kid_kind, walk_stays, innards_stay, free_stays}

-- ---- after the drop nothing inside is used, if nothing was used from outside

pub drop_free : {P : State} → Sound P → (x : Thing) (mk : ℕ → ℕ) → Marks P mk x → strays_in P mk x ≡ 0 → Free (dropped P x) x
unfolding dropped place_cut_by is_use
drop_free {P} S x mk right none_out =
    record {
      unusing = λ z w. cc (all_in z (back z w) operands refl, all_in z (back z w) successors refl);
      unused = λ z w c i. sift_none Thing-dec (among (drop_list P x)) (P.list c.1 c.0) (λ u j. held_inside S.linked x mk right none_out z (back z w) c (subst (λ (m : List Thing). In Con-dec c ((block_uses, z) ∷ map (λ v. (value_uses, v)) m)) (values z) i) u j);
    }
  where
    is : (u : Thing) → In Thing-dec u (drop_list P x) → u.0 ≡ usg
    is = (drop_uses S.linked x).kind

    back : (z : Thing) → In Thing-dec z (walk (cut_all (drop_list P x) P) x) → In Thing-dec z (walk P x)
    back z w = subst (λ (m : List Thing). In Thing-dec z m) (walk_kept S (drop_list P x) is x) w

    values : (z : Thing) → place_values_at (cut_all (drop_list P x) P) z ≡ place_values_at P z
    values z = cc (list_kept S (drop_list P x) is z results refl, list_kept S (drop_list P x) is z arguments refl)

    all_in : (z : Thing) → In Thing-dec z (walk P x) → (r : Role) → fam r ≡ slots → sift (among (drop_list P x)) (P.list z r) ≡ []
    all_in z w r f = sift_none Thing-dec (among (drop_list P x)) (P.list z r) (λ u j. omega (arith, w, drop_count S.linked x u, ap (λ (o : Option Con). over (outer o) (λ t. count Thing-dec t (walk P x))) (ap (P.own u) (sym f) ∙ listed S.linked u z r j)))

-- ---- the loop over the children

sift_append : {A : Type 0} (p : A → ℕ) (a b : List A) → sift p (a ++ b) ≡ sift p a ++ sift p b
unfolding pick
sift_append p [] b = refl
sift_append {A} p (x ∷ a) b = go (sift_append p a b) (p x)
  where
    go : sift p (a ++ b) ≡ sift p a ++ sift p b → (n : ℕ) → pick n (x ∷ sift p (a ++ b)) (sift p (a ++ b)) ≡ pick n (x ∷ sift p a) (sift p a) ++ sift p b
    go ih zero = ap {B = List A} (λ r. x ∷ r) ih
    go ih (suc n) = ih

node≢holder : (r : Role) → kind_code (node_of r) ≢ kind_code (holder_of r)
unfolding kind_code
node≢holder operands h = absurd (omega arith)
node≢holder successors h = absurd (omega arith)
node≢holder value_uses h = absurd (omega arith)
node≢holder block_uses h = absurd (omega arith)
node≢holder results h = absurd (omega arith)
node≢holder arguments h = absurd (omega arith)
node≢holder regions h = absurd (omega arith)
node≢holder ops h = absurd (omega arith)
node≢holder blocks h = absurd (omega arith)

module _ {P : State} (S : Sound P) (x : Thing) (kx : kind_code x.0 ≤ 2) (F : Free P x) where
  -- the values, and the children so far, have ended
  abbrev pub ended_so_far : List Thing → List Thing
  ended_so_far d = place_values_at P x ++ gather (innards P) d

  total : (y : Thing) → count Thing-dec y (innards P x) ≡ count Thing-dec y (place_values_at P x) + tick (Thing-dec y x) + sum (λ k. count Thing-dec y (innards P k)) (kids P x)
  total y = ap (count Thing-dec y) (innards_eq S.linked x) ∙ omega (arith, count_append Thing-dec y (place_values_at P x ++ (x ∷ [])) (gather (innards P) (kids P x)), count_append Thing-dec y (place_values_at P x) (x ∷ []), count_gather Thing-dec y (innards P) (kids P x))

  so_far : (d : List Thing) (y : Thing) → count Thing-dec y (ended_so_far d) ≡ count Thing-dec y (place_values_at P x) + sum (λ k. count Thing-dec y (innards P k)) d
  so_far d y = count_append Thing-dec y (place_values_at P x) (gather (innards P) d) ∙ ap (λ (n : ℕ). count Thing-dec y (place_values_at P x) + n) (count_gather Thing-dec y (innards P) d)

  walk_x : In Thing-dec x (walk P x)
  walk_x = omega (arith, walk_self S.linked x)

  self : (y : Thing) → 0 < count Thing-dec y (innards P y)
  self y = omega (arith, innards_count S.linked y y, walk_self S.linked y)

  value_empty : (v : Thing) → In Thing-dec v (place_values_at P x) → P.list v value_uses ≡ []
  value_empty v i = F.unused x walk_x (value_uses, v) (in_tail Con-dec (value_uses, v) (block_uses, x) (map (λ w. (value_uses, w)) (place_values_at P x)) (omega (arith, i, count_map Thing-dec Con-dec (λ w. (value_uses, w)) (λ p q m. ap (λ (c : Con). c.1) m) v (place_values_at P x))))

  val_holder : (r : Role) → kind_code (holder_of r) ≡ 3 → r ≡ value_uses
  unfolding kind_code
  val_holder operands h = absurd (omega arith)
  val_holder successors h = absurd (omega arith)
  val_holder value_uses h = refl
  val_holder block_uses h = absurd (omega arith)
  val_holder results h = absurd (omega arith)
  val_holder arguments h = absurd (omega arith)
  val_holder regions h = absurd (omega arith)
  val_holder ops h = absurd (omega arith)
  val_holder blocks h = absurd (omega arith)

  pub value_kind : (v : Thing) → In Thing-dec v (place_values_at P x) → v.0 ≡ val
  value_kind v i = ⊎_elim (λ z. node arguments (omega (arith, i, count_append Thing-dec v (P.list x results) (P.list x arguments)))) (λ z. node results z) (zero_or (count Thing-dec v (P.list x results)))
    where
      node : (r : Role) → In Thing-dec v (P.list x r) → v.0 ≡ node_of r
      node r j = (S.linked.link v (fam r) (r, x) (listed S.linked v x r j)).node

  -- a value that is not used may end
  pub value_bare : (v : Thing) → In Thing-dec v (place_values_at P x) → (r : Role) → P.list v r ≡ []
  unfolding kind_code
  value_bare v i r = by_cases (ℕ_discrete (kind_code v.0) (kind_code (holder_of r))) (λ e. subst (λ (q : Role). P.list v q ≡ []) (sym (val_holder r (sym e ∙ ap kind_code (value_kind v i)))) (value_empty v i)) (λ n. list_none S.linked v r n)

  closed_so_far : (d : List Thing) → ((k : Thing) → In Thing-dec k d → In Thing-dec k (kids P x)) → Closed (among (ended_so_far d)) P
  closed_so_far d sub y f c e h =
      ⊎_elim
      (λ z. let s : (k : Thing) × In Thing-dec k d × (0 < count Thing-dec c.1 (innards P k)) = sum_some Thing-dec (λ k. count Thing-dec c.1 (innards P k)) d (omega (arith, h, so_far d c.1)) in
      omega (arith, so_far d y, part_sum Thing-dec (λ k. count Thing-dec y (innards P k)) d s.0 s.1, innards_closed S.linked s.0 (kid_kind S.linked x s.0 (sub s.0 s.1)) (free_kid S.linked x s.0 (sub s.0 s.1) F) y f c e s.2))
      (λ z. absurd (omega (arith, once S.linked y f c e, ap (count Thing-dec y) (value_bare c.1 z c.0))))
      (zero_or (count Thing-dec c.1 (place_values_at P x)))

  pub ended_sound : (d : List Thing) → ((k : Thing) → In Thing-dec k d → In Thing-dec k (kids P x)) → Sound (cut_all (ended_so_far d) P)
  ended_sound d sub = cut_sound (among (ended_so_far d)) P (closed_so_far d sub) S

  module _ (d : List Thing) (k : Thing) (r : List Thing) (e : kids P x ≡ d ++ (k ∷ r)) where
    abbrev L : List Thing
    L = ended_so_far d

    sub : (y : Thing) → In Thing-dec y d → In Thing-dec y (kids P x)
    sub y i = omega (arith, i, ap (count Thing-dec y) e, count_append Thing-dec y d (k ∷ r))

    kid : In Thing-dec k (kids P x)
    kid = omega (arith, ap (count Thing-dec k) e, count_append Thing-dec k d (k ∷ r), tick_yes (Thing-dec k k) refl)

    parts : (y : Thing) → sum (λ k. count Thing-dec y (innards P k)) (kids P x) ≡ sum (λ k. count Thing-dec y (innards P k)) d + (count Thing-dec y (innards P k) + sum (λ k. count Thing-dec y (innards P k)) r)
    parts y = ap (sum (λ k. count Thing-dec y (innards P k))) e ∙ sum_append (λ k. count Thing-dec y (innards P k)) d (k ∷ r)

    apart : (y : Thing) → In Thing-dec y L → count Thing-dec y (innards P k) ≡ 0
    apart y i = omega (arith, i, so_far d y, parts y, total y, innards_once S.linked x y kx)

    abbrev Q : State
    Q = cut_all L P

    pub erase_turn_sound : Sound Q
    erase_turn_sound = ended_sound d sub

    pub erase_turn_free : Free Q k
    erase_turn_free = free_stays S.linked L erase_turn_sound.linked k apart (free_kid S.linked x k kid F)

    -- the next child is erased: it and all inside it end
    pub erase_turn : cut_all (innards Q k) Q ≡ cut_all (ended_so_far (d ++ (k ∷ []))) P
    erase_turn =
        ap (λ (l : List Thing). cut_all l Q) (innards_stay S.linked L erase_turn_sound.linked k apart)
        ∙ cut_append L (innards P k) P
        ∙ ap (λ (l : List Thing). cut_all l P) (append_assoc (place_values_at P x) (gather (innards P) d) (innards P k) ∙ ap {B = List Thing} (λ l. place_values_at P x ++ l) (ap {B = List Thing} (λ l. gather (innards P) d ++ l) (sym (append_nil (innards P k))) ∙ sym (gather_append (innards P) d (k ∷ []))))

    pub erase_turn_ops : length (ops_among (walk Q k)) ≡ length (ops_among (walk P k))
    erase_turn_ops = ap (λ (l : List Thing). length (ops_among l)) (walk_stays S.linked L erase_turn_sound.linked k apart)

    -- it is the first child that is left
    pub erase_turn_kids : kids Q x ≡ k ∷ r
    unfolding place_cut_by
    erase_turn_kids =
        sym (sift_append (among L) (P.list x regions) (P.list x blocks ++ P.list x ops) ∙ ap {B = List Thing} (λ l. sift (among L) (P.list x regions) ++ l) (sift_append (among L) (P.list x blocks) (P.list x ops)))
        ∙ ap (sift (among L)) e
        ∙ sift_append (among L) d (k ∷ r)
        ∙ ap₂ {C = List Thing} (λ a b. a ++ b)
        (sift_none Thing-dec (among L) d (λ y i. omega (arith, so_far d y, part_sum Thing-dec (λ k. count Thing-dec y (innards P k)) d y i, self y)))
        (sift_all Thing-dec (among L) (k ∷ r) (λ y i. ⊎_elim (λ z. z) (λ z. absurd (omega (arith, z, so_far d y, parts y, part_sum Thing-dec (λ k. count Thing-dec y (innards P k)) (k ∷ r) y i, self y, total y, innards_once S.linked x y kx))) (zero_or (among L y))))

  -- ---- the thing itself

  abbrev Z : State
  Z = cut_all (ended_so_far (kids P x)) P

  -- all its lists are empty
  pub last_bare : (r : Role) → Z.list x r ≡ []
  unfolding place_cut_by
  last_bare r = sift_none Thing-dec (among (ended_so_far (kids P x))) (P.list x r) (λ y i.
      let at : P.own y (fam r) ≡ some (r, x) = listed S.linked y x r i in
      let M : Link P y (fam r) (r, x) = S.linked.link y (fam r) (r, x) at in
      omega (arith, so_far (kids P x) y, total y, innards_closed S.linked x kx F y (fam r) (r, x) at (self x), tick_no (Thing-dec y x) (λ p. node≢holder r (ap kind_code (sym M.node ∙ ap (λ (t : Thing). t.0) p ∙ M.holder)))))
