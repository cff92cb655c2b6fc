-- What the three functions that drop a nest need: the list of uses opened by one level, and one turn of the loop over the children. Assumes nothing.
use mathlib.Core.Path.{◌≡◌, refl, sym, ap, ◌∙◌}
use mathlib.Core.Logic.{◌≢◌, ite, ⊎_elim}
use mathlib.Core.List.{List, [], ◌∷◌, ◌++◌}
use mathlib.Core.Option.{Option, none, some}
use native.Mathlib.Omega.{arith}
use Prim.Native.Nat.{ℕ, ◌+◌, ◌<◌}
use lib.ListN.{length}
use Rattle.seqs.specs.Seqs.{tick, count, In, sum}
use Rattle.places.specs.Store.{Kind-dec, op, blk, reg, usg, Role, operands, successors, results, arguments, regions, ops, blocks, slots, fam, node_of, holder_of, Thing, Thing-dec, State, Linked, outer, Sound}
use Rattle.places.specs.Walk.{over, gather, place_cut_by, among, cut_all, kids, walk, place_uses_at, place_values_at, drop_list, dropped}
use Rattle.seqs.proofs.Base.{tick_pos, in_head, count_append}
use Rattle.places.proofs.Steps.{listed}
use Rattle.places.proofs.Placing.{is_use}
use Rattle.places.proofs.Climb.{ops_among}
use Rattle.places.proofs.Cut.{zero_or, sift_all, cut_append, cut_sound}
use Rattle.places.proofs.Nest.{kind_code, up_to, gather_on, walk_eq, walk_same}
use Rattle.places.proofs.DropAll.{uses_closed, uses_at, drop_count, drop_uses}

-- ---- lists

module _ {A : Type 0} where
  pub append_assoc : (a b c : List A) → (a ++ b) ++ c ≡ a ++ (b ++ c)
  append_assoc [] b c = refl
  append_assoc (x ∷ a) b c = ap {B = List A} (λ r. x ∷ r) (append_assoc a b c)

  pub append_nil : (a : List A) → a ++ [] ≡ a
  append_nil [] = refl
  append_nil (x ∷ a) = ap {B = List A} (λ r. x ∷ r) (append_nil a)

  pub length_append : (a b : List A) → length (a ++ b) ≡ length a + length b
  length_append [] b = omega arith
  length_append (x ∷ a) b = omega (arith, length_append a b)

module _ {A B : Type 0} (f : A → List B) where
  pub gather_append : (l m : List A) → gather f (l ++ m) ≡ gather f l ++ gather f m
  gather_append [] m = refl
  gather_append (x ∷ l) m = ap {B = List B} (λ r. f x ++ r) (gather_append l m) ∙ sym (append_assoc (f x) (gather f l) (gather f m))

  pub gather_gather : {C : Type 0} (g : C → List A) (l : List C) → gather f (gather g l) ≡ gather (λ k. gather f (g k)) l
  gather_gather g [] = refl
  gather_gather g (x ∷ l) = gather_append (g x) (gather g l) ∙ ap {B = List B} (λ r. gather f (g x) ++ r) (gather_gather g l)

-- ---- what each kind has

module _ {P : State} (S : Linked P) where
  pub list_none : (c : Thing) (r : Role) → kind_code c.0 ≢ kind_code (holder_of r) → P.list c r ≡ []
  list_none c r n = go (P.list c r) refl
    where
      go : (l : List Thing) → P.list c r ≡ l → P.list c r ≡ []
      go [] e = e
      go (x ∷ l) e = absurd (n (ap kind_code (S.link x (fam r) (r, c) (listed S x c r (rw e (in_head Thing-dec x l)))).holder))

  pub kids_op : (o : ℕ) → kids P (op, o) ≡ P.list (op, o) regions
  unfolding kind_code
  kids_op o = rw (list_none (op, o) blocks (λ h. absurd (omega arith)), list_none (op, o) ops (λ h. absurd (omega arith))) (append_nil (P.list (op, o) regions))

  pub kids_reg : (r : ℕ) → kids P (reg, r) ≡ P.list (reg, r) blocks
  unfolding kind_code
  kids_reg r = rw (list_none (reg, r) regions (λ h. absurd (omega arith)), list_none (reg, r) ops (λ h. absurd (omega arith))) (append_nil (P.list (reg, r) blocks))

  pub kids_blk : (b : ℕ) → kids P (blk, b) ≡ P.list (blk, b) ops
  unfolding kind_code
  kids_blk b = rw (list_none (blk, b) regions (λ h. absurd (omega arith)), list_none (blk, b) blocks (λ h. absurd (omega arith)))

  pub uses_none : (x : Thing) → kind_code x.0 ≢ 0 → place_uses_at P x ≡ []
  unfolding kind_code
  uses_none x n = rw (list_none x operands n, list_none x successors n)

  pub values_op : (o : ℕ) → place_values_at P (op, o) ≡ P.list (op, o) results
  unfolding kind_code
  values_op o = rw (list_none (op, o) arguments (λ h. absurd (omega arith))) (append_nil (P.list (op, o) results))

  pub values_blk : (b : ℕ) → place_values_at P (blk, b) ≡ P.list (blk, b) arguments
  unfolding kind_code
  values_blk b = rw (list_none (blk, b) results (λ h. absurd (omega arith)))

  -- ---- one level opened

  pub drop_eq : (x : Thing) → drop_list P x ≡ place_uses_at P x ++ gather (drop_list P) (kids P x)
  unfolding drop_list
  drop_eq x = ap (gather (place_uses_at P)) (walk_eq S x) ∙ ap {B = List Thing} (λ r. place_uses_at P x ++ r) (gather_gather (place_uses_at P) (walk P) (kids P x))

  ops_append : (l m : List Thing) → length (ops_among (l ++ m)) ≡ length (ops_among l) + length (ops_among m)
  unfolding ops_among
  ops_append [] m = omega arith
  ops_append (x ∷ l) m = go (ops_append l m) (Kind-dec x.0 op)
    where
      go : length (ops_among (l ++ m)) ≡ length (ops_among l) + length (ops_among m) → (w : Dec (x.0 ≡ op)) → length (ite w (x.1 ∷ ops_among (l ++ m)) (ops_among (l ++ m))) ≡ length (ite w (x.1 ∷ ops_among l) (ops_among l)) + length (ops_among m)
      go ih (yes e) = omega arith
      go ih (no n) = ih

  ops_gather : (l : List Thing) → length (ops_among (gather (walk P) l)) ≡ sum (λ k. length (ops_among (walk P k))) l
  unfolding ops_among
  ops_gather [] = refl
  ops_gather (k ∷ l) = ops_append (walk P k) (gather (walk P) l) ∙ ap (λ (n : ℕ). length (ops_among (walk P k)) + n) (ops_gather l)

  -- the operations inside: the number by which the measure falls
  pub ops_eq : (x : Thing) → length (ops_among (walk P x)) ≡ tick (Kind-dec x.0 op) + sum (λ k. length (ops_among (walk P k))) (kids P x)
  unfolding ops_among tick
  ops_eq x = ap (λ (l : List Thing). length (ops_among l)) (walk_eq S x) ∙ go (Kind-dec x.0 op) ∙ ap (λ (n : ℕ). tick (Kind-dec x.0 op) + n) (ops_gather (kids P x))
    where
      go : (w : Dec (x.0 ≡ op)) → length (ite w (x.1 ∷ ops_among (gather (walk P) (kids P x))) (ops_among (gather (walk P) (kids P x)))) ≡ tick w + length (ops_among (gather (walk P) (kids P x)))
      go (yes e) = omega arith
      go (no n) = omega arith

-- ---- some uses have ended: the nest is the same

module _ {P : State} (S : Sound P) (l : List Thing) (is : (x : Thing) → In Thing-dec x l → x.0 ≡ usg) where
  abbrev Q : State
  Q = cut_all l P

  pub part_sound : Sound Q
  part_sound = cut_sound (among l) P (uses_closed S.linked l is) S

  pub list_kept : (c : Thing) (r : Role) → is_use (node_of r) ≡ 0 → Q.list c r ≡ P.list c r
  unfolding place_cut_by is_use
  list_kept c r h = sift_all Thing-dec (among l) (P.list c r) (λ x i. ⊎_elim (λ z. z) (λ z. absurd (omega (arith, h, ap is_use (sym (S.linked.link x (fam r) (r, c) (listed S.linked x c r i)).node ∙ is x z)))) (zero_or (among l x)))

  pub kids_kept : (y : Thing) → kids Q y ≡ kids P y
  unfolding is_use
  kids_kept y = cc (list_kept y regions refl, list_kept y blocks refl, list_kept y ops refl)

  pub walk_kept : (x : Thing) → walk Q x ≡ walk P x
  walk_kept x = walk_same S.linked part_sound.linked x (λ y _. kids_kept y)

  module _ (k : Thing) (rest : (u : Thing) → In Thing-dec u l → count Thing-dec u (drop_list P k) ≡ 0) where
    inside_left : (y u : Thing) → In Thing-dec y (walk P k) → In Thing-dec u (place_uses_at P y) → among l u ≡ 0
    inside_left y u i j = ⊎_elim (λ z. z) (λ z. absurd (omega (arith, rest u z, drop_count S.linked k u, at (outer (P.own u slots)) (omega (arith, uses_at S.linked u y))))) (zero_or (among l u))
      where
        at : (o : Option Thing) → 0 < up_to o y → 0 < over o (λ z. count Thing-dec z (walk P k))
        at none h = absurd (omega arith)
        at (some z) h = rw (tick_pos (Thing-dec z y) h) i

    pub uses_left : (y : Thing) → In Thing-dec y (walk P k) → place_uses_at Q y ≡ place_uses_at P y
    unfolding place_cut_by
    uses_left y i =
        cc (
          sift_all Thing-dec (among l) (P.list y operands) (λ u j. inside_left y u i (omega (arith, count_append Thing-dec u (P.list y operands) (P.list y successors)))),
          sift_all Thing-dec (among l) (P.list y successors) (λ u j. inside_left y u i (omega (arith, count_append Thing-dec u (P.list y operands) (P.list y successors)))),
        )

    pub drop_kept : drop_list Q k ≡ drop_list P k
    unfolding drop_list
    drop_kept = ap (gather (place_uses_at Q)) (walk_kept k) ∙ gather_on Thing-dec (place_uses_at Q) (place_uses_at P) (walk P k) uses_left

-- ---- one turn: in a store where the uses before it have ended, the next child is dropped

module _ {P : State} (S : Sound P) (x k : Thing) (l m : List Thing) (e : drop_list P x ≡ l ++ (drop_list P k ++ m)) where
  counted : (u : Thing) → count Thing-dec u (drop_list P x) ≡ count Thing-dec u l + (count Thing-dec u (drop_list P k) + count Thing-dec u m)
  counted u = ap (count Thing-dec u) e ∙ count_append Thing-dec u l (drop_list P k ++ m) ∙ ap (λ (n : ℕ). count Thing-dec u l + n) (count_append Thing-dec u (drop_list P k) m)

  pub turn_uses : (u : Thing) → In Thing-dec u l → u.0 ≡ usg
  turn_uses u i = (drop_uses S.linked x).kind u (omega (arith, counted u))

  pub turn_sound : Sound (cut_all l P)
  turn_sound = part_sound S l turn_uses

  pub turn_list : drop_list (cut_all l P) k ≡ drop_list P k
  turn_list = drop_kept S l turn_uses k (λ u i. omega (arith, counted u, (drop_uses S.linked x).once u))

  pub turn_drop : dropped (cut_all l P) k ≡ cut_all (l ++ drop_list P k) P
  unfolding dropped
  turn_drop = ap (λ (d : List Thing). cut_all d (cut_all l P)) turn_list ∙ cut_append l (drop_list P k) P

  pub turn_ops : length (ops_among (walk (cut_all l P) k)) ≡ length (ops_among (walk P k))
  turn_ops = ap (λ (d : List Thing). length (ops_among d)) (walk_kept S l turn_uses k)

-- the loop over the children d ++ k ∷ r: its invariant before k, and after
module _ {P : State} (S : Sound P) (x : Thing) where
  abbrev pub drop_so_far : List Thing → List Thing
  drop_so_far d = place_uses_at P x ++ gather (drop_list P) d

  module _ (d : List Thing) (k : Thing) (r : List Thing) (e : kids P x ≡ d ++ (k ∷ r)) where
    split : drop_list P x ≡ drop_so_far d ++ (drop_list P k ++ gather (drop_list P) r)
    split = drop_eq S.linked x ∙ ap (λ (l : List Thing). place_uses_at P x ++ gather (drop_list P) l) e ∙ ap {B = List Thing} (λ l. place_uses_at P x ++ l) (gather_append (drop_list P) d (k ∷ r)) ∙ sym (append_assoc (place_uses_at P x) (gather (drop_list P) d) (drop_list P k ++ gather (drop_list P) r))

    -- the same children are read there
    pub loop_kids : kids (cut_all (drop_so_far d) P) x ≡ kids P x
    loop_kids = kids_kept S (drop_so_far d) (turn_uses S x k (drop_so_far d) (gather (drop_list P) r) split) x

    pub loop_sound : Sound (cut_all (drop_so_far d) P)
    loop_sound = turn_sound S x k (drop_so_far d) (gather (drop_list P) r) split

    pub loop_turn : dropped (cut_all (drop_so_far d) P) k ≡ cut_all (drop_so_far (d ++ (k ∷ []))) P
    loop_turn = turn_drop S x k (drop_so_far d) (gather (drop_list P) r) split
        ∙ ap (λ (l : List Thing). cut_all l P) (append_assoc (place_uses_at P x) (gather (drop_list P) d) (drop_list P k) ∙ ap {B = List Thing} (λ l. place_uses_at P x ++ l) (ap {B = List Thing} (λ l. gather (drop_list P) d ++ l) (sym (append_nil (drop_list P k))) ∙ sym (gather_append (drop_list P) d (k ∷ []))))

    pub loop_ops : length (ops_among (walk (cut_all (drop_so_far d) P) k)) ≡ length (ops_among (walk P k))
    loop_ops = turn_ops S x k (drop_so_far d) (gather (drop_list P) r) split

    pub loop_ended : length (drop_list (cut_all (drop_so_far d) P) k) ≡ length (drop_list P k)
    loop_ended = ap length (turn_list S x k (drop_so_far d) (gather (drop_list P) r) split)

  pub loop_done : cut_all (drop_so_far (kids P x)) P ≡ dropped P x
  unfolding dropped
  loop_done = ap (λ (l : List Thing). cut_all l P) (sym (drop_eq S.linked x))
