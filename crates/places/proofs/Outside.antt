-- Where no definition inside is used from outside, all inside may end. Assumes nothing.
use mathlib.Core.Path.{◌≡◌, refl, sym, ap, ap₂, ◌∙◌, subst}
use mathlib.Core.Logic.{◌≢◌, by_cases, ⊎_elim}
use mathlib.Core.HLevel.{Discrete}
use mathlib.Core.List.{List, [], ◌∷◌, ◌++◌, map}
use mathlib.Core.Option.{Option, none, some}
use native.Mathlib.Omega.{arith}
use Prim.Native.Nat.{ℕ, ◌+◌, ◌<◌, ◌≤◌}
use lib.ListN.{length}
use Rattle.seqs.specs.Seqs.{tick, count, In, sum}
use Rattle.places.specs.Store.{op, blk, reg, val, usg, Role, operands, successors, value_uses, block_uses, results, arguments, regions, ops, blocks, Fam, slots, use_sets, vals, regs, ops_in, blocks_in, fam, node_of, holder_of, Thing, Thing-dec, Con, Con-dec, State, Live, Link, Linked, Sound, outer, up_by, up, nest}
use Rattle.places.specs.Walk.{over, sgn, sift, gather, among, cut_all, walk, place_uses_at, place_values_at, drop_list, dropped, def_sets, mark_of, stray_at, strays, strays_in, innards, everything, erased}
use Rattle.seqs.proofs.Base.{tick_yes, tick_no, tick_pos, in_head, in_tail, count_append}
use Rattle.places.proofs.Steps.{thing_eq, once}
use Rattle.seqs.proofs.Sums.{sum_on, count_map}
use Rattle.places.proofs.Cut.{zero_or, pick_0, pick_1, count_sift_0, cut_append, Closed, cut_sound}
use Rattle.places.proofs.Nest.{kind_code, up_to, count_gather, walk_up, walk_top, walk_self}
use Rattle.places.proofs.DropAll.{uses_at, values_at, sum_up_to, drop_count, drop_uses, slot_roles, fam_code}

-- ---- what is inside

module _ {P : State} (S : Linked P) (x : Thing) where
  abbrev W : Thing → ℕ
  W y = count Thing-dec y (walk P x)

  -- a value is inside as often as its operation or block
  pub value_count : (v : Thing) → count Thing-dec v (gather (place_values_at P) (walk P x)) ≡ over (outer (P.own v vals)) W
  value_count v = count_gather Thing-dec v (place_values_at P) (walk P x) ∙ sum_on Thing-dec (λ y. count Thing-dec v (place_values_at P y)) (λ y. up_to (outer (P.own v vals)) y) (walk P x) (λ y _. values_at S v y) ∙ sum_up_to (outer (P.own v vals)) (walk P x)

  pub innards_count : (y : Thing) → count Thing-dec y (innards P x) ≡ over (outer (P.own y vals)) W + W y
  unfolding innards
  innards_count y = split (walk P x) ∙ ap (λ (n : ℕ). n + W y) (value_count y)
    where
      split : (l : List Thing) → count Thing-dec y (gather (λ z. place_values_at P z ++ (z ∷ [])) l) ≡ count Thing-dec y (gather (place_values_at P) l) + count Thing-dec y l
      split [] = refl
      split (z ∷ l) = omega (arith, split l, count_append Thing-dec y (place_values_at P z ++ (z ∷ [])) (gather (λ z. place_values_at P z ++ (z ∷ [])) l), count_append Thing-dec y (place_values_at P z) (z ∷ []), count_append Thing-dec y (place_values_at P z) (gather (place_values_at P) l))

  pub everything_count : (y : Thing) → among (everything P x) y ≡ over (outer (P.own y slots)) W + (over (outer (P.own y vals)) W + W y)
  everything_count y = count_append Thing-dec y (drop_list P x) (innards P x) ∙ ap₂ ◌+◌ (drop_count S x y) (innards_count y)

  pub no_slot : (y : Thing) → kind_code y.0 ≢ 4 → over (outer (P.own y slots)) W ≡ 0
  unfolding kind_code
  no_slot y n = ⊎_elim (λ z. z) (λ z. absurd (n (ap kind_code ((drop_uses S x).kind y (omega (arith, drop_count S x y)))))) (zero_or (over (outer (P.own y slots)) W))

  val_node : (r : Role) → fam r ≡ vals → node_of r ≡ val
  unfolding kind_code
  val_node operands e = absurd (let z : ◌≡◌ {A = ℕ} 0 1 = cc in omega arith)
  val_node successors e = absurd (let z : ◌≡◌ {A = ℕ} 0 1 = cc in omega arith)
  val_node value_uses e = absurd (let z : ◌≡◌ {A = ℕ} 0 1 = cc in omega arith)
  val_node block_uses e = absurd (let z : ◌≡◌ {A = ℕ} 0 1 = cc in omega arith)
  val_node results e = refl
  val_node arguments e = refl
  val_node regions e = absurd (let z : ◌≡◌ {A = ℕ} 0 1 = cc in omega arith)
  val_node ops e = absurd (let z : ◌≡◌ {A = ℕ} 0 1 = cc in omega arith)
  val_node blocks e = absurd (let z : ◌≡◌ {A = ℕ} 0 1 = cc in omega arith)

  pub no_value : (y : Thing) → kind_code y.0 ≢ 3 → over (outer (P.own y vals)) W ≡ 0
  unfolding kind_code
  no_value y n = go (P.own y vals) refl
    where
      go : (o : Option Con) → P.own y vals ≡ o → over (outer o) W ≡ 0
      go none e = refl
      go (some c) e = absurd (n (ap kind_code ((S.link y vals c e).node ∙ val_node c.0 (S.link y vals c e).family)))

  -- a value and a use are not in the walk
  pub not_walked : (y : Thing) → kind_code x.0 ≤ 2 → 3 ≤ kind_code y.0 → W y ≡ 0
  unfolding up kind_code
  not_walked (op, p) kx k = absurd (omega arith)
  not_walked (blk, p) kx k = absurd (omega arith)
  not_walked (reg, p) kx k = absurd (omega arith)
  not_walked (val, p) kx k = walk_top S x (val, p) refl (λ e. absurd (omega (arith, ap (λ (a : Thing). kind_code a.0) e)))
  not_walked (usg, p) kx k = walk_top S x (usg, p) refl (λ e. absurd (omega (arith, ap (λ (a : Thing). kind_code a.0) e)))

-- ---- the test by marks

slot_holder : (r : Role) → fam r ≡ slots → holder_of r ≡ op
unfolding fam_code
slot_holder r e = ⊎_elim (λ h. ap holder_of h) (λ h. ap holder_of h) (slot_roles r (ap fam_code e))

pub part_sum : {A : Type 0} (d : Discrete A) (f : A → ℕ) (l : List A) (a : A) → In d a l → f a ≤ sum f l
part_sum d f [] a i = absurd (omega arith)
part_sum d f (y ∷ l) a i = by_cases (d a y) (λ e. omega (arith, ap f e)) (λ n. omega (arith, part_sum d f l a (omega (arith, tick_no (d a y) n))))

-- the marks are on the operations inside
abbrev pub Marks : State → (ℕ → ℕ) → Thing → Type 0
Marks P mk x = (o : ℕ) → Live P (op, o) → sgn (mk o) ≡ sgn (count Thing-dec (op, o) (walk P x))

pub sgn_pos : (m n : ℕ) → sgn m ≡ sgn n → 0 < m → 0 < n
sgn_pos m n e h = ⊎_elim (λ z. absurd (omega (arith, e, pick_1 {A = ℕ} m 0 1 h, pick_0 {A = ℕ} n 0 1 z))) (λ z. z) (zero_or n)

pub sgn_iff : (m n : ℕ) → (0 < m → 0 < n) → (0 < n → 0 < m) → sgn m ≡ sgn n
sgn_iff m n f g = ⊎_elim (λ z. pick_0 m 0 1 z ∙ sym (pick_0 n 0 1 (⊎_elim (λ w. w) (λ w. absurd (omega (arith, g w))) (zero_or n)))) (λ z. pick_1 m 0 1 z ∙ sym (pick_1 n 0 1 (f z))) (zero_or m)

count_length : {A : Type 0} (d : Discrete A) (a : A) (l : List A) → length l ≡ 0 → count d a l ≡ 0
count_length d a [] h = refl
count_length d a (y ∷ l) h = absurd (omega arith)

module _ {P : State} (S : Linked P) (x : Thing) (mk : ℕ → ℕ) (right : Marks P mk x) where
  abbrev Wx : Thing → ℕ
  Wx y = count Thing-dec y (walk P x)

  -- the mark of a use's operation says whether the use is inside
  pub mark_use : (u : Thing) → sgn (mark_of P mk u) ≡ sgn (count Thing-dec u (drop_list P x))
  mark_use u = go (P.own u slots) refl ∙ ap sgn (sym (drop_count S x u))
    where
      go : (o : Option Con) → P.own u slots ≡ o → sgn (over (outer o) (λ o. mk o.1)) ≡ sgn (over (outer o) Wx)
      go none e = refl
      go (some c) e =
          let L : Link P u slots c = S.link u slots c e in
          let k : c.1 ≡ (op, c.1.1) = thing_eq c.1 (op, c.1.1) (L.holder ∙ slot_holder c.0 L.family) refl in
          right c.1.1 (subst (λ (y : Thing). Live P y) k L.home) ∙ ap (λ (y : Thing). sgn (Wx y)) (sym k)

  -- what no stray use holds, only uses inside do
  pub held_inside : strays_in P mk x ≡ 0 → (z : Thing) → 0 < Wx z → (c : Con) → In Con-dec c (def_sets P z) → (u : Thing) → In Thing-dec u (P.list c.1 c.0) → 0 < count Thing-dec u (drop_list P x)
  unfolding strays_in strays stray_at
  held_inside none_out z w c i u j =
      let a : strays P mk z ≤ 0 = omega (arith, part_sum Thing-dec (strays P mk) (walk P x) z w) in
      let b : stray_at P mk c ≤ 0 = omega (arith, part_sum Con-dec (stray_at P mk) (def_sets P z) c i) in
      ⊎_elim
      (λ q. absurd (omega (arith, count_sift_0 Thing-dec (mark_of P mk) u (P.list c.1 c.0) q, count_length Thing-dec u (sift (mark_of P mk) (P.list c.1 c.0)) (omega arith))))
      (λ q. sgn_pos (mark_of P mk u) (count Thing-dec u (drop_list P x)) (mark_use u) q)
      (zero_or (mark_of P mk u))

-- a set of things that has with each thing inside its values, its children and its uses, and with each definition inside its uses
module _ {P : State} (S : Linked P) (x : Thing) (kx : kind_code x.0 ≤ 2) (E : Thing → ℕ)
    (within : (y : Thing) → 0 < over (outer (P.own y vals)) (λ z. count Thing-dec z (walk P x)) + count Thing-dec y (walk P x) → 0 < E y)
    (only : (y : Thing) → kind_code y.0 ≤ 3 → 0 < E y → 0 < over (outer (P.own y vals)) (λ z. count Thing-dec z (walk P x)) + count Thing-dec y (walk P x))
    (slot : (b y : Thing) → 0 < count Thing-dec b (walk P x) → In Thing-dec y (place_uses_at P b) → 0 < E y)
    (used : (b y : Thing) → 0 < count Thing-dec b (walk P x) → (c : Con) → In Con-dec c (def_sets P b) → In Thing-dec y (P.list c.1 c.0) → 0 < E y) where
  abbrev Wy : Thing → ℕ
  Wy y = count Thing-dec y (walk P x)

  nest_in : (b : Thing) → kind_code b.0 ≤ 2 → 0 < E b → 0 < Wy b
  nest_in b k h = omega (arith, only b (omega arith) h, no_value S x b (λ e. absurd (omega arith)))

  up_of : (f : Fam) (y b : Thing) → nest y.0 ≡ some f → outer (P.own y f) ≡ some b → up P y ≡ some b
  unfolding up
  up_of f y b n e = ap (up_by (P.own y)) n ∙ e

  value_of : (b : Thing) → 0 < over (outer (P.own b vals)) Wy → (c : Con) × (P.own b vals ≡ some c) × (0 < Wy c.1)
  value_of b h = go (P.own b vals) refl h
    where
      go : (o : Option Con) → P.own b vals ≡ o → 0 < over (outer o) Wy → (c : Con) × (P.own b vals ≡ some c) × (0 < Wy c.1)
      go none e h = absurd (omega arith)
      go (some c) e h = (c, e, h)

  by_value : (r : Role) (b y : Thing) → P.own y vals ≡ some (r, b) → 0 < Wy b → 0 < E y
  by_value r b y e h = within y (omega (arith, h, ap (λ (o : Option Con). over (outer o) Wy) e))

  by_nest : (b y : Thing) → up P y ≡ some b → 0 < Wy b → 0 < E y
  by_nest b y e h = within y (omega (arith, by_cases {C = 0 < Wy y} (Thing-dec y x) (λ q. omega (arith, walk_self S x, ap Wy q)) (λ n. omega (arith, walk_up S x y b e n))))

  self : (a : Thing) → tick (Thing-dec a a) ≡ 1
  self a = tick_yes (Thing-dec a a) refl

  closed_at : (r : Role) (b y : Thing) → P.own y (fam r) ≡ some (r, b) → 0 < E b → 0 < E y
  unfolding kind_code
  closed_at operands b y e h = slot b y (nest_in b (omega (arith, ap kind_code (S.link y slots (operands, b) e).holder)) h) (omega (arith, once S y slots (operands, b) e, count_append Thing-dec y (P.list b operands) (P.list b successors)))
  closed_at successors b y e h = slot b y (nest_in b (omega (arith, ap kind_code (S.link y slots (successors, b) e).holder)) h) (omega (arith, once S y slots (successors, b) e, count_append Thing-dec y (P.list b operands) (P.list b successors)))
  closed_at results b y e h = by_value results b y e (nest_in b (omega (arith, ap kind_code (S.link y vals (results, b) e).holder)) h)
  closed_at arguments b y e h = by_value arguments b y e (nest_in b (omega (arith, ap kind_code (S.link y vals (arguments, b) e).holder)) h)
  closed_at regions b y e h = by_nest b y (up_of regs y b (ap nest (S.link y regs (regions, b) e).node) (ap outer e)) (nest_in b (omega (arith, ap kind_code (S.link y regs (regions, b) e).holder)) h)
  closed_at ops b y e h = by_nest b y (up_of ops_in y b (ap nest (S.link y ops_in (ops, b) e).node) (ap outer e)) (nest_in b (omega (arith, ap kind_code (S.link y ops_in (ops, b) e).holder)) h)
  closed_at blocks b y e h = by_nest b y (up_of blocks_in y b (ap nest (S.link y blocks_in (blocks, b) e).node) (ap outer e)) (nest_in b (omega (arith, ap kind_code (S.link y blocks_in (blocks, b) e).holder)) h)
  closed_at block_uses b y e h = used b y (nest_in b (omega (arith, ap kind_code (S.link y use_sets (block_uses, b) e).holder)) h) (block_uses, b) (in_head Con-dec (block_uses, b) (map (λ v. (value_uses, v)) (place_values_at P b))) (omega (arith, once S y use_sets (block_uses, b) e))
  closed_at value_uses b y e h =
      let k : b.0 ≡ val = (S.link y use_sets (value_uses, b) e).holder in
      let w : 0 < over (outer (P.own b vals)) Wy = omega (arith, only b (omega (arith, ap kind_code k)) h, not_walked S x b kx (omega (arith, ap kind_code k))) in
      let s : (c : Con) × (P.own b vals ≡ some c) × (0 < Wy c.1) = value_of b w in
      used s.0.1 y s.2 (value_uses, b)
      (in_tail Con-dec (value_uses, b) (block_uses, s.0.1) (map (λ v. (value_uses, v)) (place_values_at P s.0.1)) (omega (arith, count_map Thing-dec Con-dec (λ v. (value_uses, v)) (λ p q m. ap (λ (d : Con). d.1) m) b (place_values_at P s.0.1), values_at S b s.0.1, ap (λ (o : Option Con). up_to (outer o) s.0.1) s.1, self s.0.1)))
      (omega (arith, once S y use_sets (value_uses, b) e))

  pub closed_by : Closed E P
  closed_by y f c e h = closed_at c.0 c.1 y (subst (λ (g : Fam). P.own y g ≡ some c) (sym (S.link y f c e).family) e) h

pub all_closed : {P : State} (S : Linked P) (x : Thing) (mk : ℕ → ℕ) → Marks P mk x → kind_code x.0 ≤ 2 → strays_in P mk x ≡ 0 → Closed (among (everything P x)) P
all_closed {P} S x mk right kx none_out =
    closed_by S x kx (among (everything P x))
    (λ y h. omega (arith, everything_count S x y))
    (λ y k h. omega (arith, everything_count S x y, no_slot S x y (λ q. absurd (omega arith))))
    (λ b y w i. omega (arith, count_append Thing-dec y (drop_list P x) (innards P x), drop_count S x y, at_slot (outer (P.own y slots)) b w (omega (arith, uses_at S y b))))
    (λ b y w c i j. omega (arith, count_append Thing-dec y (drop_list P x) (innards P x), held_inside S x mk right none_out b w c i y j))
  where
    at_slot : (o : Option Thing) (b : Thing) → 0 < count Thing-dec b (walk P x) → 0 < up_to o b → 0 < over o (λ z. count Thing-dec z (walk P x))
    at_slot none b w h = absurd (omega arith)
    at_slot (some z) b w h = rw (tick_pos (Thing-dec z b) h) w

pub erased_is : (P : State) (x : Thing) → erased P x ≡ cut_all (everything P x) P
unfolding erased dropped
erased_is P x = cut_append (drop_list P x) (innards P x) P

pub erase_sound : {P : State} → Sound P → (x : Thing) → kind_code x.0 ≤ 2 → (mk : ℕ → ℕ) → Marks P mk x → strays_in P mk x ≡ 0 → Sound (erased P x)
erase_sound {P} S x kx mk right none_out = subst (λ (Q : State). Sound Q) (sym (erased_is P x)) (cut_sound (among (everything P x)) P (all_closed S.linked x mk right kx none_out) S)
