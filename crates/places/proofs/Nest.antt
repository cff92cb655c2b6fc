-- The walk reaches what climbs to where it starts, each thing once. Assumes nothing.
use mathlib.Core.Path.{◌≡◌, refl, sym, ap, ap₂, ◌∙◌}
use mathlib.Core.Logic.{◌≢◌, by_cases, ⊎_elim}
use mathlib.Core.HLevel.{Discrete}
use mathlib.Core.List.{List, [], ◌∷◌, ◌++◌}
use mathlib.Core.Option.{Option, none, some}
use native.Mathlib.Decide.{ℕ_discrete}
use native.Mathlib.Omega.{arith}
use Prim.Native.Nat.{ℕ, zero, suc, ◌+◌, ◌<◌, ◌≤◌}
use lib.ListN.{length}
use Rattle.seqs.specs.Seqs.{tick, count, In, sum}
use Rattle.places.specs.Store.{Kind, op, blk, reg, val, usg, Role, operands, successors, value_uses, block_uses, results, arguments, regions, ops, blocks, Fam, slots, use_sets, vals, regs, ops_in, blocks_in, fam, node_of, Thing, Thing-dec, Con, Con-dec, State, alive, Live, Link, Linked, owns, nest, outer, up_by, up, Ends}
use Rattle.places.specs.Walk.{over, gather, kids, walk_by, kinds, things, population, walk}
use Rattle.seqs.proofs.Base.{tick_yes, tick_no, tick_pos, in_head, in_tail, count_append, rises_once}
use Rattle.places.proofs.Steps.{some_inj, some_none, dead_bare}
use Rattle.seqs.proofs.Sums.{sum_on, sum_add, sum_zero, count_map, count_none}
use Rattle.places.proofs.Climb.{path, path_once, path_live, ops_among, count_ops, pigeon}
use Rattle.places.proofs.Fuel.{bind}
use Rattle.places.proofs.Cut.{zero_or}

-- ---- lists of lists

module _ {A B : Type 0} where
  pub count_gather : (d : Discrete B) (y : B) (f : A → List B) (l : List A) → count d y (gather f l) ≡ sum (λ x. count d y (f x)) l
  count_gather d y f [] = refl
  count_gather d y f (x ∷ l) = omega (arith, count_append d y (f x) (gather f l), count_gather d y f l)

  pub gather_on : (d : Discrete A) (f g : A → List B) (l : List A) → ((x : A) → In d x l → f x ≡ g x) → gather f l ≡ gather g l
  gather_on d f g [] h = refl
  gather_on d f g (x ∷ l) h = ap₂ {C = List B} (λ a b. a ++ b) (h x (in_head d x l)) (gather_on d f g l (λ y i. h y (in_tail d y x l i)))

-- ---- any walk and any climb that agree

-- 1 where the climb's next step is x
abbrev pub up_to : Option Thing → Thing → ℕ
up_to none x = 0
up_to (some z) x = tick (Thing-dec z x)

-- how often x is met in n steps of the climb from y
abbrev pub hits : (Thing → Option Thing) → ℕ → Thing → Thing → ℕ
hits u zero x y = 0
hits u (suc n) x y = tick (Thing-dec y x) + over (u y) (hits u n x)

abbrev pub steps : (Thing → Option Thing) → ℕ → Thing → Option Thing
steps u zero y = some y
steps u (suc n) y = bind (steps u n y) u

steps_first : (u : Thing → Option Thing) (n : ℕ) (y z : Thing) → u y ≡ some z → steps u (suc n) y ≡ steps u n z
steps_first u zero y z e = e
steps_first u (suc n) y z e = ap (λ (o : Option Thing). bind o u) (steps_first u n y z e)

steps_top : (u : Thing → Option Thing) (n : ℕ) (y : Thing) → u y ≡ none → steps u (suc n) y ≡ none
steps_top u zero y e = e
steps_top u (suc n) y e = ap (λ (o : Option Thing). bind o u) (steps_top u n y e)

module _ (ch : Thing → List Thing) (u : Thing → Option Thing) (agree : (x y : Thing) → count Thing-dec y (ch x) ≡ up_to (u y) x) where
  hits_kids : (n : ℕ) (x y : Thing) → sum (λ k. hits u n k y) (ch x) ≡ over (u y) (hits u n x)
  hits_kids zero x y = sum_zero (ch x) ∙ none_met (u y)
    where
      none_met : (o : Option Thing) → 0 ≡ over o (λ _. 0)
      none_met none = refl
      none_met (some z) = refl
  hits_kids (suc n) x y =
      sum_add (λ k. tick (Thing-dec y k)) (λ k. over (u y) (hits u n k)) (ch x)
      ∙ ap₂ ◌+◌ (flip (ch x) ∙ agree x y) refl
      ∙ go (λ z. hits_kids n x z) (u y)
    where
      flip : (l : List Thing) → sum (λ k. tick (Thing-dec y k)) l ≡ count Thing-dec y l
      flip [] = refl
      flip (k ∷ l) = omega (arith, flip l)

      go : ((z : Thing) → sum (λ k. hits u n k z) (ch x) ≡ over (u z) (hits u n x)) → (o : Option Thing) → up_to o x + sum (λ k. over o (hits u n k)) (ch x) ≡ over o (hits u (suc n) x)
      go ih none = omega (arith, sum_zero (ch x))
      go ih (some z) = omega (arith, ih z)

  -- a walk reaches what meets its start, and as often
  pub walk_hits : (n : ℕ) (x y : Thing) → count Thing-dec y (walk_by ch n x) ≡ hits u n x y
  walk_hits zero x y = refl
  walk_hits (suc n) x y = ap (λ (m : ℕ). tick (Thing-dec y x) + m) (count_gather Thing-dec y (walk_by ch n) (ch x) ∙ sum_on Thing-dec (λ k. count Thing-dec y (walk_by ch n k)) (λ k. hits u n k y) (ch x) (λ k _. walk_hits n k y) ∙ hits_kids n x y)

  kid_up : (x k : Thing) → In Thing-dec k (ch x) → u k ≡ some x
  kid_up x k i = go (u k) (omega (arith, agree x k))
    where
      go : (o : Option Thing) → 0 < up_to o x → o ≡ some x
      go none h = absurd (omega arith)
      go (some z) h = ap some (tick_pos (Thing-dec z x) h)

  -- where nothing lies n deep, more depth reaches no more
  pub walk_deep : (n : ℕ) (x : Thing) → ((y : Thing) → steps u n y ≡ some x → ⊥) → walk_by ch (suc n) x ≡ walk_by ch n x
  walk_deep zero x h = absurd (h x refl)
  walk_deep (suc n) x h = ap {B = List Thing} (λ l. x ∷ l) (gather_on Thing-dec (walk_by ch (suc n)) (walk_by ch n) (ch x) (λ k i. walk_deep n k (λ y e. h y (ap (λ (o : Option Thing). bind o u) e ∙ kid_up x k i))))

-- two walks that see the same children
pub walk_agree : (ch ch' : Thing → List Thing) (n : ℕ) (x : Thing) → ((y : Thing) → In Thing-dec y (walk_by ch n x) → ch' y ≡ ch y) → walk_by ch' n x ≡ walk_by ch n x
walk_agree ch ch' zero x h = refl
walk_agree ch ch' (suc n) x h =
    ap {B = List Thing} (λ l. x ∷ l)
    (ap (gather (walk_by ch' n)) (h x (in_head Thing-dec x (gather (walk_by ch n) (ch x))))
    ∙ inner (ch x) (λ k y i j. h y (in_tail Thing-dec y x (gather (walk_by ch n) (ch x)) (part k y (ch x) i j))) (λ k h'. walk_agree ch ch' n k h'))
  where
    part : (k y : Thing) (l : List Thing) → In Thing-dec k l → In Thing-dec y (walk_by ch n k) → In Thing-dec y (gather (walk_by ch n) l)
    part k y [] i j = absurd (omega arith)
    part k y (z ∷ l) i j =
        by_cases (Thing-dec k z)
        (λ e. omega (arith, count_append Thing-dec y (walk_by ch n z) (gather (walk_by ch n) l), ap (λ (t : Thing). count Thing-dec y (walk_by ch n t)) e))
        (λ m. omega (arith, count_append Thing-dec y (walk_by ch n z) (gather (walk_by ch n) l), part k y l (omega (arith, tick_no (Thing-dec k z) m)) j))

    inner : (l : List Thing) → ((k y : Thing) → In Thing-dec k l → In Thing-dec y (walk_by ch n k) → ch' y ≡ ch y) → ((k : Thing) → ((y : Thing) → In Thing-dec y (walk_by ch n k) → ch' y ≡ ch y) → walk_by ch' n k ≡ walk_by ch n k) → gather (walk_by ch' n) l ≡ gather (walk_by ch n) l
    inner l g ih = gather_on Thing-dec (walk_by ch' n) (walk_by ch n) l (λ k i. ih k (λ y j. g k y i j))

turned : (x y : Thing) → tick (Thing-dec y x) ≡ tick (Thing-dec x y)
turned x y = by_cases (Thing-dec y x) (λ e. tick_yes (Thing-dec y x) e ∙ sym (tick_yes (Thing-dec x y) (sym e))) (λ n. tick_no (Thing-dec y x) n ∙ sym (tick_no (Thing-dec x y) (λ e. n (sym e))))

module _ {u : Thing → Option Thing} where
  -- enough steps meet the whole path
  pub hits_path : (n : ℕ) (x : Thing) {y : Thing} (a : Ends u y) → length (path a) ≤ n → hits u n x y ≡ count Thing-dec x (path a)
  unfolding path
  hits_path zero x {y} (Ends.top e) h = absurd (omega arith)
  hits_path zero x {y} (Ends.climb e c) h = absurd (omega arith)
  hits_path (suc n) x {y} (Ends.top e) h = rw e (omega (arith, turned x y))
  hits_path (suc n) x {y} (Ends.climb {y = z} e c) h = rw e (omega (arith, turned x y, hits_path n x c (omega arith)))

  pub steps_path : (n : ℕ) (x : Thing) {y : Thing} (a : Ends u y) → steps u n y ≡ some x → n < length (path a)
  unfolding path
  steps_path zero x (Ends.top e) h = omega arith
  steps_path zero x (Ends.climb e c) h = omega arith
  steps_path (suc n) x {y} (Ends.top e) h = absurd (some_none h (steps_top u n y e))
  steps_path (suc n) x {y} (Ends.climb {y = z} e c) h = omega (arith, steps_path n x c (sym (steps_first u n y z e) ∙ h))

-- ---- the store's children and its climb agree

unfoldable pub is_nest : Fam → ℕ
is_nest = elim [ slots ↦ 0 | use_sets ↦ 0 | vals ↦ 0 | regs ↦ 1 | ops_in ↦ 1 | blocks_in ↦ 1 ]

unfoldable pub fam_role : Fam → Role
fam_role = elim [ slots ↦ operands | use_sets ↦ value_uses | vals ↦ results | regs ↦ regions | ops_in ↦ ops | blocks_in ↦ blocks ]

nest_role : (r : Role) → is_nest (fam r) ≡ 1 → r ≡ fam_role (fam r)
unfolding is_nest fam_role
nest_role operands h = absurd (omega arith)
nest_role successors h = absurd (omega arith)
nest_role value_uses h = absurd (omega arith)
nest_role block_uses h = absurd (omega arith)
nest_role results h = absurd (omega arith)
nest_role arguments h = absurd (omega arith)
nest_role regions h = refl
nest_role ops h = refl
nest_role blocks h = refl

unfoldable pub kind_code : Kind → ℕ
kind_code = elim [ op ↦ 0 | blk ↦ 1 | reg ↦ 2 | val ↦ 3 | usg ↦ 4 ]

module _ {P : State} (S : Linked P) where
  pub role_is : (y : Thing) (f : Fam) (c : Con) → is_nest f ≡ 1 → P.own y f ≡ some c → c.0 ≡ fam_role f
  role_is y f c h e = let L : Link P y f c = S.link y f c e in nest_role c.0 (ap is_nest L.family ∙ h) ∙ ap fam_role L.family

  owns_up : (x y : Thing) (f : Fam) → is_nest f ≡ 1 → owns (P.own y f) (fam_role f, x) ≡ up_to (outer (P.own y f)) x
  unfolding owns
  owns_up x y f h = go (P.own y f) refl
    where
      go : (o : Option Con) → P.own y f ≡ o → owns o (fam_role f, x) ≡ up_to (outer o) x
      go none e = refl
      go (some c) e =
          by_cases (Thing-dec c.1 x)
          (λ p. tick_yes (Con-dec c (fam_role f, x)) (λ i. (role_is y f c h e i, p i)) ∙ sym (tick_yes (Thing-dec c.1 x) p))
          (λ n. tick_no (Con-dec c (fam_role f, x)) (λ q. n (ap (λ (d : Con). d.1) q)) ∙ sym (tick_no (Thing-dec c.1 x) n))

  own_wrong : (y : Thing) (f : Fam) → is_nest f ≡ 1 → kind_code y.0 ≢ kind_code (node_of (fam_role f)) → P.own y f ≡ none
  own_wrong y f h n = go (P.own y f) refl
    where
      go : (o : Option Con) → P.own y f ≡ o → P.own y f ≡ none
      go none e = e
      go (some c) e = absurd (n (ap kind_code ((S.link y f c e).node ∙ ap node_of (role_is y f c h e))))

  kids_held : (x y : Thing) → count Thing-dec y (kids P x) ≡ up_to (outer (P.own y regs)) x + up_to (outer (P.own y blocks_in)) x + up_to (outer (P.own y ops_in)) x
  unfolding is_nest fam_role
  kids_held x y = count_append Thing-dec y (P.list x regions) (P.list x blocks ++ P.list x ops) ∙ omega (arith, count_append Thing-dec y (P.list x blocks) (P.list x ops), S.held regions x y, S.held blocks x y, S.held ops x y, owns_up x y regs refl, owns_up x y blocks_in refl, owns_up x y ops_in refl)

  pub kids_up : (x y : Thing) → count Thing-dec y (kids P x) ≡ up_to (up P y) x
  unfolding up is_nest fam_role kind_code
  kids_up x (op, p) = kids_held x (op, p) ∙ rw (own_wrong (op, p) regs refl (λ h. absurd (omega arith)), own_wrong (op, p) blocks_in refl (λ h. absurd (omega arith))) (omega arith)
  kids_up x (blk, p) = kids_held x (blk, p) ∙ rw (own_wrong (blk, p) regs refl (λ h. absurd (omega arith)), own_wrong (blk, p) ops_in refl (λ h. absurd (omega arith))) (omega arith)
  kids_up x (reg, p) = kids_held x (reg, p) ∙ rw (own_wrong (reg, p) blocks_in refl (λ h. absurd (omega arith)), own_wrong (reg, p) ops_in refl (λ h. absurd (omega arith))) (omega arith)
  kids_up x (val, p) = kids_held x (val, p) ∙ rw (own_wrong (val, p) regs refl (λ h. absurd (omega arith)), own_wrong (val, p) blocks_in refl (λ h. absurd (omega arith)), own_wrong (val, p) ops_in refl (λ h. absurd (omega arith))) (omega arith)
  kids_up x (usg, p) = kids_held x (usg, p) ∙ rw (own_wrong (usg, p) regs refl (λ h. absurd (omega arith)), own_wrong (usg, p) blocks_in refl (λ h. absurd (omega arith)), own_wrong (usg, p) ops_in refl (λ h. absurd (omega arith))) (omega arith)

-- ---- no path is longer than there are live things

module _ {P : State} (S : Linked P) where
  same_kind : (k : Kind) (p : ℕ) → count Thing-dec (k, p) (things P k) ≡ alive P (k, p)
  unfolding alive
  same_kind k p = count_map ℕ_discrete Thing-dec (λ m. (k, m)) (λ x y e. ap (λ (a : Thing). a.1) e) p (P.tab k).order

  other_kind : (j k : Kind) (p : ℕ) → kind_code k ≢ kind_code j → count Thing-dec (k, p) (things P j) ≡ 0
  other_kind j k p n = count_none Thing-dec (λ m. (j, m)) (k, p) (λ m e. n (ap (λ (a : Thing). kind_code a.0) e)) (P.tab j).order

  count_all : (x : Thing) → count Thing-dec x (gather (things P) kinds) ≡ alive P x
  unfolding kind_code
  count_all (k, p) = count_gather Thing-dec (k, p) (things P) kinds ∙ go k
    where
      go : (k : Kind) → sum (λ j. count Thing-dec (k, p) (things P j)) kinds ≡ alive P (k, p)
      go op = omega (arith, same_kind op p, other_kind blk op p (λ h. absurd (omega arith)), other_kind reg op p (λ h. absurd (omega arith)), other_kind val op p (λ h. absurd (omega arith)), other_kind usg op p (λ h. absurd (omega arith)))
      go blk = omega (arith, same_kind blk p, other_kind op blk p (λ h. absurd (omega arith)), other_kind reg blk p (λ h. absurd (omega arith)), other_kind val blk p (λ h. absurd (omega arith)), other_kind usg blk p (λ h. absurd (omega arith)))
      go reg = omega (arith, same_kind reg p, other_kind op reg p (λ h. absurd (omega arith)), other_kind blk reg p (λ h. absurd (omega arith)), other_kind val reg p (λ h. absurd (omega arith)), other_kind usg reg p (λ h. absurd (omega arith)))
      go val = omega (arith, same_kind val p, other_kind op val p (λ h. absurd (omega arith)), other_kind blk val p (λ h. absurd (omega arith)), other_kind reg val p (λ h. absurd (omega arith)), other_kind usg val p (λ h. absurd (omega arith)))
      go usg = omega (arith, same_kind usg p, other_kind op usg p (λ h. absurd (omega arith)), other_kind blk usg p (λ h. absurd (omega arith)), other_kind reg usg p (λ h. absurd (omega arith)), other_kind val usg p (λ h. absurd (omega arith)))

  live_once : (x : Thing) → Live P x → alive P x ≡ 1
  unfolding alive
  live_once x h = rises_once (P.tab x.0).num (P.tab x.0).order (S.tabs x.0).rises x.1 h

  -- what lies in something is live
  pub climbs_live : (x y : Thing) → up P y ≡ some x → Live P y
  unfolding up
  climbs_live x y e = ⊎_elim (λ z. absurd (dead_up (nest y.0) z e)) (λ h. h) (zero_or (alive P y))
    where
      dead_up : (k : Option Fam) → alive P y ≡ 0 → up_by (P.own y) k ≡ some x → ⊥
      dead_up none z e = some_none e refl
      dead_up (some f) z e = some_none e (ap outer ((dead_bare S y z).alone f))

  path_short : {y : Thing} (a : Ends (up P) y) → length (path a) ≤ suc (population P)
  unfolding path
  path_short {y} a = ⊎_elim (λ z. dead z a) (λ h. omega (arith, pigeon Thing-dec (path a) (gather (things P) kinds) (path_once a) (λ x i. count_all x ∙ live_once x (path_live S a h x i)))) (zero_or (alive P y))
    where
      dead : {y : Thing} → alive P y ≡ 0 → (a : Ends (up P) y) → length (path a) ≤ suc (population P)
      dead {y} z (Ends.top e) = omega arith
      dead {y} z (Ends.climb {y = x} e c) = absurd (omega (arith, climbs_live x y e))

  path_live_short : {y : Thing} (a : Ends (up P) y) → Live P y → length (path a) ≤ population P
  path_live_short {y} a h = pigeon Thing-dec (path a) (gather (things P) kinds) (path_once a) (λ x i. count_all x ∙ live_once x (path_live S a h x i))

  -- nothing lies deeper than there are live things
  pub depth : (n : ℕ) → population P ≤ n → (x y : Thing) → steps (up P) (suc n) y ≡ some x → ⊥
  depth n h x y e = go (up P y) refl
    where
      go : (o : Option Thing) → up P y ≡ o → ⊥
      go none q = some_none e (steps_top (up P) n y q)
      go (some z) q = omega (arith, steps_path (suc n) x (S.ends y) e, path_live_short (S.ends y) (climbs_live z y q))

  -- ---- the walk

  pub walk_more : (m n : ℕ) (x : Thing) → n ≡ m + suc (population P) → walk_by (kids P) n x ≡ walk P x
  unfolding walk
  walk_more zero n x e = let q : n ≡ suc (population P) = omega arith in ap (λ (k : ℕ). walk_by (kids P) k x) q
  walk_more (suc m) n x e = let q : n ≡ suc (suc (m + population P)) = omega arith in
      ap (λ (k : ℕ). walk_by (kids P) k x) q
      ∙ walk_deep (kids P) (up P) (kids_up S) (suc (m + population P)) x (depth (m + population P) (omega arith) x)
      ∙ walk_more m (suc (m + population P)) x (omega arith)

  -- x, then all in its first child, and so on
  pub walk_eq : (x : Thing) → walk P x ≡ x ∷ gather (walk P) (kids P x)
  unfolding walk
  walk_eq x = sym (walk_deep (kids P) (up P) (kids_up S) (suc (population P)) x (depth (population P) (omega arith) x))

  -- the walk reaches exactly what climbs to its start
  pub walk_climb : (x y : Thing) → count Thing-dec y (walk P x) ≡ count Thing-dec x (path (S.ends y))
  unfolding walk
  walk_climb x y = walk_hits (kids P) (up P) (kids_up S) (suc (population P)) x y ∙ hits_path (suc (population P)) x (S.ends y) (path_short (S.ends y))

  -- each once
  pub walk_once : (x y : Thing) → count Thing-dec y (walk P x) ≤ 1
  walk_once x y = omega (arith, walk_climb x y, path_once (S.ends y) x)

  -- and only the live
  pub walk_live : (x y : Thing) → Live P x → In Thing-dec y (walk P x) → Live P y
  unfolding path
  walk_live x y h i = ⊎_elim (λ z. absurd (dead z (S.ends y) (omega (arith, walk_climb x y)))) (λ h. h) (zero_or (alive P y))
    where
      dead : {y : Thing} → alive P y ≡ 0 → (a : Ends (up P) y) → In Thing-dec x (path a) → ⊥
      dead {y} z (Ends.top e) i = omega (arith, ap (alive P) (tick_pos (Thing-dec x y) (omega arith)))
      dead {y} z (Ends.climb {y = t} e c) i = omega (arith, climbs_live t y e)

  -- so it meets at most as many operations as live: the number that falls
  pub walk_ops : (x : Thing) → Live P x → length (ops_among (walk P x)) ≤ length (P.tab op).order
  unfolding alive
  walk_ops x h =
      pigeon ℕ_discrete (ops_among (walk P x)) (P.tab op).order
      (λ p. omega (arith, count_ops p (walk P x), walk_once x (op, p)))
      (λ p i. rises_once (P.tab op).num (P.tab op).order (S.tabs op).rises p (walk_live x (op, p) h (omega (arith, count_ops p (walk P x)))))

  -- inside: x itself, or what lies in something inside
  pub walk_self : (x : Thing) → count Thing-dec x (walk P x) ≡ 1
  walk_self x = omega (arith, walk_once x x, ap (count Thing-dec x) (walk_eq x), tick_yes (Thing-dec x x) refl)

  same_path : (x : Thing) {a b : Thing} → a ≡ b → (c : Ends (up P) a) (d : Ends (up P) b) → count Thing-dec x (path c) ≡ count Thing-dec x (path d)
  unfolding path
  same_path x {a} {b} p (Ends.top q) (Ends.top r) = rw p
  same_path x {a} {b} p (Ends.top q) (Ends.climb r d) = absurd (some_none r (ap (up P) (sym p) ∙ q))
  same_path x {a} {b} p (Ends.climb q c) (Ends.top r) = absurd (some_none q (ap (up P) p ∙ r))
  same_path x {a} {b} p (Ends.climb q c) (Ends.climb r d) = omega (arith, same_path x (some_inj (sym q ∙ ap (up P) p ∙ r)) c d, ap (λ (t : Thing). tick (Thing-dec x t)) p)

  pub walk_up : (x y z : Thing) → up P y ≡ some z → y ≢ x → count Thing-dec y (walk P x) ≡ count Thing-dec z (walk P x)
  unfolding path
  walk_up x y z e n = walk_climb x y ∙ go (S.ends y) ∙ sym (walk_climb x z)
    where
      go : (a : Ends (up P) y) → count Thing-dec x (path a) ≡ count Thing-dec x (path (S.ends z))
      go (Ends.top q) = absurd (some_none e q)
      go (Ends.climb {y = t} q c) = omega (arith, tick_no (Thing-dec x y) (λ h. n (sym h)), same_path x (some_inj (sym q ∙ e)) c (S.ends z))

  -- what x lies in is not inside it
  pub walk_parent : (x b : Thing) → up P x ≡ some b → count Thing-dec b (walk P x) ≡ 0
  unfolding path
  walk_parent x b e = walk_climb x b ∙ go (S.ends x) (path_once (S.ends x) x)
    where
      go : (a : Ends (up P) x) → count Thing-dec x (path a) ≤ 1 → count Thing-dec x (path (S.ends b)) ≡ 0
      go (Ends.top q) h = absurd (some_none e q)
      go (Ends.climb {y = t} q c) h = omega (arith, tick_yes (Thing-dec x x) refl, same_path x (some_inj (sym q ∙ e)) c (S.ends b))

  pub walk_top : (x y : Thing) → up P y ≡ none → y ≢ x → count Thing-dec y (walk P x) ≡ 0
  unfolding path
  walk_top x y e n = walk_climb x y ∙ go (S.ends y)
    where
      go : (a : Ends (up P) y) → count Thing-dec x (path a) ≡ 0
      go (Ends.top q) = omega (arith, tick_no (Thing-dec x y) (λ h. n (sym h)))
      go (Ends.climb q c) = absurd (some_none q e)

-- the walk is the same in another store with the same children there
pub walk_same : {P Q : State} → Linked P → Linked Q → (x : Thing) → ((y : Thing) → In Thing-dec y (walk P x) → kids Q y ≡ kids P y) → walk Q x ≡ walk P x
walk_same {P} {Q} S T x h =
    sym (walk_more T (suc (population P)) (suc (population P) + suc (population Q)) x refl)
    ∙ walk_agree (kids P) (kids Q) (suc (population P) + suc (population Q)) x (λ y i. h y (omega (arith, ap (count Thing-dec y) e)))
    ∙ e
  where
    e : walk_by (kids P) (suc (population P) + suc (population Q)) x ≡ walk P x
    e = walk_more S (suc (population Q)) (suc (population P) + suc (population Q)) x (omega arith)
