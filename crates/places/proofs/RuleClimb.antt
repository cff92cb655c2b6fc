-- The rules' climb by numbers says yes exactly for what the walk by places reaches. Assumes nothing.
use mathlib.Core.Path.{◌≡◌, refl, sym, ap, ◌∙◌, subst}
use mathlib.Core.Logic.{◌≢◌, by_cases}
use mathlib.Core.Bool.{Bool}
use mathlib.Core.List.{[], ◌∷◌, map}
use mathlib.Core.Option.{Option, none, some}
use native.Mathlib.Decide.{ℕ_discrete}
use native.Mathlib.Omega.{arith}
use Prim.Native.Nat.{ℕ, zero, suc, ◌+◌, ◌≤◌}
use lib.Dec.{eqb}
use lib.ListN.{length, length-map}
use Rattle.seqs.specs.Seqs.{tick, count}
use Rattle.places.specs.Store.{Kind, Kind-dec, op, blk, reg, val, usg, regions, regs, ops_in, blocks_in, holder_of, Thing, Thing-dec, Con, Con-dec, State, alive, Live, Link, Linked, Sound, owns, outer, up, Ends}
use Rattle.places.specs.View.{num, home_by, rec_of, view}
use Rattle.places.specs.Hist.{number, op_of, block_of, hist, the_thing}
use Rattle.places.specs.Walk.{over, pick, sgn, walk}
use Rattle.rules.specs.Table.{some_and, find_key, member}
use Rattle.places.specs.Alias.{RThing}
use Rattle.rules.specs.History.{Operation, History, block_of_op, region_of, parent, block_at, region_at, is_operation, is_block, is_region, region_climb, block_climb, climb, operation_in, block_in, region_in}
use Rattle.seqs.proofs.Base.{tick_yes, tick_no}
use Rattle.places.proofs.Steps.{some_none, thing_eq, up_live, listed}
use Rattle.places.proofs.Sees.{num_inj}
use Rattle.places.proofs.Climb.{path, ops_among, climb_bound}
use Rattle.places.proofs.Fuel.{around, up_around, ops_op, ops_more}
use Rattle.places.proofs.Nest.{kind_code, is_nest, fam_role, hits, hits_path, walk_climb, role_is}
use Rattle.places.proofs.Bits.{bit, or_sum, bit_eqb, sgn_tick, bit_member, key_tabled, tabled_view, find_view, count_nums}

abbrev pub num_opt : State → Option Thing → Option ℕ
num_opt P none = none
num_opt P (some z) = some (num P z)

pub number_home : (P : State) (o : Option Con) → number (home_by (num P) o) ≡ num_opt P (outer o)
number_home P none = refl
number_home P (some c) = refl

-- ---- one step up

module _ {P : State} (S : Sound P) (e : ℕ) where
  abbrev h : History
  h = hist e (view P)

  pub block_at_num : (o : ℕ) → Live P (op, o) → block_at h (num P (op, o)) ≡ num_opt P (up P (op, o))
  unfolding block_at block_of_op hist up rec_of
  block_at_num o l = ap block_of_op (find_view S.linked op op_of o l) ∙ number_home P (P.own (op, o) ops_in)

  pub region_at_num : (b : ℕ) → Live P (blk, b) → region_at h (num P (blk, b)) ≡ num_opt P (up P (blk, b))
  unfolding region_at region_of hist up rec_of
  region_at_num b l = ap region_of (find_view S.linked blk block_of b l) ∙ number_home P (P.own (blk, b) blocks_in)

  module _ (r : ℕ) (l : Live P (reg, r)) where
    c : Con
    c = (S.placed (reg, r) l).0

    at : P.own (reg, r) regs ≡ some c
    unfolding c
    at = (S.placed (reg, r) l).1

    L : Link P (reg, r) regs c
    L = S.linked.link (reg, r) regs c at

    c_is : c ≡ (regions, (op, c.1.1))
    unfolding is_nest fam_role
    c_is = λ i. (role i, (kind i, c.1.1))
      where
        role : c.0 ≡ regions
        role = role_is S.linked (reg, r) regs c refl at

        kind : c.1.0 ≡ op
        kind = L.holder ∙ ap holder_of role

    parent_test : (q : ℕ) → bit (member (num P (reg, r)) (op_of (rec_of P (op, q))).regions) ≡ tick (ℕ_discrete q c.1.1)
    unfolding rec_of owns
    parent_test q =
        bit_member (num P (reg, r)) (map (num P) (P.list (op, q) regions))
        ∙ ap sgn (count_nums S.linked (reg, r) (P.list (op, q) regions) l (λ x i. let M : Link P x regs (regions, (op, q)) = S.linked.link x regs (regions, (op, q)) (listed S.linked x (op, q) regions i) in (M.node, M.live))
        ∙ S.linked.held regions (op, q) (reg, r) ∙ ap (λ (o : Option Con). owns o (regions, (op, q))) at ∙ same)
        ∙ sgn_tick (ℕ_discrete q c.1.1)
      where
        same : tick (Con-dec c (regions, (op, q))) ≡ tick (ℕ_discrete q c.1.1)
        same =
            by_cases (ℕ_discrete q c.1.1)
            (λ p. tick_yes (Con-dec c (regions, (op, q))) (c_is ∙ ap (λ (n : ℕ). (regions, (op, n))) (sym p)) ∙ sym (tick_yes (ℕ_discrete q c.1.1) p))
            (λ n. tick_no (Con-dec c (regions, (op, q))) (λ p. n (sym (ap (λ (d : Con). d.1.1) p))) ∙ sym (tick_no (ℕ_discrete q c.1.1) n))

    pub parent_num : parent h (num P (reg, r)) ≡ num_opt P (up P (reg, r))
    unfolding parent hist up alive
    parent_num =
        ap (find_key (λ (o : Operation). member (num P (reg, r)) o.regions)) (tabled_view P op op_of)
        ∙ key_tabled (λ q. num P (op, q)) (λ q. op_of (rec_of P (op, q))) (λ (o : Operation). member (num P (reg, r)) o.regions) (P.tab op).order c.1.1 (λ q _. parent_test q) (subst (λ (d : Con). Live P d.1) c_is L.home)
        ∙ ap (λ (d : Con). some (num P d.1)) (sym c_is)
        ∙ ap (λ (o : Option Con). num_opt P (outer o)) (sym at)

-- ---- the whole climb

abbrev pub thrice : ℕ → ℕ
thrice zero = zero
thrice (suc n) = suc (suc (suc (thrice n)))

thrice_is : (n : ℕ) → thrice n ≡ n + n + n
thrice_is zero = refl
thrice_is (suc n) = omega (arith, thrice_is n)

unfoldable pub slack : Kind → ℕ
slack = elim [ op ↦ 0 | blk ↦ 2 | reg ↦ 1 | val ↦ 1 | usg ↦ 1 ]

slack_pos : (k : Kind) → k ≢ op → 1 ≤ slack k
unfolding slack
slack_pos op n = absurd (n refl)
slack_pos blk n = omega arith
slack_pos reg n = omega arith
slack_pos val n = omega arith
slack_pos usg n = omega arith

slack_step : (k : Kind) → k ≢ op → k ≢ usg → k ≢ val → suc (slack (around k)) ≤ slack k
unfolding slack around
slack_step op n u v = absurd (n refl)
slack_step blk n u v = omega arith
slack_step reg n u v = omega arith
slack_step val n u v = absurd (v refl)
slack_step usg n u v = absurd (u refl)

-- only operations, blocks and regions lie in something
pub up_nests : (P : State) (y z : Thing) → up P y ≡ some z → (y.0 ≢ usg) × (y.0 ≢ val)
unfolding up kind_code
up_nests P (op, p) z e = (λ h. absurd (omega (arith, ap kind_code h)), λ h. absurd (omega (arith, ap kind_code h)))
up_nests P (blk, p) z e = (λ h. absurd (omega (arith, ap kind_code h)), λ h. absurd (omega (arith, ap kind_code h)))
up_nests P (reg, p) z e = (λ h. absurd (omega (arith, ap kind_code h)), λ h. absurd (omega (arith, ap kind_code h)))
up_nests P (val, p) z e = absurd (some_none e refl)
up_nests P (usg, p) z e = absurd (some_none e refl)

module _ {P : State} (S : Linked P) where
  pub up_kind : (y z : Thing) → up P y ≡ some z → z.0 ≡ around y.0
  up_kind y z e = up_around S y z (up_nests P y z e).0 (up_nests P y z e).1 e

  -- operations, blocks and regions take turns
  path_thrice : {y : Thing} (a : Ends (up P) y) → length (path a) ≤ slack y.0 + thrice (length (ops_among (path a)))
  unfolding path slack around
  path_thrice {y} (Ends.top e) = by_cases (Kind-dec y.0 op) (λ k. omega (arith, ops_op (up P) y [] k, thrice_is (length (ops_among (y ∷ []))))) (λ n. omega (arith, slack_pos y.0 n))
  path_thrice {y} (Ends.climb {y = z} e c) = go (path_thrice c) (Kind-dec y.0 op)
    where
      go : length (path c) ≤ slack z.0 + thrice (length (ops_among (path c))) → Dec (y.0 ≡ op) → suc (length (path c)) ≤ slack y.0 + thrice (length (ops_among (y ∷ path c)))
      go ih (yes k) = omega (arith, ih, ops_op (up P) y (path c) k, thrice_is (length (ops_among (path c))), thrice_is (length (ops_among (y ∷ path c))), ap slack (up_kind y z e ∙ ap around k))
      go ih (no n) = omega (arith, ih, ops_more (up P) y (path c), thrice_is (length (ops_among (path c))), thrice_is (length (ops_among (y ∷ path c))), ap slack (up_kind y z e), slack_step y.0 n (up_nests P y z e).0 (up_nests P y z e).1)

  -- so many steps as thrice the live operations, and two, are enough
  pub enough : (x y : Thing) (n : ℕ) → Live P y → slack y.0 + thrice (length (P.tab op).order) ≤ n → hits (up P) n x y ≡ count Thing-dec y (walk P x)
  enough x y n l h = hits_path n x (S.ends y) (omega (arith, path_thrice (S.ends y), climb_bound S (S.ends y) l, thrice_is (length (ops_among (path (S.ends y)))), thrice_is (length (P.tab op).order))) ∙ sym (walk_climb S x y)

-- ---- the climb from numbers

module _ {P : State} (S : Linked P) where
  same_num : (x y : Thing) → Live P x → x.0 ≡ y.0 → Live P y → bit (eqb (num P x) (num P y)) ≡ sgn (tick (Thing-dec y x))
  same_num x y lx k l =
      bit_eqb (num P x) (num P y)
      ∙ by_cases (Thing-dec y x)
      (λ p. tick_yes (ℕ_discrete (num P x) (num P y)) (sym (ap (num P) p)) ∙ sym (tick_yes (Thing-dec y x) p))
      (λ n. tick_no (ℕ_discrete (num P x) (num P y)) (λ p. n (sym (num_inj P S.tabs x y k lx l p))) ∙ sym (tick_no (Thing-dec y x) n))
      ∙ sym (sgn_tick (Thing-dec y x))

  other_kind : (x y : Thing) → kind_code x.0 ≢ kind_code y.0 → 0 ≡ sgn (tick (Thing-dec y x))
  other_kind x y n = sym (tick_no (Thing-dec y x) (λ p. n (sym (ap (λ (a : Thing). kind_code a.0) p)))) ∙ sym (sgn_tick (Thing-dec y x))

  is_op_num : (x : Thing) → Live P x → kind_code x.0 ≤ 2 → (o : ℕ) → Live P (op, o) → bit (is_operation (the_thing P x) (num P (op, o))) ≡ sgn (tick (Thing-dec (op, o) x))
  unfolding is_operation kind_code
  is_op_num (op, p) lx kx o l = same_num (op, p) (op, o) lx refl l
  is_op_num (blk, p) lx kx o l = other_kind (blk, p) (op, o) (λ h. absurd (omega arith))
  is_op_num (reg, p) lx kx o l = other_kind (reg, p) (op, o) (λ h. absurd (omega arith))
  is_op_num (val, p) lx kx o l = absurd (omega arith)
  is_op_num (usg, p) lx kx o l = absurd (omega arith)

  is_blk_num : (x : Thing) → Live P x → kind_code x.0 ≤ 2 → (b : ℕ) → Live P (blk, b) → bit (is_block (the_thing P x) (num P (blk, b))) ≡ sgn (tick (Thing-dec (blk, b) x))
  unfolding is_block kind_code
  is_blk_num (op, p) lx kx b l = other_kind (op, p) (blk, b) (λ h. absurd (omega arith))
  is_blk_num (blk, p) lx kx b l = same_num (blk, p) (blk, b) lx refl l
  is_blk_num (reg, p) lx kx b l = other_kind (reg, p) (blk, b) (λ h. absurd (omega arith))
  is_blk_num (val, p) lx kx b l = absurd (omega arith)
  is_blk_num (usg, p) lx kx b l = absurd (omega arith)

  is_reg_num : (x : Thing) → Live P x → kind_code x.0 ≤ 2 → (r : ℕ) → Live P (reg, r) → bit (is_region (the_thing P x) (num P (reg, r))) ≡ sgn (tick (Thing-dec (reg, r) x))
  unfolding is_region kind_code
  is_reg_num (op, p) lx kx r l = other_kind (op, p) (reg, r) (λ h. absurd (omega arith))
  is_reg_num (blk, p) lx kx r l = other_kind (blk, p) (reg, r) (λ h. absurd (omega arith))
  is_reg_num (reg, p) lx kx r l = same_num (reg, p) (reg, r) lx refl l
  is_reg_num (val, p) lx kx r l = absurd (omega arith)
  is_reg_num (usg, p) lx kx r l = absurd (omega arith)

module _ {P : State} (S : Sound P) (e : ℕ) (x : Thing) (lx : Live P x) (kx : kind_code x.0 ≤ 2) where
  abbrev hh : History
  hh = hist e (view P)

  abbrev t : RThing
  t = the_thing P x

  -- f says of the live things of kind k what n steps of the climb say
  abbrev Says : Kind → (ℕ → Bool) → ℕ → Type 0
  Says k f n = (p : ℕ) → Live P (k, p) → bit (f (num P (k, p))) ≡ sgn (hits (up P) n x (k, p))

  next : (k j : Kind) (f : ℕ → Bool) (n : ℕ) → Says j f n → around k ≡ j → (p : ℕ) (o : Option Thing) → up P (k, p) ≡ o → bit (some_and (num_opt P o) f) ≡ sgn (over o (hits (up P) n x))
  unfolding some_and pick
  next k j f n says a p none q = refl
  next k j f n says a p (some z) q = subst (λ (y : Thing). bit (f (num P y)) ≡ sgn (hits (up P) n x y)) (sym (thing_eq z (j, z.1) (up_kind S.linked (k, p) z q ∙ a) refl)) (says z.1 (subst (λ (y : Thing). Live P y) (thing_eq z (j, z.1) (up_kind S.linked (k, p) z q ∙ a) refl) (up_live S.linked (k, p) z q)))

  region_says : (f : ℕ → Bool) (n : ℕ) → Says op f n → Says reg (region_climb hh t f) (suc n)
  unfolding region_climb around
  region_says f n says r l =
      or_sum (is_region t (num P (reg, r))) (some_and (parent hh (num P (reg, r))) f) (tick (Thing-dec (reg, r) x)) (over (up P (reg, r)) (hits (up P) n x))
      (is_reg_num S.linked x lx kx r l)
      (ap (λ (o : Option ℕ). bit (some_and o f)) (parent_num S e r l) ∙ next reg op f n says refl r (up P (reg, r)) refl)

  block_says : (f : ℕ → Bool) (n : ℕ) → Says op f n → Says blk (block_climb hh t f) (suc (suc n))
  unfolding block_climb around
  block_says f n says b l =
      or_sum (is_block t (num P (blk, b))) (some_and (region_at hh (num P (blk, b))) (region_climb hh t f)) (tick (Thing-dec (blk, b) x)) (over (up P (blk, b)) (hits (up P) (suc n) x))
      (is_blk_num S.linked x lx kx b l)
      (ap (λ (o : Option ℕ). bit (some_and o (region_climb hh t f))) (region_at_num S e b l) ∙ next blk reg (region_climb hh t f) (suc n) (region_says f n says) refl b (up P (blk, b)) refl)

  climb_says : (d : ℕ) → Says op (climb hh t d) (thrice d)
  unfolding climb around pick
  climb_says zero o l = refl
  climb_says (suc d) o l =
      or_sum (is_operation t (num P (op, o))) (some_and (block_at hh (num P (op, o))) (block_climb hh t (climb hh t d))) (tick (Thing-dec (op, o) x)) (over (up P (op, o)) (hits (up P) (suc (suc (thrice d))) x))
      (is_op_num S.linked x lx kx o l)
      (ap (λ (o : Option ℕ). bit (some_and o (block_climb hh t (climb hh t d)))) (block_at_num S e o l) ∙ next op blk (block_climb hh t (climb hh t d)) (suc (suc (thrice d))) (block_says (climb hh t d) (thrice d) (climb_says d)) refl o (up P (op, o)) refl)

  pub depth_is : length hh.operations ≡ length (P.tab op).order
  unfolding hist
  depth_is = ap length (tabled_view P op op_of) ∙ length-map (P.tab op).order (λ p. (num P (op, p), op_of (rec_of P (op, p))))

  abbrev N : ℕ
  N = length (P.tab op).order

  in_says : Says op (operation_in hh t) (thrice N)
  unfolding operation_in
  in_says o l = ap (λ (d : ℕ). bit (climb hh t d (num P (op, o)))) depth_is ∙ climb_says N o l

  -- the rules' tests are what the walk reaches
  pub operation_in_walk : (o : ℕ) → Live P (op, o) → bit (operation_in hh t (num P (op, o))) ≡ sgn (count Thing-dec (op, o) (walk P x))
  unfolding slack
  operation_in_walk o l = in_says o l ∙ ap sgn (enough S.linked x (op, o) (thrice N) l (omega arith))

  pub block_in_walk : (b : ℕ) → Live P (blk, b) → bit (block_in hh t (num P (blk, b))) ≡ sgn (count Thing-dec (blk, b) (walk P x))
  unfolding slack block_in
  block_in_walk b l = block_says (operation_in hh t) (thrice N) in_says b l ∙ ap sgn (enough S.linked x (blk, b) (suc (suc (thrice N))) l (omega arith))

  pub region_in_walk : (r : ℕ) → Live P (reg, r) → bit (region_in hh t (num P (reg, r))) ≡ sgn (count Thing-dec (reg, r) (walk P x))
  unfolding slack region_in
  region_in_walk r l = region_says (operation_in hh t) (thrice N) in_says r l ∙ ap sgn (enough S.linked x (reg, r) (suc (thrice N)) l (omega arith))
