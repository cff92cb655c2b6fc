-- Erasing by places is the rules' erasing by numbers. Assumes nothing.
use mathlib.Core.Path.{◌≡◌, refl, sym, ap, ◌∙◌}
use mathlib.Core.Logic.{◌≢◌}
use mathlib.Core.Bool.{Bool, true, false, not, cond}
use mathlib.Core.List.{map}
use mathlib.Core.Option.{Option, some}
use native.Mathlib.Decide.{ℕ_discrete}
use native.Mathlib.Omega.{arith}
use Prim.Native.Nat.{ℕ, ◌+◌, ◌≤◌}
use lib.Dec.{eqb}
use lib.ListN.{length}
use Rattle.seqs.specs.Seqs.{count, sum}
use Rattle.places.specs.Store.{Kind, op, blk, reg, val, usg, Role, operands, successors, results, arguments, regions, Fam, slots, vals, regs, fam, node_of, Thing, Thing-dec, Con, State, alive, Live, Link, Linked, Sound, outer, up_by, up, nest}
use Rattle.places.specs.View.{num, rec_of, view}
use Rattle.places.specs.Hist.{tabled, born_of, op_of, block_of, use_of, hist, the_thing}
use Rattle.places.specs.Walk.{over, sgn, sift, place_cut_by, among, walk, drop_list, everything, erased, trim}
use Rattle.rules.specs.Table.{keep_keys, member}
use Rattle.places.specs.Alias.{RThing}
use Rattle.rules.specs.History.{Operation, History, operation_in, block_in, uses_inside, with_operations, end_uses, drop_inside, end_inside}
use Rattle.seqs.proofs.Base.{tick_yes, tick_no, rises_once}
use Rattle.places.proofs.Steps.{listed}
use Rattle.places.proofs.Sees.{num_inj}
use Rattle.places.proofs.Cut.{sift_all, sift_on, Closed}
use Rattle.places.proofs.SeeCut.{map_sift}
use Rattle.places.proofs.Nest.{kind_code, walk_up}
use Rattle.places.proofs.DropAll.{drop_count}
use Rattle.places.proofs.Bits.{bit, bit_eqb, tabled_view}
use Rattle.places.proofs.Tables.{keep_tabled, sum_single_on, cond_true}
use Rattle.places.proofs.RuleClimb.{operation_in_walk, block_in_walk}
use Rattle.places.proofs.RuleDrop.{tabled_cut, defs_left, length_inside}
use Rattle.places.proofs.Outside.{everything_count, no_slot, no_value, not_walked, erased_is}

-- ---- any set of places, by numbers

unfoldable pub by_number : State → (Thing → ℕ) → Kind → ℕ → ℕ
by_number P p k m = sum (λ q. cond (eqb (num P (k, q)) m) (p (k, q)) 0) (P.tab k).order

pub by_number_lem : {P : State} → Linked P → (p : Thing → ℕ) (x : Thing) → Live P x → by_number P p x.0 (num P x) ≡ p x
unfolding by_number alive
by_number_lem {P} S p x l =
    sum_single_on (λ q. cond (eqb (num P (x.0, q)) (num P x)) (p (x.0, q)) 0) (P.tab x.0).order x.1 (rises_once (P.tab x.0).num (P.tab x.0).order (S.tabs x.0).rises x.1 l)
    (λ q i n. none' (eqb (num P (x.0, q)) (num P x)) (p (x.0, q)) (bit_eqb (num P (x.0, q)) (num P x) ∙ tick_no (ℕ_discrete (num P (x.0, q)) (num P x)) (λ e. n (ap (λ (a : Thing). a.1) (num_inj P S.tabs (x.0, q) x refl i l e)))))
    ∙ cond_true (eqb (num P x) (num P x)) (p x) (omega (arith, bit_eqb (num P x) (num P x), tick_yes (ℕ_discrete (num P x) (num P x)) refl))
  where
    none' : (b : Bool) (n : ℕ) → bit b ≡ 0 → cond b n 0 ≡ 0
    none' true n h = absurd (omega arith)
    none' false n h = refl

module _ {P : State} (S : Sound P) (e : ℕ) (x : Thing) (lx : Live P x) (kx : kind_code x.0 ≤ 2) (closed : Closed (among (everything P x)) P) where
  abbrev hh : History
  hh = hist e (view P)

  abbrev t : RThing
  t = the_thing P x

  abbrev E : Thing → ℕ
  E = among (everything P x)

  abbrev W : Thing → ℕ
  W y = count Thing-dec y (walk P x)

  abbrev n : Kind → ℕ → ℕ
  n = by_number P E

  pub same : (y : Thing) → Live P y → sgn (n y.0 (num P y)) ≡ sgn (E y)
  same y l = ap sgn (by_number_lem S.linked E y l)

  -- ---- what is inside, by kind

  pub nest_is : (y : Thing) → kind_code y.0 ≤ 2 → E y ≡ W y
  nest_is y k = omega (arith, everything_count S.linked x y, no_slot S.linked x y (λ h. absurd (omega arith)), no_value S.linked x y (λ h. absurd (omega arith)))

  use_is : (u : Thing) → kind_code u.0 ≡ 4 → E u ≡ among (drop_list P x) u
  use_is u k = omega (arith, everything_count S.linked x u, drop_count S.linked x u, not_walked S.linked x u kx (omega arith), no_value S.linked x u (λ h. absurd (omega arith)))

  -- ---- the lists of what stays

  pub up_at : (f : Fam) (y b : Thing) → nest y.0 ≡ some f → outer (P.own y f) ≡ some b → up P y ≡ some b
  unfolding up
  up_at f y b m q = ap (up_by (P.own y)) m ∙ q

  stays_slot : (b y : Thing) (r : Role) → W b ≡ 0 → P.own y slots ≡ some (r, b) → kind_code y.0 ≡ 4 → E y ≡ 0
  stays_slot b y r w q k = omega (arith, everything_count S.linked x y, not_walked S.linked x y kx (omega arith), no_value S.linked x y (λ h. absurd (omega arith)), ap (λ (o : Option Con). over (outer o) W) q)

  stays_value : (b y : Thing) (r : Role) → W b ≡ 0 → P.own y vals ≡ some (r, b) → kind_code y.0 ≡ 3 → E y ≡ 0
  stays_value b y r w q k = omega (arith, everything_count S.linked x y, not_walked S.linked x y kx (omega arith), no_slot S.linked x y (λ h. absurd (omega arith)), ap (λ (o : Option Con). over (outer o) W) q)

  pub stays_nest : (b y : Thing) → W b ≡ 0 → up P y ≡ some b → y ≢ x → kind_code y.0 ≤ 2 → E y ≡ 0
  stays_nest b y w q d k = omega (arith, nest_is y k, walk_up S.linked x y b q d)

  -- a list of something that stays, by numbers
  pub list_by : (y : Thing) (r : Role) → sift (n (node_of r)) (map (num P) (P.list y r)) ≡ map (num P) (sift E (P.list y r))
  list_by y r = sym (map_sift Thing-dec (num P) E (n (node_of r)) (P.list y r) (λ u i. let M : Link P u (fam r) (r, y) = S.linked.link u (fam r) (r, y) (listed S.linked u y r i) in ap (λ (j : Kind). sgn (n j (num P u))) (sym M.node) ∙ same u M.live))

  slots_stay : (o : ℕ) (r : Role) → fam r ≡ slots → node_of r ≡ usg → W (op, o) ≡ 0 → sift (n (node_of r)) (map (num P) (P.list (op, o) r)) ≡ map (num P) (P.list (op, o) r)
  unfolding kind_code
  slots_stay o r f k w = list_by (op, o) r ∙ ap (map (num P)) (sift_all Thing-dec E (P.list (op, o) r) (λ u i. let q : P.own u (fam r) ≡ some (r, (op, o)) = listed S.linked u (op, o) r i in stays_slot (op, o) u r w (ap (P.own u) (sym f) ∙ q) (ap kind_code ((S.linked.link u (fam r) (r, (op, o)) q).node ∙ k))))

  values_stay : (y : Thing) (r : Role) → fam r ≡ vals → node_of r ≡ val → W y ≡ 0 → sift (n (node_of r)) (map (num P) (P.list y r)) ≡ map (num P) (P.list y r)
  unfolding kind_code
  values_stay y r f k w = list_by y r ∙ ap (map (num P)) (sift_all Thing-dec E (P.list y r) (λ u i. let q : P.own u (fam r) ≡ some (r, y) = listed S.linked u y r i in stays_value y u r w (ap (P.own u) (sym f) ∙ q) (ap kind_code ((S.linked.link u (fam r) (r, y) q).node ∙ k))))

  -- an operation that stays: only its regions may change
  abbrev pub op_kept : ℕ → Operation
  op_kept o = record { results = (op_of (rec_of P (op, o))).results; operands = (op_of (rec_of P (op, o))).operands; successors = (op_of (rec_of P (op, o))).successors; regions = map (num P) (sift E (P.list (op, o) regions)); block = (op_of (rec_of P (op, o))).block }

  pub op_kept_lem : (o : ℕ) → Live P (op, o) → E (op, o) ≡ 0 → op_of (trim n (rec_of P (op, o))) ≡ op_kept o
  unfolding rec_of kind_code
  op_kept_lem o l z = let w : W (op, o) ≡ 0 = omega (arith, z, nest_is (op, o) (omega arith)) in
      λ i. record { results = values_stay (op, o) results refl refl w i; operands = slots_stay o operands refl refl w i; successors = slots_stay o successors refl refl w i; regions = list_by (op, o) regions i; block = (op_of (rec_of P (op, o))).block }

  block_kept : (b : ℕ) → Live P (blk, b) → E (blk, b) ≡ 0 → block_of (trim n (rec_of P (blk, b))) ≡ block_of (rec_of P (blk, b))
  unfolding rec_of kind_code
  block_kept b l z = let w : W (blk, b) ≡ 0 = omega (arith, z, nest_is (blk, b) (omega arith)) in
      λ i. record { arguments = values_stay (blk, b) arguments refl refl w i; region = (block_of (rec_of P (blk, b))).region }

  not_not : (b : Bool) → not (not b) ≡ b
  not_not true = refl
  not_not false = refl

  pub erase_operations : tabled op_of ((view (place_cut_by E P)).things op) ≡ keep_keys (λ m. not (operation_in hh t m)) (map (λ o. (num P (op, o), op_kept o)) (P.tab op).order)
  unfolding alive kind_code
  erase_operations =
      tabled_cut S.linked E closed n same op op_of op_kept op_kept_lem
      ∙ sym (keep_tabled (λ o. num P (op, o)) op_kept (λ m. not (operation_in hh t m)) (λ o. E (op, o)) (P.tab op).order (λ o i. ap sgn (nest_is (op, o) (omega arith)) ∙ sym (operation_in_walk S e x lx kx o i) ∙ ap bit (sym (not_not (operation_in hh t (num P (op, o)))))))

  pub erase_blocks : tabled block_of ((view (place_cut_by E P)).things blk) ≡ keep_keys (λ m. not (block_in hh t m)) (tabled block_of ((view P).things blk))
  unfolding alive kind_code
  erase_blocks =
      tabled_cut S.linked E closed n same blk block_of (λ b. block_of (rec_of P (blk, b))) block_kept
      ∙ sym (ap (keep_keys (λ m. not (block_in hh t m))) (tabled_view P blk block_of)
      ∙ keep_tabled (λ b. num P (blk, b)) (λ b. block_of (rec_of P (blk, b))) (λ m. not (block_in hh t m)) (λ b. E (blk, b)) (P.tab blk).order (λ b i. ap sgn (nest_is (blk, b) (omega arith)) ∙ sym (block_in_walk S e x lx kx b i) ∙ ap bit (sym (not_not (block_in hh t (num P (blk, b)))))))

  pub erase_uses : tabled use_of ((view (place_cut_by E P)).things usg) ≡ keep_keys (λ u. not (member u (uses_inside hh t))) (tabled use_of ((view P).things usg))
  unfolding kind_code
  erase_uses =
      tabled_cut S.linked E closed n same usg use_of (λ u. use_of (rec_of P (usg, u))) (λ u l _. refl)
      ∙ ap (map (λ u. (num P (usg, u), use_of (rec_of P (usg, u))))) (sift_on ℕ_discrete (λ u. E (usg, u)) (λ u. among (drop_list P x) (usg, u)) (P.tab usg).order (λ u _. ap sgn (use_is (usg, u) refl)))
      ∙ sym (defs_left S e x lx kx)

  -- an operation or a block: no operation that stays loses a region
  regions_stay : kind_code x.0 ≤ 1 → (o : ℕ) → E (op, o) ≡ 0 → op_kept o ≡ op_of (rec_of P (op, o))
  unfolding rec_of kind_code
  regions_stay k o z = λ i. record { results = (op_kept o).results; operands = (op_kept o).operands; successors = (op_kept o).successors; regions = map (num P) (all' i); block = (op_kept o).block }
    where
      all' : sift E (P.list (op, o) regions) ≡ P.list (op, o) regions
      all' = sift_all Thing-dec E (P.list (op, o) regions) (λ y i.
          let q : P.own y regs ≡ some (regions, (op, o)) = listed S.linked y (op, o) regions i in
          let j : y.0 ≡ reg = (S.linked.link y regs (regions, (op, o)) q).node in
          stays_nest (op, o) y (omega (arith, z, nest_is (op, o) (omega arith))) (up_at regs y (op, o) (ap nest j) (ap outer q)) (λ p. absurd (omega (arith, ap kind_code j, ap (λ (a : Thing). kind_code a.0) p))) (omega (arith, ap kind_code j)))

  -- kinds 39 and 40
  pub erase_rules : kind_code x.0 ≤ 1 → hist (e + length (drop_list P x)) (view (erased P x)) ≡ end_inside t hh
  unfolding end_inside drop_inside end_uses with_operations hist kind_code alive view place_cut_by
  erase_rules k =
      ap (λ (Q : State). hist (e + length (drop_list P x)) (view Q)) (erased_is P x)
      ∙ (λ i. record { operations = operations' i; blocks = erase_blocks i; uses = erase_uses i; born = born_of (view P); ended = e + sym (length_inside S e x lx kx) i })
    where
      operations' : tabled op_of ((view (place_cut_by E P)).things op) ≡ keep_keys (λ m. not (operation_in hh t m)) (tabled op_of ((view P).things op))
      operations' =
          tabled_cut S.linked E closed n same op op_of (λ o. op_of (rec_of P (op, o))) (λ o l z. op_kept_lem o l z ∙ regions_stay k o z)
          ∙ sym (ap (keep_keys (λ m. not (operation_in hh t m))) (tabled_view P op op_of)
          ∙ keep_tabled (λ o. num P (op, o)) (λ o. op_of (rec_of P (op, o))) (λ m. not (operation_in hh t m)) (λ o. E (op, o)) (P.tab op).order (λ o i. ap sgn (nest_is (op, o) (omega arith)) ∙ sym (operation_in_walk S e x lx kx o i) ∙ ap bit (sym (not_not (operation_in hh t (num P (op, o)))))))
