-- A region is erased (kind 41); and how many operations an erasure frees. Assumes nothing.
use mathlib.Core.Path.{◌≡◌, refl, sym, ap, ap₂, ◌∙◌, subst}
use mathlib.Core.Logic.{◌≢◌, by_cases}
use mathlib.Core.Bool.{Bool, true, false, not}
use mathlib.Core.List.{List, [], ◌∷◌, map}
use mathlib.Core.Option.{Option, some}
use native.Mathlib.Decide.{ℕ_discrete}
use native.Mathlib.Omega.{arith}
use Prim.Native.Nat.{ℕ, zero, suc, ◌+◌, ◌<◌, ◌≤◌}
use lib.ListN.{length, length-map, get_or}
use Rattle.seqs.specs.Seqs.{count, In, without, seq_remove_at}
use Rattle.places.specs.Store.{op, reg, regions, regs, Thing, Thing-dec, State, alive, Live, Sound, outer, up, nest}
use Rattle.places.specs.View.{num, rec_of, view}
use Rattle.places.specs.Hist.{tabled, born_of, op_of, hist, the_thing}
use Rattle.places.specs.Walk.{sgn, sift, place_cut_by, among, walk, drop_list, everything, erased}
use Rattle.rules.specs.Table.{Table, keep_keys, change, remove_at}
use Rattle.places.specs.Alias.{RThing}
use Rattle.edit.specs.Record.{the_region, erase_region}
use Rattle.rules.specs.History.{carry_out, Operation, History, regions_of, operation_in, with_operations, end_uses, drop_inside, end_inside, change_regions, region_index}
use Rattle.seqs.proofs.Base.{rises_once}
use Rattle.places.proofs.Steps.{listed, some_inj, once}
use Rattle.places.proofs.Sees.{num_inj}
use Rattle.places.proofs.Climb.{ops_among, count_ops}
use Rattle.seqs.proofs.Sums.{sum_on, length_count}
use Rattle.places.proofs.Extra.{in_at, remove_at_without}
use Rattle.places.proofs.Cut.{pick_0, pick_1, sift_all, sift_on, sift_in, Closed}
use Rattle.places.proofs.Cuts.{one_yes, one_no, without_sift}
use Rattle.places.proofs.Nest.{kind_code, walk_once, walk_live, walk_self, walk_parent}
use Rattle.places.proofs.Bits.{bit, sgn_one, tabled_view, find_view}
use Rattle.places.proofs.Tables.{keep_tabled, change_one, map_remove, length_sift}
use Rattle.places.proofs.RuleClimb.{operation_in_walk}
use Rattle.places.proofs.RuleDrop.{tabled_cut, length_inside}
use Rattle.places.proofs.RuleErase.{by_number, op_kept, same, op_kept_lem, stays_nest, up_at, nest_is, erase_operations, erase_blocks, erase_uses}
use Rattle.places.proofs.Outside.{erased_is}

-- ---- how many operations are freed

module _ {P : State} (S : Sound P) (e : ℕ) (x : Thing) (lx : Live P x) (kx : kind_code x.0 ≤ 2) (closed : Closed (among (everything P x)) P) where
  pub freed : length (hist e (view (erased P x))).operations + length (ops_among (walk P x)) ≡ length (hist e (view P)).operations
  unfolding hist alive kind_code
  freed =
      ap₂ ◌+◌
      (ap (λ (Q : State). length (tabled op_of ((view Q).things op))) (erased_is P x)
      ∙ ap length (tabled_cut S.linked (among (everything P x)) closed (by_number P (among (everything P x))) (same S e x lx kx closed) op op_of (op_kept S e x lx kx closed) (op_kept_lem S e x lx kx closed))
      ∙ length-map (sift (λ o. among (everything P x) (op, o)) (P.tab op).order) (λ o. (num P (op, o), op_kept S e x lx kx closed o)))
      (length_count ℕ_discrete (ops_among (walk P x)) (P.tab op).order (λ p i. rises_once (P.tab op).num (P.tab op).order (S.linked.tabs op).rises p (walk_live S.linked x (op, p) lx (omega (arith, i, count_ops p (walk P x)))))
      ∙ sum_on ℕ_discrete (λ p. count ℕ_discrete p (ops_among (walk P x))) (λ p. sgn (among (everything P x) (op, p))) (P.tab op).order (λ p _. count_ops p (walk P x) ∙ sym (sgn_one (count Thing-dec (op, p) (walk P x)) (walk_once S.linked x (op, p))) ∙ ap sgn (sym (nest_is S e x lx kx closed (op, p) (omega arith)))))
      ∙ length_sift (λ o. among (everything P x) (op, o)) (P.tab op).order
      ∙ sym (ap length (tabled_view P op op_of) ∙ length-map (P.tab op).order (λ o. (num P (op, o), op_of (rec_of P (op, o)))))

-- ---- kind 41

pub index_of : {P : State} (S : Sound P) (e r o i : ℕ) → Live P (op, o) → i < length (P.list (op, o) regions) → get_or (P.list (op, o) regions) i (reg, r) ≡ (reg, r) → region_index (num P (op, o)) i (hist e (view P)) ≡ num P (reg, r)
unfolding region_index regions_of hist rec_of
index_of {P} S e r o i lo inside at = ap (λ (q : Option Operation). get_or (regions_of q) i 0) (find_view S.linked op op_of o lo) ∙ get_d_map (P.list (op, o) regions) i inside ∙ ap (num P) at
  where
    get_d_map : (l : List Thing) (j : ℕ) → j < length l → get_or (map (num P) l) j 0 ≡ num P (get_or l j (reg, r))
    get_d_map [] j h = absurd (omega arith)
    get_d_map (y ∷ l) zero h = refl
    get_d_map (y ∷ l) (suc j) h = get_d_map l j (omega arith)

module _ {P : State} (S : Sound P) (e : ℕ) (r o i : ℕ) (lx : Live P (reg, r)) (lo : Live P (op, o)) (inside : i < length (P.list (op, o) regions)) (at : get_or (P.list (op, o) regions) i (reg, r) ≡ (reg, r)) (closed : Closed (among (everything P (reg, r))) P) where
  abbrev x : Thing
  x = (reg, r)

  abbrev hh : History
  hh = hist e (view P)

  kx : kind_code x.0 ≤ 2
  unfolding kind_code
  kx = omega arith

  kop : kind_code op ≤ 2
  unfolding kind_code
  kop = omega arith

  abbrev E : Thing → ℕ
  E = among (everything P x)

  abbrev rs : List Thing
  rs = P.list (op, o) regions

  in_rs : In Thing-dec x rs
  in_rs = subst (λ (y : Thing). In Thing-dec y rs) at (in_at Thing-dec rs i (reg, r) inside)

  owned : P.own x regs ≡ some (regions, (op, o))
  owned = listed S.linked x (op, o) regions in_rs

  parent_out : E (op, o) ≡ 0
  unfolding up
  parent_out = nest_is S e x lx kx closed (op, o) kop ∙ walk_parent S.linked x (op, o) (ap outer owned)

  region_of : (q : ℕ) (y : Thing) → In Thing-dec y (P.list (op, q) regions) → (y.0 ≡ reg) × (up P y ≡ some (op, q))
  region_of q y j =
      let m : P.own y regs ≡ some (regions, (op, q)) = listed S.linked y (op, q) regions j in
      let k : y.0 ≡ reg = (S.linked.link y regs (regions, (op, q)) m).node in
      (k, up_at S e x lx kx closed regs y (op, q) (ap nest k) (ap outer m))

  others_stay : (q : ℕ) → E (op, q) ≡ 0 → (y : Thing) → In Thing-dec y (P.list (op, q) regions) → y ≢ x → E y ≡ 0
  unfolding kind_code
  others_stay q z y j n = stays_nest S e x lx kx closed (op, q) y (sym (nest_is S e x lx kx closed (op, q) kop) ∙ z) (region_of q y j).1 n (omega (arith, ap kind_code (region_of q y j).0))

  self_goes : 0 < E x
  self_goes = omega (arith, nest_is S e x lx kx closed x kx, walk_self S.linked x)

  -- in the parent's list the gap closes
  only_x : (l : List Thing) → ((y : Thing) → In Thing-dec y l → In Thing-dec y rs) → sift E l ≡ without Thing-dec x l
  only_x l h =
      sift_on Thing-dec E (among (x ∷ [])) l (λ y j. by_cases (Thing-dec y x)
      (λ p. pick_1 (E y) 0 1 (omega (arith, self_goes, ap E p)) ∙ sym (pick_1 (among (x ∷ []) y) 0 1 (one_yes x y p)))
      (λ m. pick_0 (E y) 0 1 (others_stay o parent_out y (h y j) m) ∙ sym (pick_0 (among (x ∷ []) y) 0 1 (one_no x y m))))
      ∙ sym (without_sift Thing-dec x (among (x ∷ [])) (λ y p. one_yes x y p) (λ y m. one_no x y m) l)

  gap : sift E rs ≡ seq_remove_at i rs
  gap = only_x rs (λ y j. j) ∙ sym (remove_at_without Thing-dec rs i (reg, r) inside (ap (λ (y : Thing). count Thing-dec y rs) at ∙ once S.linked x regs (regions, (op, o)) owned) ∙ ap (λ (y : Thing). without Thing-dec y rs) at)

  abbrev kept : ℕ → Operation
  kept q = op_kept S e x lx kx closed q

  parent_entry : kept o ≡ change_regions (remove_at i) (op_of (rec_of P (op, o)))
  unfolding change_regions rec_of
  parent_entry = λ j. record { results = (kept o).results; operands = (kept o).operands; successors = (kept o).successors; regions = (ap (map (num P)) gap ∙ map_remove (num P) i rs) j; block = (kept o).block }

  other_entry : (q : ℕ) → E (op, q) ≡ 0 → q ≢ o → kept q ≡ op_of (rec_of P (op, q))
  unfolding rec_of up
  other_entry q z n = λ j. record { results = (kept q).results; operands = (kept q).operands; successors = (kept q).successors; regions = map (num P) (sift_all Thing-dec E (P.list (op, q) regions) (λ y m. others_stay q z y m (λ p. n (ap (λ (t : Thing). t.1) (some_inj (sym (region_of q y m).1 ∙ ap (up P) p ∙ ap outer owned))))) j); block = (kept q).block }

  abbrev t : RThing
  t = the_thing P x

  abbrev left : List ℕ
  left = sift (λ q. E (op, q)) (P.tab op).order

  not_not : (b : Bool) → not (not b) ≡ b
  not_not true = refl
  not_not false = refl

  kept_keys : {A : Type 0} (g : ℕ → A) → keep_keys (λ m. not (operation_in hh t m)) (map (λ q. (num P (op, q), g q)) (P.tab op).order) ≡ map (λ q. (num P (op, q), g q)) left
  unfolding alive
  kept_keys g = keep_tabled (λ q. num P (op, q)) g (λ m. not (operation_in hh t m)) (λ q. E (op, q)) (P.tab op).order (λ q j. ap sgn (nest_is S e x lx kx closed (op, q) kop) ∙ sym (operation_in_walk S e x lx kx q j) ∙ ap bit (sym (not_not (operation_in hh t (num P (op, q))))))

  operations' : tabled op_of ((view (place_cut_by E P)).things op) ≡ change (num P (op, o)) (change_regions (remove_at i)) (keep_keys (λ m. not (operation_in hh t m)) (tabled op_of ((view P).things op)))
  unfolding alive
  operations' =
      erase_operations S e x lx kx closed
      ∙ kept_keys kept
      ∙ sym (ap (λ (l : Table Operation). change (num P (op, o)) (change_regions (remove_at i)) (keep_keys (λ m. not (operation_in hh t m)) l)) (tabled_view P op op_of)
      ∙ ap (change (num P (op, o)) (change_regions (remove_at i))) (kept_keys (λ q. op_of (rec_of P (op, q))))
      ∙ change_one (λ q. num P (op, q)) (λ q. op_of (rec_of P (op, q))) kept (change_regions (remove_at i)) o left
      (λ q j p. ap (λ (a : Thing). a.1) (num_inj P S.linked.tabs (op, q) (op, o) refl (sift_in ℕ_discrete (λ q. E (op, q)) q (P.tab op).order j).1 lo p))
      parent_entry
      (λ q j n. other_entry q (sift_in ℕ_discrete (λ q. E (op, q)) q (P.tab op).order j).0 n))

  pub region_rules : hist (e + length (drop_list P x)) (view (erased P x)) ≡ carry_out (erase_region (num P (op, o)) i) hh
  unfolding carry_out end_inside drop_inside end_uses with_operations hist view place_cut_by
  region_rules =
      ap (λ (Q : State). hist (e + length (drop_list P x)) (view Q)) (erased_is P x)
      ∙ (λ j. record { operations = operations' j; blocks = erase_blocks S e x lx kx closed j; uses = erase_uses S e x lx kx closed j; born = born_of (view P); ended = e + sym (length_inside S e x lx kx) j })
      ∙ ap (λ (m : ℕ). with_operations (end_inside (the_region m) hh) (change (num P (op, o)) (change_regions (remove_at i)) (end_inside (the_region m) hh).operations)) (sym (index_of S e r o i lo inside at))
