-- The tests behind 13 and 14 by places and marks are the rules' by numbers. Assumes nothing.
use mathlib.Core.Path.{◌≡◌, refl, sym, ap, ap₂, ◌∙◌, subst, fun_ext}
use mathlib.Core.Logic.{◌≢◌, by_cases, ⊎_elim}
use mathlib.Core.Bool.{Bool, cond}
use mathlib.Core.List.{List, [], ◌∷◌, map}
use mathlib.Core.Option.{Option, none, some}
use native.Mathlib.Decide.{ℕ_discrete}
use native.Mathlib.Omega.{arith}
use Prim.Native.Nat.{ℕ, ◌+◌, ◌<◌, ◌≤◌}
use lib.Dec.{eqb}
use lib.ListN.{length}
use Rattle.seqs.specs.Seqs.{tick, count, In, sum}
use Rattle.places.specs.Store.{op, blk, reg, val, usg, Role, value_uses, block_uses, results, arguments, ops, Fam, use_sets, ops_in, fam, node_of, holder_of, Thing, Thing-dec, Con, Con-dec, State, alive, Live, Link, Linked, UseHeld, Fit, Sound, owns, up}
use Rattle.places.specs.View.{num, home_by, rec_of, view}
use Rattle.edit.specs.Record.{Definition, of_value, of_block}
use Rattle.places.specs.Hist.{def_by, def_of, op_of, block_of, use_of, hist, the_thing}
use Rattle.places.specs.Walk.{pick, sgn, sift, among, walk, place_values_at, drop_list, mark_of, stray_at, strays, strays_in, things}
use Rattle.rules.specs.Table.{Table, some_and, find, any, items, keep, concat, gather}
use Rattle.places.specs.Alias.{RThing}
use Rattle.rules.specs.History.{values_at, Operation, Block, History, same_definition, results_of, arguments_of, operation_in, block_in, with_operations, end_uses, drop_inside}
use Rattle.rules.specs.Refusal.{used_outside, definitions_in, direct, meets}
use Rattle.seqs.proofs.Base.{tick_yes, tick_no, rises_once}
use Rattle.places.proofs.Steps.{thing_eq, listed, up_live}
use Rattle.places.proofs.Fuel.{around}
use Rattle.places.proofs.Sees.{num_inj}
use Rattle.seqs.proofs.Sums.{sum_on, sum_map, sum_append, length_count, count_map}
use Rattle.places.proofs.Cut.{zero_or, sift_on, sift_in, count_sift}
use Rattle.places.proofs.Nest.{kind_code, up_to, kids_up, walk_live}
use Rattle.places.proofs.DropTurn.{list_none, kids_blk, values_op, values_blk}
use Rattle.places.proofs.Bits.{bit, or_sum, bit_eqb, sgn_bit, tabled_view, find_view}
use Rattle.places.proofs.Tables.{sum_tabled, items_tabled, sum_kept, bit_any, sum_sift, sum_some, cond_pos, cond_true}
use Rattle.places.proofs.RuleClimb.{num_opt, number_home, up_kind, operation_in_walk, block_in_walk}
use Rattle.places.proofs.RuleDrop.{defs_left}
use Rattle.places.proofs.Outside.{part_sum, Marks, mark_use, sgn_pos, sgn_iff}

-- a definition's number, and its set of uses
pub data IsDef : Role → Type 0 where
  of_val : IsDef value_uses
  of_blk : IsDef block_uses

def_fam : {r : Role} → IsDef r → fam r ≡ use_sets
def_fam IsDef.of_val = refl
def_fam IsDef.of_blk = refl

pub fit_def : {r d : Role} → Fit r d → IsDef d
fit_def Fit.operand = IsDef.of_val
fit_def Fit.successor = IsDef.of_blk

abbrev pub name_of : State → Con → Definition
name_of P c = def_by c.0 (num P c.1)

module _ {P : State} (S : Linked P) where
  pub same_def : (r s : Role) (a b : Thing) → IsDef r → IsDef s → a.0 ≡ holder_of r → b.0 ≡ holder_of s → Live P a → Live P b → bit (same_definition (name_of P (r, a)) (name_of P (s, b))) ≡ tick (Con-dec (s, b) (r, a))
  unfolding same_definition
  same_def r s a b IsDef.of_val IsDef.of_val ka kb la lb = bit_eqb (num P a) (num P b) ∙ by_cases (Thing-dec a b) (λ e. tick_yes (ℕ_discrete (num P a) (num P b)) (ap (num P) e) ∙ sym (tick_yes (Con-dec (value_uses, b) (value_uses, a)) (ap (λ (t : Thing). (value_uses, t)) (sym e)))) (λ n. tick_no (ℕ_discrete (num P a) (num P b)) (λ e. n (num_inj P S.tabs a b (ka ∙ sym kb) la lb e)) ∙ sym (tick_no (Con-dec (value_uses, b) (value_uses, a)) (λ e. n (sym (ap (λ (d : Con). d.1) e)))))
  same_def r s a b IsDef.of_val IsDef.of_blk ka kb la lb = sym (tick_no (Con-dec (block_uses, b) (value_uses, a)) (λ e. let q : block_uses ≡ value_uses = ap (λ (d : Con). d.0) e in absurd (let z : ◌≡◌ {A = ℕ} 0 1 = cc in omega arith)))
  same_def r s a b IsDef.of_blk IsDef.of_val ka kb la lb = sym (tick_no (Con-dec (value_uses, b) (block_uses, a)) (λ e. let q : value_uses ≡ block_uses = ap (λ (d : Con). d.0) e in absurd (let z : ◌≡◌ {A = ℕ} 0 1 = cc in omega arith)))
  same_def r s a b IsDef.of_blk IsDef.of_blk ka kb la lb = bit_eqb (num P a) (num P b) ∙ by_cases (Thing-dec a b) (λ e. tick_yes (ℕ_discrete (num P a) (num P b)) (ap (num P) e) ∙ sym (tick_yes (Con-dec (block_uses, b) (block_uses, a)) (ap (λ (t : Thing). (block_uses, t)) (sym e)))) (λ n. tick_no (ℕ_discrete (num P a) (num P b)) (λ e. n (num_inj P S.tabs a b (ka ∙ sym kb) la lb e)) ∙ sym (tick_no (Con-dec (block_uses, b) (block_uses, a)) (λ e. n (sym (ap (λ (d : Con). d.1) e)))))

use_node : {r : Role} → IsDef r → node_of r ≡ usg
use_node IsDef.of_val = refl
use_node IsDef.of_blk = refl

-- the set of a definition, over the live uses
module _ {P : State} (S : Sound P) where
  -- does the use have this definition?
  pub use_def : (r : Role) (a : Thing) → IsDef r → a.0 ≡ holder_of r → Live P a → (u : ℕ) → Live P (usg, u) → bit (same_definition (name_of P (r, a)) (use_of (rec_of P (usg, u)))) ≡ count Thing-dec (usg, u) (P.list a r)
  unfolding rec_of owns
  use_def r a d k la u lu =
      let H : UseHeld (P.own (usg, u)) = S.placed (usg, u) lu in
      let M : Link P (usg, u) use_sets H.def = S.linked.link (usg, u) use_sets H.def H.in_def in
      ap (λ (o : Option Con). bit (same_definition (name_of P (r, a)) (def_of (home_by (num P) o)))) H.in_def
      ∙ same_def S.linked r H.def.0 a H.def.1 d (fit_def H.fit) k M.holder la M.home
      ∙ ap (λ (o : Option Con). owns o (r, a)) (sym H.in_def)
      ∙ ap (λ (f : Fam). owns (P.own (usg, u) f) (r, a)) (sym (def_fam d))
      ∙ sym (S.linked.held r a (usg, u))

  -- each of the set is live once
  pub set_once : (r : Role) (a : Thing) → IsDef r → (y : Thing) → In Thing-dec y (P.list a r) → count Thing-dec y (things P usg) ≡ 1
  unfolding alive
  set_once r a d y i =
      let L : Link P y (fam r) (r, a) = S.linked.link y (fam r) (r, a) (listed S.linked y a r i) in
      let k : y ≡ (usg, y.1) = thing_eq y (usg, y.1) (L.node ∙ use_node d) refl in
      ap (λ (z : Thing). count Thing-dec z (things P usg)) k
      ∙ count_map ℕ_discrete Thing-dec (λ v. (usg, v)) (λ p q m. ap (λ (z : Thing). z.1) m) y.1 (P.tab usg).order
      ∙ rises_once (P.tab usg).num (P.tab usg).order (S.linked.tabs usg).rises y.1 (subst (λ (z : Thing). Live P z) k L.live)

bit_meets : (h : History) (ds out : List Definition) → bit (meets h ds out) ≡ sgn (sum (λ d. sum (λ d'. bit (same_definition d d')) out) ds)
unfolding meets pick
bit_meets h [] out = refl
bit_meets h (d ∷ ds) out = or_sum (any (same_definition d) out) (meets h ds out) (sum (λ d'. bit (same_definition d d')) out) (sum (λ d. sum (λ d'. bit (same_definition d d')) out) ds) (bit_any (same_definition d) out) (bit_meets h ds out)

module _ {P : State} (S : Sound P) (e : ℕ) (x : Thing) (lx : Live P x) (kx : kind_code x.0 ≤ 2) (mk : ℕ → ℕ) (right : Marks P mk x) where
  abbrev hh : History
  hh = hist e (view P)

  abbrev t : RThing
  t = the_thing P x

  abbrev out : List Definition
  out = used_outside hh t

  abbrev D : Thing → ℕ
  D = among (drop_list P x)

  abbrev F : Definition → ℕ
  F d = sum (λ d'. bit (same_definition d d')) out

  out_is : out ≡ map (λ u. use_of (rec_of P (usg, u))) (sift (λ u. D (usg, u)) (P.tab usg).order)
  unfolding used_outside drop_inside end_uses with_operations hist
  out_is = ap items (defs_left S e x lx kx) ∙ items_tabled (λ u. num P (usg, u)) (λ u. use_of (rec_of P (usg, u))) (sift (λ u. D (usg, u)) (P.tab usg).order)

  -- the uses of a definition from outside
  pub outside_of : (r : Role) (a : Thing) → IsDef r → a.0 ≡ holder_of r → Live P a → F (name_of P (r, a)) ≡ stray_at P mk (r, a)
  unfolding stray_at alive
  outside_of r a d k la =
      ap (sum (λ d'. bit (same_definition (name_of P (r, a)) d'))) out_is
      ∙ sum_map (λ d'. bit (same_definition (name_of P (r, a)) d')) (λ u. use_of (rec_of P (usg, u))) (sift (λ u. D (usg, u)) (P.tab usg).order)
      ∙ sum_on ℕ_discrete (λ u. bit (same_definition (name_of P (r, a)) (use_of (rec_of P (usg, u))))) (λ u. count Thing-dec (usg, u) (P.list a r)) (sift (λ u. D (usg, u)) (P.tab usg).order) (λ u i. use_def S r a d k la u (sift_in ℕ_discrete (λ u. D (usg, u)) u (P.tab usg).order i).1)
      ∙ sum_sift (λ u. count Thing-dec (usg, u) (P.list a r)) (λ u. D (usg, u)) (P.tab usg).order
      ∙ sum_on ℕ_discrete (λ u. pick (D (usg, u)) (count Thing-dec (usg, u) (P.list a r)) 0) (λ u. count Thing-dec (usg, u) (sift D (P.list a r))) (P.tab usg).order (λ u _. sym (count_sift Thing-dec D (usg, u) (P.list a r)))
      ∙ sym (sum_map (λ y. count Thing-dec y (sift D (P.list a r))) (λ u. (usg, u)) (P.tab usg).order)
      ∙ sym (length_count Thing-dec (sift D (P.list a r)) (things P usg) (λ y i. set_once S r a d y (sift_in Thing-dec D y (P.list a r) i).1))
      ∙ ap length (sift_on Thing-dec D (mark_of P mk) (P.list a r) (λ y _. sym (mark_use S.linked x mk right y)))

  -- of the values of a list
  values_out : (y : Thing) (r : Role) → node_of r ≡ val → sum F (map of_value (map (num P) (P.list y r))) ≡ sum (stray_at P mk) (map (λ v. (value_uses, v)) (P.list y r))
  values_out y r k =
      sum_map F of_value (map (num P) (P.list y r))
      ∙ sum_map (λ n. F (of_value n)) (num P) (P.list y r)
      ∙ sum_on Thing-dec (λ v. F (of_value (num P v))) (λ v. stray_at P mk (value_uses, v)) (P.list y r) (λ v i. let L : Link P v (fam r) (r, y) = S.linked.link v (fam r) (r, y) (listed S.linked v y r i) in outside_of value_uses v IsDef.of_val (L.node ∙ k) L.live)
      ∙ sym (sum_map (stray_at P mk) (λ v. (value_uses, v)) (P.list y r))

  no_blocks : (y : Thing) → kind_code y.0 ≢ 1 → stray_at P mk (block_uses, y) ≡ 0
  unfolding stray_at kind_code
  no_blocks y n = ap (λ (l : List Thing). length (sift (mark_of P mk) l)) (list_none S.linked y block_uses n)

  op_out : (o : ℕ) → sum F (map of_value (op_of (rec_of P (op, o))).results) ≡ strays P mk (op, o)
  unfolding rec_of strays kind_code
  op_out o =
      values_out (op, o) results refl
      ∙ ap (λ (l : List Thing). sum (stray_at P mk) (map (λ v. (value_uses, v)) l)) (sym (values_op S.linked o))
      ∙ omega (arith, no_blocks (op, o) (λ h. absurd (omega arith)))

  blk_out : (b : ℕ) → Live P (blk, b) → F (of_block (num P (blk, b))) + sum F (map of_value (block_of (rec_of P (blk, b))).arguments) ≡ strays P mk (blk, b)
  unfolding rec_of strays
  blk_out b l = ap₂ ◌+◌ (outside_of block_uses (blk, b) IsDef.of_blk refl l) (values_out (blk, b) arguments refl ∙ ap (λ (m : List Thing). sum (stray_at P mk) (map (λ v. (value_uses, v)) m)) (sym (values_blk S.linked b)))

  -- ---- 14: anything inside

  abbrev in_b : ℕ → Bool
  in_b b = block_in hh t (num P (blk, b))

  abbrev in_o : ℕ → Bool
  in_o o = operation_in hh t (num P (op, o))

  defs_sum : sum F (definitions_in hh t) ≡ sum (λ b. cond (in_b b) (strays P mk (blk, b)) 0) (P.tab blk).order + sum (λ o. cond (in_o o) (strays P mk (op, o)) 0) (P.tab op).order
  unfolding definitions_in hist alive
  defs_sum =
      sum_append F (gather (block_in hh t) (λ n (b : Block). of_block n ∷ map of_value b.arguments) hh.blocks) (gather (operation_in hh t) (λ n (o : Operation). map of_value o.results) hh.operations)
      ∙ ap₂ ◌+◌
      (ap (λ (l : Table Block). sum F (gather (block_in hh t) (λ n (b : Block). of_block n ∷ map of_value b.arguments) l)) (tabled_view P blk block_of)
      ∙ sum_tabled (λ b. num P (blk, b)) (λ b. block_of (rec_of P (blk, b))) F (block_in hh t) (λ n (b : Block). of_block n ∷ map of_value b.arguments) (P.tab blk).order
      ∙ sum_on ℕ_discrete (λ b. cond (in_b b) (F (of_block (num P (blk, b))) + sum F (map of_value (block_of (rec_of P (blk, b))).arguments)) 0) (λ b. cond (in_b b) (strays P mk (blk, b)) 0) (P.tab blk).order (λ b i. ap (λ (n : ℕ). cond (in_b b) n 0) (blk_out b i)))
      (ap (λ (l : Table Operation). sum F (gather (operation_in hh t) (λ n (o : Operation). map of_value o.results) l)) (tabled_view P op op_of)
      ∙ sum_tabled (λ o. num P (op, o)) (λ o. op_of (rec_of P (op, o))) F (operation_in hh t) (λ n (o : Operation). map of_value o.results) (P.tab op).order
      ∙ sum_on ℕ_discrete (λ o. cond (in_o o) (sum F (map of_value (op_of (rec_of P (op, o))).results)) 0) (λ o. cond (in_o o) (strays P mk (op, o)) 0) (P.tab op).order (λ o i. ap (λ (n : ℕ). cond (in_o o) n 0) (op_out o)))

  abbrev W : Thing → ℕ
  W y = count Thing-dec y (walk P x)

  to : 0 < sum (λ b. cond (in_b b) (strays P mk (blk, b)) 0) (P.tab blk).order + sum (λ o. cond (in_o o) (strays P mk (op, o)) 0) (P.tab op).order → 0 < strays_in P mk x
  unfolding strays_in alive
  to h =
      ⊎_elim
      (λ z. let s : (o : ℕ) × In ℕ_discrete o (P.tab op).order × (0 < cond (in_o o) (strays P mk (op, o)) 0) = sum_some ℕ_discrete (λ o. cond (in_o o) (strays P mk (op, o)) 0) (P.tab op).order (omega arith) in
      let c : (0 < bit (in_o s.0)) × (0 < strays P mk (op, s.0)) = cond_pos (in_o s.0) (strays P mk (op, s.0)) s.2 in
      omega (arith, c.1, part_sum Thing-dec (strays P mk) (walk P x) (op, s.0) (sgn_pos (bit (in_o s.0)) (W (op, s.0)) (sgn_bit (in_o s.0) ∙ operation_in_walk S e x lx kx s.0 s.1) c.0)))
      (λ z. let s : (b : ℕ) × In ℕ_discrete b (P.tab blk).order × (0 < cond (in_b b) (strays P mk (blk, b)) 0) = sum_some ℕ_discrete (λ b. cond (in_b b) (strays P mk (blk, b)) 0) (P.tab blk).order z in
      let c : (0 < bit (in_b s.0)) × (0 < strays P mk (blk, s.0)) = cond_pos (in_b s.0) (strays P mk (blk, s.0)) s.2 in
      omega (arith, c.1, part_sum Thing-dec (strays P mk) (walk P x) (blk, s.0) (sgn_pos (bit (in_b s.0)) (W (blk, s.0)) (sgn_bit (in_b s.0) ∙ block_in_walk S e x lx kx s.0 s.1) c.0)))
      (zero_or (sum (λ b. cond (in_b b) (strays P mk (blk, b)) 0) (P.tab blk).order))

  no_strays : (y : Thing) → kind_code y.0 ≢ 0 → kind_code y.0 ≢ 1 → strays P mk y ≡ 0
  unfolding strays kind_code
  no_strays y m n = omega (arith, no_blocks y n, ap (λ (l : List Thing). sum (stray_at P mk) (map (λ v. (value_uses, v)) l)) none')
    where
      none' : place_values_at P y ≡ []
      none' = rw (list_none S.linked y results m, list_none S.linked y arguments n)

  at_thing : (y : Thing) → 0 < W y → 0 < strays P mk y → 0 < sum (λ b. cond (in_b b) (strays P mk (blk, b)) 0) (P.tab blk).order + sum (λ o. cond (in_o o) (strays P mk (op, o)) 0) (P.tab op).order
  unfolding alive kind_code
  at_thing (op, o) w h =
      let l : Live P (op, o) = walk_live S.linked x (op, o) lx w in
      omega (arith, h, part_sum ℕ_discrete (λ o. cond (in_o o) (strays P mk (op, o)) 0) (P.tab op).order o l, cond_true (in_o o) (strays P mk (op, o)) (sgn_pos (W (op, o)) (bit (in_o o)) (sym (sgn_bit (in_o o) ∙ operation_in_walk S e x lx kx o l)) w))
  at_thing (blk, b) w h =
      let l : Live P (blk, b) = walk_live S.linked x (blk, b) lx w in
      omega (arith, h, part_sum ℕ_discrete (λ b. cond (in_b b) (strays P mk (blk, b)) 0) (P.tab blk).order b l, cond_true (in_b b) (strays P mk (blk, b)) (sgn_pos (W (blk, b)) (bit (in_b b)) (sym (sgn_bit (in_b b) ∙ block_in_walk S e x lx kx b l)) w))
  at_thing (reg, r) w h = absurd (omega (arith, h, no_strays (reg, r) (λ q. absurd (omega arith)) (λ q. absurd (omega arith))))
  at_thing (val, r) w h = absurd (omega (arith, h, no_strays (val, r) (λ q. absurd (omega arith)) (λ q. absurd (omega arith))))
  at_thing (usg, r) w h = absurd (omega (arith, h, no_strays (usg, r) (λ q. absurd (omega arith)) (λ q. absurd (omega arith))))

  from : 0 < strays_in P mk x → 0 < sum (λ b. cond (in_b b) (strays P mk (blk, b)) 0) (P.tab blk).order + sum (λ o. cond (in_o o) (strays P mk (op, o)) 0) (P.tab op).order
  unfolding strays_in
  from h = let s : (y : Thing) × In Thing-dec y (walk P x) × (0 < strays P mk y) = sum_some Thing-dec (strays P mk) (walk P x) h in at_thing s.0 s.1 s.2

  -- the rules' test for 14 (and, for kind 41, the only one)
  pub deeper : bit (meets hh (definitions_in hh t) out) ≡ sgn (strays_in P mk x)
  deeper = bit_meets hh (definitions_in hh t) out ∙ ap sgn defs_sum ∙ sgn_iff (sum (λ b. cond (in_b b) (strays P mk (blk, b)) 0) (P.tab blk).order + sum (λ o. cond (in_o o) (strays P mk (op, o)) 0) (P.tab op).order) (strays_in P mk x) to from

  -- ---- 13: the operation's results; the block, its arguments and its operations' results

  pub direct_op : (o : ℕ) → Live P (op, o) → bit (meets hh (map of_value (results_of (find hh.operations (num P (op, o))))) out) ≡ sgn (strays P mk (op, o))
  unfolding results_of hist
  direct_op o l = ap (λ (q : Option Operation). bit (meets hh (map of_value (results_of q)) out)) (find_view S.linked op op_of o l) ∙ bit_meets hh (map of_value (op_of (rec_of P (op, o))).results) out ∙ ap sgn (op_out o)

  module _ (b : ℕ) (lb : Live P (blk, b)) where
    abbrev here : ℕ → Bool
    here o = some_and (op_of (rec_of P (op, o))).block (eqb (num P (blk, b)))

    here_is : (o : ℕ) → bit (here o) ≡ count Thing-dec (op, o) (P.list (blk, b) ops)
    unfolding rec_of up some_and around
    here_is o =
        ap (λ (q : Option ℕ). bit (some_and q (eqb (num P (blk, b))))) (number_home P (P.own (op, o) ops_in))
        ∙ go (up P (op, o)) refl
        ∙ sym (kids_up S.linked (blk, b) (op, o))
        ∙ ap (count Thing-dec (op, o)) (kids_blk S.linked b)
      where
        go : (q : Option Thing) → up P (op, o) ≡ q → bit (some_and (num_opt P q) (eqb (num P (blk, b)))) ≡ up_to q (blk, b)
        go none h = refl
        go (some z) h =
            bit_eqb (num P (blk, b)) (num P z)
            ∙ by_cases (Thing-dec z (blk, b))
            (λ m. tick_yes (ℕ_discrete (num P (blk, b)) (num P z)) (ap (num P) (sym m)) ∙ sym (tick_yes (Thing-dec z (blk, b)) m))
            (λ n. tick_no (ℕ_discrete (num P (blk, b)) (num P z)) (λ m. n (sym (num_inj P S.linked.tabs (blk, b) z (sym (up_kind S.linked (op, o) z h)) lb (up_live S.linked (op, o) z h) m))) ∙ sym (tick_no (Thing-dec z (blk, b)) n))

    abbrev inside_sum : ℕ
    inside_sum = sum (λ o. cond (here o) (strays P mk (op, o)) 0) (P.tab op).order

    direct_sum : sum F (direct hh (num P (blk, b))) ≡ strays P mk (blk, b) + inside_sum
    unfolding direct values_at arguments_of hist
    direct_sum =
        ap (λ (n : ℕ). F (of_block (num P (blk, b))) + n)
        (sum_append F (map of_value (arguments_of (find hh.blocks (num P (blk, b))))) (concat (map (λ (o : Operation). map of_value o.results) (keep (λ (o : Operation). some_and o.block (eqb (num P (blk, b)))) (items hh.operations))))
        ∙ ap₂ ◌+◌
        (ap (λ (q : Option Block). sum F (map of_value (arguments_of q))) (find_view S.linked blk block_of b lb))
        (ap (λ (l : List Operation). sum F (concat (map (λ (o : Operation). map of_value o.results) (keep (λ (o : Operation). some_and o.block (eqb (num P (blk, b)))) l)))) (ap items (tabled_view P op op_of) ∙ items_tabled (λ o. num P (op, o)) (λ o. op_of (rec_of P (op, o))) (P.tab op).order)
        ∙ sum_kept F (λ (o : Operation). some_and o.block (eqb (num P (blk, b)))) (λ (o : Operation). map of_value o.results) (λ o. op_of (rec_of P (op, o))) (P.tab op).order
        ∙ ap (λ (f : ℕ → ℕ). sum f (P.tab op).order) (fun_ext λ o. ap (λ (n : ℕ). cond (here o) n 0) (op_out o))))
        ∙ omega (arith, blk_out b lb)

    to_b : 0 < strays P mk (blk, b) + inside_sum → 0 < strays P mk (blk, b) + sum (strays P mk) (P.list (blk, b) ops)
    to_b h =
        ⊎_elim
        (λ z. omega arith)
        (λ z. let s : (o : ℕ) × In ℕ_discrete o (P.tab op).order × (0 < cond (here o) (strays P mk (op, o)) 0) = sum_some ℕ_discrete (λ o. cond (here o) (strays P mk (op, o)) 0) (P.tab op).order z in
        let c : (0 < bit (here s.0)) × (0 < strays P mk (op, s.0)) = cond_pos (here s.0) (strays P mk (op, s.0)) s.2 in
        omega (arith, c.1, part_sum Thing-dec (strays P mk) (P.list (blk, b) ops) (op, s.0) (omega (arith, c.0, here_is s.0))))
        (zero_or inside_sum)

    from_b : 0 < strays P mk (blk, b) + sum (strays P mk) (P.list (blk, b) ops) → 0 < strays P mk (blk, b) + inside_sum
    unfolding alive
    from_b h =
        ⊎_elim
        (λ z. omega arith)
        (λ z. let s : (y : Thing) × In Thing-dec y (P.list (blk, b) ops) × (0 < strays P mk y) = sum_some Thing-dec (strays P mk) (P.list (blk, b) ops) z in
        let L : Link P s.0 ops_in (ops, (blk, b)) = S.linked.link s.0 ops_in (ops, (blk, b)) (listed S.linked s.0 (blk, b) ops s.1) in
        let k : s.0 ≡ (op, s.0.1) = thing_eq s.0 (op, s.0.1) L.node refl in
        omega (arith, s.2, ap (strays P mk) k, part_sum ℕ_discrete (λ o. cond (here o) (strays P mk (op, o)) 0) (P.tab op).order s.0.1 (subst (λ (y : Thing). Live P y) k L.live), cond_true (here s.0.1) (strays P mk (op, s.0.1)) (omega (arith, s.1, here_is s.0.1, ap (λ (y : Thing). count Thing-dec y (P.list (blk, b) ops)) k))))
        (zero_or (sum (strays P mk) (P.list (blk, b) ops)))

    pub direct_blk : bit (meets hh (direct hh (num P (blk, b))) out) ≡ sgn (strays P mk (blk, b) + sum (strays P mk) (P.list (blk, b) ops))
    direct_blk = bit_meets hh (direct hh (num P (blk, b))) out ∙ ap sgn direct_sum ∙ sgn_iff (strays P mk (blk, b) + inside_sum) (strays P mk (blk, b) + sum (strays P mk) (P.list (blk, b) ops)) to_b from_b
