-- Dropping by places is the rules' dropping by numbers. Assumes nothing.
use mathlib.Core.Path.{◌≡◌, refl, sym, ap, ◌∙◌, subst, fun_ext}
use mathlib.Core.Logic.{◌≢◌, ⊎_elim}
use mathlib.Core.Bool.{Bool, true, false, not, cond}
use mathlib.Core.List.{List, [], map}
use mathlib.Core.Option.{Option, some}
use native.Mathlib.Decide.{ℕ_discrete}
use native.Mathlib.Omega.{arith}
use Prim.Native.Nat.{ℕ, ◌+◌, ◌<◌, ◌≤◌}
use lib.ListN.{length}
use Rattle.seqs.specs.Seqs.{tick, count, In, sum}
use Rattle.places.specs.Store.{Kind, op, blk, reg, val, usg, Role, operands, successors, results, arguments, regions, ops, blocks, slots, fam, node_of, holder_of, Thing, Thing-dec, Con, State, alive, Live, Link, Linked, UseHeld, Sound, outer}
use Rattle.places.specs.View.{Rec, num, rec_of, view}
use Rattle.places.specs.Hist.{tabled, born_of, op_of, block_of, use_of, hist, the_thing}
use Rattle.places.specs.Walk.{over, sgn, sift, place_cut_by, among, walk, place_uses_at, drop_list, dropped, trim}
use Rattle.rules.specs.Table.{change_all, keep_keys, member, gather}
use Rattle.places.specs.Alias.{RThing}
use Rattle.rules.specs.History.{change_slot, History, all_uses_in, operation_in, uses_inside, emptied, with_operations, end_uses, drop_inside}
use Rattle.seqs.proofs.Base.{tick_yes, tick_no, count_append, map_on, map_append, rises_once}
use Rattle.places.proofs.Steps.{thing_eq, listed}
use Rattle.seqs.proofs.Sums.{sum_on, sum_map, length_count, count_map}
use Rattle.places.proofs.Cut.{pick_0, pick_1, zero_or, sift_all, sift_none, sift_in, Closed}
use Rattle.places.proofs.SeeCut.{map_sift, rec_cut, num_cut}
use Rattle.places.proofs.Nest.{kind_code, up_to, walk_once}
use Rattle.places.proofs.DropAll.{uses_closed, uses_at, drop_count, drop_uses, slot_roles, fam_code}
use Rattle.places.proofs.Bits.{bit, sgn_bit, sgn_one, bit_member, tabled_view, count_nums}
use Rattle.places.proofs.Tables.{keep_tabled, change_tabled, count_tabled, sum_single, sum_some, in_mapped}
use Rattle.places.proofs.RuleClimb.{operation_in_walk}

-- the tables of a store with some things cut
module _ {P : State} (S : Linked P) (p : Thing → ℕ) (closed : Closed p P) (n : Kind → ℕ → ℕ) (same : (x : Thing) → Live P x → sgn (n x.0 (num P x)) ≡ sgn (p x)) where
  pub tabled_cut : {A : Type 0} (k : Kind) (f : Rec → A) (g : ℕ → A) → ((o : ℕ) → Live P (k, o) → p (k, o) ≡ 0 → f (trim n (rec_of P (k, o))) ≡ g o)
      → tabled f ((view (place_cut_by p P)).things k) ≡ map (λ o. (num P (k, o), g o)) (sift (λ o. p (k, o)) (P.tab k).order)
  unfolding place_cut_by alive
  tabled_cut {A} k f g h =
      tabled_view (place_cut_by p P) k f
      ∙ map_on ℕ_discrete (λ o. (num (place_cut_by p P) (k, o), f (rec_of (place_cut_by p P) (k, o)))) (λ o. (num P (k, o), g o)) (sift (λ o. p (k, o)) (P.tab k).order)
      (λ o i. let s : (p (k, o) ≡ 0) × In ℕ_discrete o (P.tab k).order = sift_in ℕ_discrete (λ q. p (k, q)) o (P.tab k).order i in
      λ j. (num_cut S p closed n same (k, o) s.0 j, (ap f (rec_cut S p closed n same (k, o) s.0) ∙ h o s.1 s.0) j))

-- an operation's uses: they are live, and the rules have their numbers
module _ {P : State} (S : Linked P) where
  pub live_uses : (y u : Thing) → In Thing-dec u (place_uses_at P y) → (u.0 ≡ usg) × Live P u
  live_uses y u i = ⊎_elim (λ z. from successors (omega (arith, count_append Thing-dec u (P.list y operands) (P.list y successors)))) (λ z. from operands z) (zero_or (count Thing-dec u (P.list y operands)))
    where
      from : (r : Role) → In Thing-dec u (P.list y r) → (u.0 ≡ node_of r) × Live P u
      from r j = let M : Link P u (fam r) (r, y) = S.link u (fam r) (r, y) (listed S u y r j) in (M.node, M.live)

pub listed_uses : (P : State) (q : ℕ) → all_uses_in (op_of (rec_of P (op, q))) ≡ map (num P) (place_uses_at P (op, q))
unfolding all_uses_in rec_of
listed_uses P q = sym (map_append (num P) (P.list (op, q) operands) (P.list (op, q) successors))

module _ {P : State} (S : Sound P) (e : ℕ) (x : Thing) (lx : Live P x) (kx : kind_code x.0 ≤ 2) where
  abbrev hh : History
  hh = hist e (view P)

  abbrev t : RThing
  t = the_thing P x

  abbrev us : List ℕ
  us = uses_inside hh t

  abbrev inside : ℕ → Bool
  inside o = operation_in hh t (num P (op, o))

  -- ---- the uses that the rules end

  us_is : us ≡ gather (operation_in hh t) (λ _ o. all_uses_in o) (map (λ q. (num P (op, q), op_of (rec_of P (op, q)))) (P.tab op).order)
  unfolding uses_inside hist
  us_is = ap (gather (operation_in hh t) (λ _ o. all_uses_in o)) (tabled_view P op op_of)

  counted : (m : ℕ) → count ℕ_discrete m us ≡ sum (λ q. cond (inside q) (count ℕ_discrete m (map (num P) (place_uses_at P (op, q)))) 0) (P.tab op).order
  counted m =
      ap (count ℕ_discrete m) us_is
      ∙ count_tabled (λ q. num P (op, q)) (λ q. op_of (rec_of P (op, q))) ℕ_discrete m (operation_in hh t) (λ _ o. all_uses_in o) (P.tab op).order
      ∙ ap (λ (f : ℕ → ℕ). sum f (P.tab op).order) (fun_ext λ q. ap (λ (l : List ℕ). cond (inside q) (count ℕ_discrete m l) 0) (listed_uses P q))

  -- where the use stands
  module _ (u : ℕ) (lu : Live P (usg, u)) where
    H : UseHeld (P.own (usg, u))
    H = S.placed (usg, u) lu

    z : Thing
    unfolding H
    z = H.slot.1

    stands : outer (P.own (usg, u) slots) ≡ some z
    unfolding H z
    stands = ap outer H.in_slot

    z_op : z.0 ≡ op
    unfolding H z fam_code
    z_op = let M : Link P (usg, u) slots H.slot = S.linked.link (usg, u) slots H.slot H.in_slot in M.holder ∙ ⊎_elim (λ h. ap holder_of h) (λ h. ap holder_of h) (slot_roles H.slot.0 (ap fam_code M.family))

    z_live : Live P (op, z.1)
    unfolding H z
    z_live = subst (λ (y : Thing). Live P y) (thing_eq z (op, z.1) z_op refl) (S.linked.link (usg, u) slots H.slot H.in_slot).home

    at_op : (q : ℕ) → count ℕ_discrete (num P (usg, u)) (map (num P) (place_uses_at P (op, q))) ≡ tick (Thing-dec z (op, q))
    at_op q =
        count_nums S.linked (usg, u) (place_uses_at P (op, q)) lu (live_uses S.linked (op, q))
        ∙ uses_at S.linked (usg, u) (op, q)
        ∙ ap (λ (o : Option Thing). up_to o (op, q)) stands

    cond_0 : (b : Bool) (n : ℕ) → n ≡ 0 → cond b n 0 ≡ 0
    cond_0 true n h = h
    cond_0 false n h = refl

    cond_1 : (b : Bool) (n : ℕ) → n ≡ 1 → cond b n 0 ≡ bit b
    cond_1 true n h = h
    cond_1 false n h = refl

    pub count_inside : count ℕ_discrete (num P (usg, u)) us ≡ count Thing-dec (usg, u) (drop_list P x)
    unfolding alive
    count_inside =
        counted (num P (usg, u))
        ∙ sum_single (λ q. cond (inside q) (count ℕ_discrete (num P (usg, u)) (map (num P) (place_uses_at P (op, q)))) 0) (P.tab op).order z.1
        (rises_once (P.tab op).num (P.tab op).order (S.linked.tabs op).rises z.1 z_live)
        (λ q n. cond_0 (inside q) _ (at_op q ∙ tick_no (Thing-dec z (op, q)) (λ h. n (sym (ap (λ (a : Thing). a.1) h)))))
        ∙ cond_1 (inside z.1) _ (at_op z.1 ∙ tick_yes (Thing-dec z (op, z.1)) (thing_eq z (op, z.1) z_op refl))
        ∙ operation_in_walk S e x lx kx z.1 z_live
        ∙ sgn_one (count Thing-dec (op, z.1) (walk P x)) (walk_once S.linked x (op, z.1))
        ∙ ap (λ (y : Thing). count Thing-dec y (walk P x)) (sym (thing_eq z (op, z.1) z_op refl))
        ∙ ap (λ (o : Option Thing). over o (λ y. count Thing-dec y (walk P x))) (sym stands)
        ∙ sym (drop_count S.linked x (usg, u))

  -- ---- how many

  us_live : (m : ℕ) → In ℕ_discrete m us → (u : ℕ) × (m ≡ num P (usg, u)) × Live P (usg, u)
  us_live m i =
      let a : (q : ℕ) × In ℕ_discrete q (P.tab op).order × (0 < cond (inside q) (count ℕ_discrete m (map (num P) (place_uses_at P (op, q)))) 0) = sum_some ℕ_discrete (λ q. cond (inside q) (count ℕ_discrete m (map (num P) (place_uses_at P (op, q)))) 0) (P.tab op).order (omega (arith, counted m)) in
      let b : (u : Thing) × (m ≡ num P u) × In Thing-dec u (place_uses_at P (op, a.0)) = in_mapped Thing-dec ℕ_discrete (num P) m (place_uses_at P (op, a.0)) (pos (inside a.0) _ a.2) in
      let k : (b.0.0 ≡ usg) × Live P b.0 = live_uses S.linked (op, a.0) b.0 b.2 in
      (b.0.1, b.1 ∙ ap (num P) (thing_eq b.0 (usg, b.0.1) k.0 refl), subst (λ (y : Thing). Live P y) (thing_eq b.0 (usg, b.0.1) k.0 refl) k.1)
    where
      pos : (c : Bool) (n : ℕ) → 0 < cond c n 0 → 0 < n
      pos true n h = h
      pos false n h = absurd (omega arith)

  live_once : (u : ℕ) → Live P (usg, u) → count ℕ_discrete u (P.tab usg).order ≡ 1
  unfolding alive
  live_once u l = rises_once (P.tab usg).num (P.tab usg).order (S.linked.tabs usg).rises u l

  abbrev all : List Thing
  all = map (λ u. (usg, u)) (P.tab usg).order

  all_live : (y : Thing) → In Thing-dec y all → (y.0 ≡ usg) × Live P y
  unfolding alive
  all_live y i = let r : (u : ℕ) × (y ≡ (usg, u)) × In ℕ_discrete u (P.tab usg).order = in_mapped ℕ_discrete Thing-dec (λ u. (usg, u)) y (P.tab usg).order i in
      (ap (λ (a : Thing). a.0) r.1, subst (λ (a : Thing). Live P a) (sym r.1) r.2)

  all_once : (u : ℕ) → Live P (usg, u) → count Thing-dec (usg, u) all ≡ 1
  all_once u l = count_map ℕ_discrete Thing-dec (λ v. (usg, v)) (λ a b q. ap (λ (y : Thing). y.1) q) u (P.tab usg).order ∙ live_once u l

  pub length_inside : length us ≡ length (drop_list P x)
  unfolding alive
  length_inside =
      length_count ℕ_discrete us (map (num P) all) (λ m i. let r : (u : ℕ) × (m ≡ num P (usg, u)) × Live P (usg, u) = us_live m i in
      ap (λ (k : ℕ). count ℕ_discrete k (map (num P) all)) r.1 ∙ count_nums S.linked (usg, r.0) all r.2 all_live ∙ all_once r.0 r.2)
      ∙ sum_map (λ m. count ℕ_discrete m us) (num P) all
      ∙ sum_map (λ y. count ℕ_discrete (num P y) us) (λ u. (usg, u)) (P.tab usg).order
      ∙ sum_on ℕ_discrete (λ u. count ℕ_discrete (num P (usg, u)) us) (λ u. count Thing-dec (usg, u) (drop_list P x)) (P.tab usg).order (λ u i. count_inside u i)
      ∙ sym (sum_map (λ y. count Thing-dec y (drop_list P x)) (λ u. (usg, u)) (P.tab usg).order)
      ∙ sym (length_count Thing-dec (drop_list P x) all (λ y i. let k : y ≡ (usg, y.1) = thing_eq y (usg, y.1) ((drop_uses S.linked x).kind y i) refl in
      ap (λ (a : Thing). count Thing-dec a all) k ∙ all_once y.1 (subst (λ (a : Thing). Live P a) k ((drop_uses S.linked x).live y i))))

  -- ---- the tables

  n_dropped : Kind → ℕ → ℕ
  n_dropped = elim [ op ↦ λ m. 0 | blk ↦ λ m. 0 | reg ↦ λ m. 0 | val ↦ λ m. 0 | usg ↦ λ m. bit (member m us) ]

  not_use : (y : Thing) → kind_code y.0 ≢ 4 → 0 ≡ among (drop_list P x) y
  unfolding kind_code
  not_use y n = ⊎_elim (λ z. sym z) (λ z. absurd (n (ap kind_code ((drop_uses S.linked x).kind y z)))) (zero_or (among (drop_list P x) y))

  same_drop : (y : Thing) → Live P y → sgn (n_dropped y.0 (num P y)) ≡ sgn (among (drop_list P x) y)
  unfolding n_dropped kind_code
  same_drop (op, p) l = ap sgn (not_use (op, p) (λ h. absurd (omega arith)))
  same_drop (blk, p) l = ap sgn (not_use (blk, p) (λ h. absurd (omega arith)))
  same_drop (reg, p) l = ap sgn (not_use (reg, p) (λ h. absurd (omega arith)))
  same_drop (val, p) l = ap sgn (not_use (val, p) (λ h. absurd (omega arith)))
  same_drop (usg, p) l = sgn_bit (member (num P (usg, p)) us) ∙ bit_member (num P (usg, p)) us ∙ ap sgn (count_inside p l)

  abbrev D : Thing → ℕ
  D = among (drop_list P x)

  pub closed_drop : Closed D P
  closed_drop = uses_closed S.linked (drop_list P x) (drop_uses S.linked x).kind

  -- the uses of an operation go all or none
  slot_count : (o : ℕ) (r : Role) → fam r ≡ slots → (u : Thing) → In Thing-dec u (P.list (op, o) r) → D u ≡ count Thing-dec (op, o) (walk P x)
  slot_count o r f u i = drop_count S.linked x u ∙ ap (λ (c : Option Con). over (outer c) (λ y. count Thing-dec y (walk P x))) (ap (P.own u) (sym f) ∙ listed S.linked u (op, o) r i)

  sifted : (o : ℕ) (r : Role) → node_of r ≡ usg → sift (n_dropped (node_of r)) (map (num P) (P.list (op, o) r)) ≡ map (num P) (sift D (P.list (op, o) r))
  sifted o r k = sym (map_sift Thing-dec (num P) D (n_dropped (node_of r)) (P.list (op, o) r) (λ u i. let M : Link P u (fam r) (r, (op, o)) = S.linked.link u (fam r) (r, (op, o)) (listed S.linked u (op, o) r i) in
      ap (λ (j : Kind). sgn (n_dropped j (num P u))) (sym M.node) ∙ same_drop u M.live))

  all_go : (o : ℕ) (r : Role) → fam r ≡ slots → node_of r ≡ usg → 0 < count Thing-dec (op, o) (walk P x) → sift (n_dropped (node_of r)) (map (num P) (P.list (op, o) r)) ≡ []
  all_go o r f k h = sifted o r k ∙ ap (map (num P)) (sift_none Thing-dec D (P.list (op, o) r) (λ u i. omega (arith, slot_count o r f u i)))

  none_go : (o : ℕ) (r : Role) → fam r ≡ slots → node_of r ≡ usg → count Thing-dec (op, o) (walk P x) ≡ 0 → sift (n_dropped (node_of r)) (map (num P) (P.list (op, o) r)) ≡ map (num P) (P.list (op, o) r)
  none_go o r f k h = sifted o r k ∙ ap (map (num P)) (sift_all Thing-dec D (P.list (op, o) r) (λ u i. slot_count o r f u i ∙ h))

  op_entry : (o : ℕ) → Live P (op, o) → op_of (trim n_dropped (rec_of P (op, o))) ≡ cond (inside o) emptied (λ a. a) (op_of (rec_of P (op, o)))
  unfolding rec_of n_dropped emptied change_slot
  op_entry o l = go (inside o) (operation_in_walk S e x lx kx o l)
    where
      plain : (m : List ℕ) → sift (λ _. 0) m ≡ m
      plain m = sift_all ℕ_discrete (λ _. 0) m (λ _ _. refl)

      go : (b : Bool) → bit b ≡ sgn (count Thing-dec (op, o) (walk P x)) → op_of (trim n_dropped (rec_of P (op, o))) ≡ cond b emptied (λ a. a) (op_of (rec_of P (op, o)))
      go true h = let w : 0 < count Thing-dec (op, o) (walk P x) = ⊎_elim (λ q. absurd (omega (arith, pick_0 {A = ℕ} (count Thing-dec (op, o) (walk P x)) 0 1 q))) (λ q. q) (zero_or (count Thing-dec (op, o) (walk P x))) in
          λ i. record { results = plain (map (num P) (P.list (op, o) results)) i; operands = all_go o operands refl refl w i; successors = all_go o successors refl refl w i; regions = plain (map (num P) (P.list (op, o) regions)) i; block = (op_of (rec_of P (op, o))).block }
      go false h = let w : count Thing-dec (op, o) (walk P x) ≡ 0 = ⊎_elim (λ q. q) (λ q. absurd (omega (arith, pick_1 {A = ℕ} (count Thing-dec (op, o) (walk P x)) 0 1 q))) (zero_or (count Thing-dec (op, o) (walk P x))) in
          λ i. record { results = plain (map (num P) (P.list (op, o) results)) i; operands = none_go o operands refl refl w i; successors = none_go o successors refl refl w i; regions = plain (map (num P) (P.list (op, o) regions)) i; block = (op_of (rec_of P (op, o))).block }

  block_entry : (b : ℕ) → block_of (trim n_dropped (rec_of P (blk, b))) ≡ block_of (rec_of P (blk, b))
  unfolding rec_of n_dropped
  block_entry b = λ i. record { arguments = sift_all ℕ_discrete (λ _. 0) (map (num P) (P.list (blk, b) arguments)) (λ _ _. refl) i; region = (block_of (rec_of P (blk, b))).region }

  kind_op : kind_code op ≢ 4
  unfolding kind_code
  kind_op h = absurd (omega arith)

  kind_blk : kind_code blk ≢ 4
  unfolding kind_code
  kind_blk h = absurd (omega arith)

  drop_operations : tabled op_of ((view (place_cut_by D P)).things op) ≡ change_all (λ n. cond (operation_in hh t n) emptied (λ o. o)) (tabled op_of ((view P).things op))
  drop_operations =
      tabled_cut S.linked D closed_drop n_dropped same_drop op op_of (λ o. cond (inside o) emptied (λ a. a) (op_of (rec_of P (op, o)))) (λ o l _. op_entry o l)
      ∙ ap (map (λ o. (num P (op, o), cond (inside o) emptied (λ a. a) (op_of (rec_of P (op, o)))))) (sift_all ℕ_discrete (λ o. D (op, o)) (P.tab op).order (λ o _. sym (not_use (op, o) kind_op)))
      ∙ sym (ap (change_all (λ n. cond (operation_in hh t n) emptied (λ o. o))) (tabled_view P op op_of) ∙ change_tabled (λ o. num P (op, o)) (λ o. op_of (rec_of P (op, o))) (λ n. cond (operation_in hh t n) emptied (λ o. o)) (P.tab op).order)

  drop_blocks : tabled block_of ((view (place_cut_by D P)).things blk) ≡ tabled block_of ((view P).things blk)
  drop_blocks =
      tabled_cut S.linked D closed_drop n_dropped same_drop blk block_of (λ b. block_of (rec_of P (blk, b))) (λ b l _. block_entry b)
      ∙ ap (map (λ b. (num P (blk, b), block_of (rec_of P (blk, b))))) (sift_all ℕ_discrete (λ b. D (blk, b)) (P.tab blk).order (λ b _. sym (not_use (blk, b) kind_blk)))
      ∙ sym (tabled_view P blk block_of)

  -- the orders of operations and blocks stay
  pub drop_ops_of : tabled (λ r. r.lists ops) ((view (place_cut_by D P)).things blk) ≡ tabled (λ r. r.lists ops) ((view P).things blk)
  unfolding rec_of n_dropped
  drop_ops_of =
      tabled_cut S.linked D closed_drop n_dropped same_drop blk (λ r. r.lists ops) (λ b. (rec_of P (blk, b)).lists ops) (λ b l _. sift_all ℕ_discrete (λ _. 0) (map (num P) (P.list (blk, b) ops)) (λ _ _. refl))
      ∙ ap (map (λ b. (num P (blk, b), (rec_of P (blk, b)).lists ops))) (sift_all ℕ_discrete (λ b. D (blk, b)) (P.tab blk).order (λ b _. sym (not_use (blk, b) kind_blk)))
      ∙ sym (tabled_view P blk (λ r. r.lists ops))

  kind_reg : kind_code reg ≢ 4
  unfolding kind_code
  kind_reg h = absurd (omega arith)

  pub drop_blocks_of : tabled (λ r. r.lists blocks) ((view (place_cut_by D P)).things reg) ≡ tabled (λ r. r.lists blocks) ((view P).things reg)
  unfolding rec_of n_dropped
  drop_blocks_of =
      tabled_cut S.linked D closed_drop n_dropped same_drop reg (λ r. r.lists blocks) (λ b. (rec_of P (reg, b)).lists blocks) (λ b l _. sift_all ℕ_discrete (λ _. 0) (map (num P) (P.list (reg, b) blocks)) (λ _ _. refl))
      ∙ ap (map (λ b. (num P (reg, b), (rec_of P (reg, b)).lists blocks))) (sift_all ℕ_discrete (λ b. D (reg, b)) (P.tab reg).order (λ b _. sym (not_use (reg, b) kind_reg)))
      ∙ sym (tabled_view P reg (λ r. r.lists blocks))

  not_not : (b : Bool) → not (not b) ≡ b
  not_not true = refl
  not_not false = refl

  -- the uses that are left
  pub defs_left : keep_keys (λ u. not (member u us)) (tabled use_of ((view P).things usg)) ≡ map (λ u. (num P (usg, u), use_of (rec_of P (usg, u)))) (sift (λ u. D (usg, u)) (P.tab usg).order)
  unfolding alive
  defs_left =
      ap (keep_keys (λ u. not (member u us))) (tabled_view P usg use_of)
      ∙ keep_tabled (λ u. num P (usg, u)) (λ u. use_of (rec_of P (usg, u))) (λ u. not (member u us)) (λ u. D (usg, u)) (P.tab usg).order (λ u i. sym (ap sgn (count_inside u i)) ∙ sym (bit_member (num P (usg, u)) us) ∙ ap bit (sym (not_not (member (num P (usg, u)) us))))

  drop_defs : tabled use_of ((view (place_cut_by D P)).things usg) ≡ keep_keys (λ u. not (member u us)) (tabled use_of ((view P).things usg))
  drop_defs = tabled_cut S.linked D closed_drop n_dropped same_drop usg use_of (λ u. use_of (rec_of P (usg, u))) (λ u l _. refl) ∙ sym defs_left

  -- the whole: what the rules say of dropping
  pub drop_rules : hist (e + length (drop_list P x)) (view (dropped P x)) ≡ drop_inside t hh
  unfolding dropped drop_inside end_uses with_operations hist view place_cut_by
  drop_rules = λ i. record { operations = drop_operations i; blocks = drop_blocks i; uses = drop_defs i; born = born_of (view P); ended = e + sym length_inside i }
