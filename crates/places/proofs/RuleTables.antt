-- The rules' other tables after a cut: orders, flags, types, by what is live after it. Assumes nothing.
use mathlib.Core.Path.{◌≡◌, refl, sym, ap, ◌∙◌, subst, fun_ext}
use mathlib.Core.Logic.{⊎_elim}
use mathlib.Core.Bool.{Bool, true, false, not, cond}
use mathlib.Core.List.{List, [], ◌∷◌, map}
use native.Mathlib.Omega.{arith}
use Prim.Native.Nat.{ℕ, zero, suc, ◌<◌}
use Rattle.seqs.specs.Seqs.{In}
use Rattle.places.specs.Store.{Kind, op, blk, reg, val, Role, ops, blocks, fam, node_of, Thing, Thing-dec, State, alive, Live, Link, Sound}
use Rattle.places.specs.View.{Rec, num, rec_of, view}
use Rattle.places.specs.Hist.{tabled, hist}
use Rattle.places.specs.Roles.{Unnamed}
use Rattle.places.specs.Walk.{pick, sgn, sift, place_cut_by, trim}
use Rattle.rules.specs.Table.{Table, keep, keep_keys, change_all}
use Rattle.rules.specs.History.{History, live_operation, live_block, live_region, live_value}
use Rattle.seqs.proofs.Base.{in_head, in_tail}
use Rattle.places.proofs.Steps.{thing_eq, listed}
use Rattle.places.proofs.Sees.{num_inj}
use Rattle.places.proofs.Cut.{pick_0, pick_1, zero_or, Closed, cut_sound, live_cut, alive_cut_0}
use Rattle.places.proofs.SeeCut.{map_sift, num_cut}
use Rattle.places.proofs.Bits.{bit, tabled_view}
use Rattle.places.proofs.Tables.{keep_tabled, change_tabled}
use Rattle.places.proofs.RuleDrop.{tabled_cut}
use Rattle.places.proofs.RuleErase.{by_number, by_number_lem}
use Rattle.places.proofs.RuleNames.{operation_live, operation_dead, block_live, block_dead, region_live, region_dead, value_live, value_dead}

keep_on : (t : ℕ → Bool) (p : Thing → ℕ) (nm : Thing → ℕ) (l : List Thing) → ((y : Thing) → In Thing-dec y l → sgn (p y) ≡ bit (not (t (nm y)))) → keep t (map nm l) ≡ map nm (sift p l)
unfolding keep pick
keep_on t p nm [] h = refl
keep_on t p nm (y ∷ l) h = go (keep_on t p nm l (λ z i. h z (in_tail Thing-dec z y l i))) (t (nm y)) (p y) (h y (in_head Thing-dec y l))
  where
    go : keep t (map nm l) ≡ map nm (sift p l) → (b : Bool) (n : ℕ) → sgn n ≡ bit (not b) → cond b (nm y ∷ keep t (map nm l)) (keep t (map nm l)) ≡ map nm (pick n (y ∷ sift p l) (sift p l))
    go ih true zero e = ap {B = List ℕ} (λ r. nm y ∷ r) ih
    go ih true (suc n) e = absurd (omega arith)
    go ih false zero e = absurd (omega arith)
    go ih false (suc n) e = ih

module _ {P : State} (S : Sound P) (p : Thing → ℕ) (closed : Closed p P) (e : ℕ) where
  abbrev Q : State
  Q = place_cut_by p P

  T : Sound Q
  T = cut_sound p P closed S

  abbrev n : Kind → ℕ → ℕ
  n = by_number P p

  same : (y : Thing) → Live P y → sgn (n y.0 (num P y)) ≡ sgn (p y)
  same y l = ap sgn (by_number_lem S.linked p y l)

  abbrev k : History
  k = hist e (view Q)

  num_is : (y : Thing) → p y ≡ 0 → num Q y ≡ num P y
  num_is y z = num_cut S.linked p closed n same y z

  live_in : (y : Thing) → p y ≡ 0 → Live P y → Live Q y
  live_in y z l = omega (arith, l, alive_cut_0 p P y z)

  -- no other thing has the number of one that ended
  unnamed : (j : Kind) (q : ℕ) → Live P (j, q) → 0 < p (j, q) → Unnamed Q j (num P (j, q))
  unnamed j q l h r lr m = let c : (p (j, r) ≡ 0) × Live P (j, r) = live_cut p P (j, r) lr in
      absurd (omega (arith, h, c.0, ap p (num_inj P S.linked.tabs (j, q) (j, r) refl l c.1 (sym m ∙ num_is (j, r) c.0))))

  -- a test that tells which numbers of the kind are live after the cut
  by_test : (j : Kind) (live : ℕ → Bool) → ((q : ℕ) → Live Q (j, q) → live (num Q (j, q)) ≡ true) → ((m : ℕ) → Unnamed Q j m → live m ≡ false) → (q : ℕ) → Live P (j, q) → sgn (p (j, q)) ≡ bit (not (live (num P (j, q))))
  by_test j live on off q l =
      ⊎_elim
      (λ z. pick_0 (p (j, q)) 0 1 z ∙ sym (ap (λ (b : Bool). bit (not b)) (ap live (sym (num_is (j, q) z)) ∙ on q (live_in (j, q) z l))))
      (λ z. pick_1 (p (j, q)) 0 1 z ∙ sym (ap (λ (b : Bool). bit (not b)) (off (num P (j, q)) (unnamed j q l z))))
      (zero_or (p (j, q)))

  pub op_live : (o : ℕ) → Live P (op, o) → sgn (p (op, o)) ≡ bit (not (live_operation k (num P (op, o))))
  op_live = by_test op (live_operation k) (λ q l. operation_live T e q (num Q (op, q)) l refl) (operation_dead T e)

  pub blk_live : (b : ℕ) → Live P (blk, b) → sgn (p (blk, b)) ≡ bit (not (live_block k (num P (blk, b))))
  blk_live = by_test blk (live_block k) (λ q l. block_live T e q (num Q (blk, q)) l refl) (block_dead T e)

  pub reg_live : (r : ℕ) → Live P (reg, r) → sgn (p (reg, r)) ≡ bit (not (live_region k (num P (reg, r))))
  reg_live = by_test reg (live_region k) (λ q l. region_live T e q (num Q (reg, q)) l refl) (region_dead T e)

  pub val_live : (v : ℕ) → Live P (val, v) → sgn (p (val, v)) ≡ bit (not (live_value k (num P (val, v))))
  val_live = by_test val (live_value k) (λ q l. value_live T e q (num Q (val, q)) l refl) (value_dead T e)

  -- ---- the tables

  list_by : (y : Thing) (r : Role) → sift (n (node_of r)) (map (num P) (P.list y r)) ≡ map (num P) (sift p (P.list y r))
  list_by y r = sym (map_sift Thing-dec (num P) p (n (node_of r)) (P.list y r) (λ u i. let M : Link P u (fam r) (r, y) = S.linked.link u (fam r) (r, y) (listed S.linked u y r i) in ap (λ (j : Kind). sgn (n j (num P u))) (sym M.node) ∙ same u M.live))

  at_list : (y : Thing) (r : Role) (t : ℕ → Bool) → ((q : ℕ) → Live P (node_of r, q) → sgn (p (node_of r, q)) ≡ bit (not (t (num P (node_of r, q))))) → (z : Thing) → In Thing-dec z (P.list y r) → sgn (p z) ≡ bit (not (t (num P z)))
  at_list y r t says z i =
      let L : Link P z (fam r) (r, y) = S.linked.link z (fam r) (r, y) (listed S.linked z y r i) in
      let m : z ≡ (node_of r, z.1) = thing_eq z (node_of r, z.1) L.node refl in
      subst (λ (a : Thing). sgn (p a) ≡ bit (not (t (num P a)))) (sym m) (says z.1 (subst (λ (a : Thing). Live P a) m L.live))

  -- a table of lists: what is kept of it, and of its lists
  orders : (j : Kind) (r : Role) (t u : ℕ → Bool) (f : Rec → List ℕ) → ((m : Kind → ℕ → ℕ) (x : Thing) → f (trim m (rec_of P x)) ≡ sift (m (node_of r)) (map (num P) (P.list x r))) → ((x : Thing) → f (rec_of P x) ≡ map (num P) (P.list x r))
      → ((q : ℕ) → Live P (j, q) → sgn (p (j, q)) ≡ bit (not (t (num P (j, q))))) → ((q : ℕ) → Live P (node_of r, q) → sgn (p (node_of r, q)) ≡ bit (not (u (num P (node_of r, q)))))
      → tabled f ((view Q).things j) ≡ change_all (λ _. keep u) (keep_keys t (tabled f ((view P).things j)))
  unfolding alive
  orders j r t u f trimmed plain keeps keeps-in =
      tabled_cut S.linked p closed n same j f (λ q. map (num P) (sift p (P.list (j, q) r))) (λ q l z. trimmed n (j, q) ∙ list_by (j, q) r)
      ∙ sym (ap (λ (l : Table (List ℕ)). change_all (λ _. keep u) (keep_keys t l)) (tabled_view P j f)
      ∙ ap (change_all (λ _. keep u)) (keep_tabled (λ q. num P (j, q)) (λ q. f (rec_of P (j, q))) t (λ q. p (j, q)) (P.tab j).order keeps)
      ∙ change_tabled (λ q. num P (j, q)) (λ q. f (rec_of P (j, q))) (λ _. keep u) (sift (λ q. p (j, q)) (P.tab j).order)
      ∙ ap (λ (g : ℕ → ℕ × List ℕ). map g (sift (λ q. p (j, q)) (P.tab j).order)) (fun_ext λ q. ap (λ (l : List ℕ). (num P (j, q), l)) (ap (keep u) (plain (j, q)) ∙ keep_on u p (num P) (P.list (j, q) r) (at_list (j, q) r u keeps-in))))

  pub ops_of_cut : tabled (λ r. r.lists ops) ((view Q).things blk) ≡ change_all (λ _. keep (live_operation k)) (keep_keys (live_block k) (tabled (λ r. r.lists ops) ((view P).things blk)))
  unfolding rec_of
  ops_of_cut = orders blk ops (live_block k) (live_operation k) (λ r. r.lists ops) (λ m x. refl) (λ x. refl) blk_live op_live

  pub blocks_of_cut : tabled (λ r. r.lists blocks) ((view Q).things reg) ≡ change_all (λ _. keep (live_block k)) (keep_keys (live_region k) (tabled (λ r. r.lists blocks) ((view P).things reg)))
  unfolding rec_of
  blocks_of_cut = orders reg blocks (live_region k) (live_block k) (λ r. r.lists blocks) (λ m x. refl) (λ x. refl) reg_live blk_live

  tags_cut : (j : Kind) (live : ℕ → Bool) → ((q : ℕ) → Live P (j, q) → sgn (p (j, q)) ≡ bit (not (live (num P (j, q))))) → tabled (λ r. r.tag) ((view Q).things j) ≡ keep_keys live (tabled (λ r. r.tag) ((view P).things j))
  unfolding alive
  tags_cut j live says =
      tabled_cut S.linked p closed n same j (λ r. r.tag) (λ q. (rec_of P (j, q)).tag) (λ q l z. refl)
      ∙ sym (ap (keep_keys live) (tabled_view P j (λ r. r.tag)) ∙ keep_tabled (λ q. num P (j, q)) (λ q. (rec_of P (j, q)).tag) live (λ q. p (j, q)) (P.tab j).order says)

  pub flags_cut : tabled (λ r. r.tag) ((view Q).things op) ≡ keep_keys (live_operation k) (tabled (λ r. r.tag) ((view P).things op))
  flags_cut = tags_cut op (live_operation k) op_live

  pub types_cut : tabled (λ r. r.tag) ((view Q).things val) ≡ keep_keys (live_value k) (tabled (λ r. r.tag) ((view P).things val))
  types_cut = tags_cut val (live_value k) val_live
