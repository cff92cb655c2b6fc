-- Verdicts by places are the rules' verdicts by numbers. Assumes nothing.
use mathlib.Core.Path.{◌≡◌, refl, sym, ap, ap₂, ◌∙◌, subst}
use mathlib.Core.Logic.{by_cases, ⊎_elim}
use mathlib.Core.HLevel.{Discrete}
use mathlib.Core.Bool.{Bool, true, false, not, cond, ◌&&◌, ◌||◌}
use mathlib.Core.List.{List, [], ◌∷◌, map}
use mathlib.Core.Option.{Option, none, some}
use native.Mathlib.Decide.{ℕ_discrete}
use native.Mathlib.Omega.{arith}
use Prim.Native.Nat.{ℕ, zero, suc, ◌<◌, ◌%◌}
use lib.Dec.{eqb, leb}
use lib.ListN.{length, length-map}
use Rattle.seqs.specs.Seqs.{tick, In, sum}
use Rattle.places.specs.Store.{Kind, op, blk, reg, usg, Role, successors, block_uses, regions, ops, blocks, slots, use_sets, ops_in, fam, node_of, holder_of, Thing, Thing-dec, Con, Con-dec, State, alive, Live, Link, UseHeld, Fit, Sound, outer, up}
use Rattle.places.specs.View.{num, home_by, rec_of, view}
use Rattle.edit.specs.Record.{Definition, of_block}
use Rattle.places.specs.Hist.{def_of, op_of, use_of, hist, orders_of, rule_state}
use Rattle.places.specs.Walk.{sgn}
use Rattle.rules.specs.Table.{Table, some_and, find, find_key, is_some, any, items, remake, member, last_of, last_item, has_next}
use Rattle.rules.specs.History.{Operation, Block, History, same_definition, region_at, region_of, parent}
use Rattle.places.specs.Alias.{RState}
use Rattle.edit.specs.Answer.{Reply, clean, refuse, found}
use Rattle.rules.specs.Verdict.{is_clean, first_met, Seen, Sight, target, sight, flat, seen_block, seen_regions, is_terminator, may_lack, ends_well, names_block, leads_to, stray_user, lost_pred, in_block, block_verdict_by, region_verdict_by, too_early, operation_verdict}
use Rattle.rules.specs.Orders.{list_at, or_empty}
use Rattle.rules.specs.State.{number_at, or_zero}
use Rattle.places.specs.Verdict.{as_bool, place_first_met, last_thing, follows, is_held_by, terminates, lackable, place_ends_well, place_names_block, place_leads_to, place_stray_user, place_lost_pred, place_in_block, place_block_verdict, place_region_verdict, place_too_early, op_verdict}
use Rattle.seqs.proofs.Base.{tick_yes, tick_no, tick_pos, in_head, in_tail}
use Rattle.places.proofs.Steps.{some_inj, some_none, thing_eq, listed, once, up_live}
use Rattle.places.proofs.Sees.{num_inj}
use Rattle.places.proofs.Fuel.{around}
use Rattle.places.proofs.Cut.{pick_0, pick_1, zero_or}
use Rattle.places.proofs.Bits.{bit, bit_eqb, bit_true, tabled_view, find_tabled, find_view}
use Rattle.places.proofs.Tables.{bit_any, sum_some, items_tabled}
use Rattle.places.proofs.Outside.{part_sum}
use Rattle.places.proofs.RuleClimb.{num_opt, number_home, up_kind, region_at_num, parent_num}
use Rattle.places.proofs.RuleOutside.{IsDef, fit_def, name_of, same_def}

-- ---- tests and lists

pub bit_inj : (a b : Bool) → bit a ≡ bit b → a ≡ b
bit_inj true true e = refl
bit_inj true false e = absurd (omega arith)
bit_inj false true e = absurd (omega arith)
bit_inj false false e = refl

bit_as {ℓ} : {A : Type ℓ} (w : Dec A) → bit (as_bool w) ≡ tick w
unfolding tick
bit_as (yes e) = refl
bit_as (no n) = refl

any_on : (f : ℕ → Bool) (g : Thing → Bool) (nm : Thing → ℕ) (l : List Thing) → ((y : Thing) → In Thing-dec y l → f (nm y) ≡ g y) → any f (map nm l) ≡ any g l
unfolding any
any_on f g nm [] h = refl
any_on f g nm (y ∷ l) h = ap₂ ◌||◌ (h y (in_head Thing-dec y l)) (any_on f g nm l (λ z i. h z (in_tail Thing-dec z y l i)))

met_on : (f : ℕ → Reply) (g : Thing → Reply) (nm : Thing → ℕ) (l : List Thing) → ((y : Thing) → In Thing-dec y l → f (nm y) ≡ g y) → first_met f (map nm l) ≡ place_first_met g l
unfolding first_met
met_on f g nm [] h = refl
met_on f g nm (y ∷ l) h = ap₂ {C = Reply} (λ (r m : Reply). elim (is_clean r) [ true ↦ m | false ↦ r ]) (h y (in_head Thing-dec y l)) (met_on f g nm l (λ z i. h z (in_tail Thing-dec z y l i)))

module _ (P : State) where
  last_num : (l : List Thing) → last_item (map (num P) l) ≡ num_opt P (last_thing l)
  unfolding last_item last_of
  last_num [] = refl
  last_num (x ∷ []) = refl
  last_num (x ∷ y ∷ l) = last_num (y ∷ l)

  last_in_lem : (l : List Thing) (z : Thing) → last_thing l ≡ some z → In Thing-dec z l
  last_in_lem [] z e = absurd (some_none e refl)
  last_in_lem (x ∷ []) z e = rw (some_inj e) (in_head Thing-dec z [])
  last_in_lem (x ∷ y ∷ l) z e = in_tail Thing-dec z x (y ∷ l) (last_in_lem (y ∷ l) z e)

  some_num : (o : Option Thing) (f : ℕ → Bool) (g : Thing → Bool) → ((z : Thing) → o ≡ some z → f (num P z) ≡ g z) → some_and (num_opt P o) f ≡ some_and o g
  unfolding some_and
  some_num none f g h = refl
  some_num (some z) f g h = h z refl

  is_some_num : (o : Option Thing) → is_some (num_opt P o) ≡ is_some o
  unfolding is_some
  is_some_num none = refl
  is_some_num (some z) = refl

-- ---- tables made anew

remake_tabled : {A B : Type 0} (f : ℕ → A → B) (nm : ℕ → ℕ) (g : ℕ → A) (l : List ℕ) → remake f (map (λ q. (nm q, g q)) l) ≡ map (λ q. (nm q, f (nm q) (g q))) l
unfolding remake
remake_tabled f nm g [] = refl
remake_tabled {B} f nm g (q ∷ l) = ap {B = Table B} (λ r. (nm q, f (nm q) (g q)) ∷ r) (remake_tabled f nm g l)

key_remake : {A B : Type 0} (f : ℕ → A → B) (p : B → Bool) (q : A → Bool) (t : Table A) → ((n : ℕ) (a : A) → p (f n a) ≡ q a) → find_key p (remake f t) ≡ find_key q t
unfolding remake find_key
key_remake f p q [] h = refl
key_remake f p q (e ∷ t) h = ap₂ {C = Option ℕ} (λ (b : Bool) (r : Option ℕ). cond b (some e.0) r) (h e.0 e.1) (key_remake f p q t h)

flat_remake : (t : Table Block) (n : ℕ) → flat (find (remake (λ _ (b : Block). b.region) t) n) ≡ region_of (find t n)
unfolding remake find flat region_of
flat_remake [] n = refl
flat_remake (e ∷ t) n = go (flat_remake t n) (eqb e.0 n)
  where
    go : flat (find (remake (λ _ (b : Block). b.region) t) n) ≡ region_of (find t n) → (b : Bool) → flat (cond b (some e.1.region) (find (remake (λ _ (b : Block). b.region) t) n)) ≡ region_of (cond b (some e.1) (find t n))
    go ih true = refl
    go ih false = ih

member_any : (b : ℕ) (t : ℕ → ℕ) (l : List ℕ) → member b (map t l) ≡ any (λ u. eqb (t u) b) l
unfolding member any
member_any b t [] = refl
member_any b t (u ∷ l) = ap (λ (r : Bool). eqb (t u) b || r) (member_any b t l)

any_some : {A : Type 0} (d : Discrete A) (p : A → Bool) (l : List A) → any p l ≡ true → (x : A) × In d x l × (p x ≡ true)
any_some d p l h = let r : (x : _) × In d x l × (0 < bit (p x)) = sum_some d (λ x. bit (p x)) l (pos (sum (λ x. bit (p x)) l) (sym (bit_any p l) ∙ ap bit h)) in (r.0, r.1, bit_true (p r.0) r.2)
  where
    pos : (n : ℕ) → sgn n ≡ 1 → 0 < n
    pos n e = ⊎_elim (λ z. absurd (omega (arith, e, pick_0 {A = ℕ} n 0 1 z))) (λ z. z) (zero_or n)

any_in : {A : Type 0} (d : Discrete A) (p : A → Bool) (l : List A) (x : A) → In d x l → p x ≡ true → any p l ≡ true
any_in d p l x i h = bit_true (any p l) (omega (arith, bit_any p l, pick_1 {A = ℕ} (sum (λ x. bit (p x)) l) 0 1 (omega (arith, ap bit h, part_sum d (λ x. bit (p x)) l x i))))

same_truth : (a b : Bool) → (a ≡ true → b ≡ true) → (b ≡ true → a ≡ true) → a ≡ b
same_truth true b f g = sym (f refl)
same_truth false true f g = absurd (let q : false ≡ true = g refl in let z : ◌≡◌ {A = ℕ} 0 1 = cc in omega arith)
same_truth false false f g = refl

and_both : (a b : Bool) → (a && b) ≡ true → (a ≡ true) × (b ≡ true)
and_both true true h = (refl, refl)
and_both true false h = absurd (let z : ◌≡◌ {A = ℕ} 0 1 = cc in omega arith)
and_both false b h = absurd (let z : ◌≡◌ {A = ℕ} 0 1 = cc in omega arith)

-- ---- the tests

module _ {P : State} (S : Sound P) (e : ℕ) where
  abbrev s : RState
  s = rule_state e P

  abbrev h : History
  h = hist e (view P)

  abbrev v : Sight
  v = sight s

  ops_at : (b : ℕ) → Live P (blk, b) → list_at v.orders.ops_of (num P (blk, b)) ≡ map (num P) (P.list (blk, b) ops)
  unfolding list_at or_empty sight rule_state orders_of rec_of
  ops_at b l = rw (find_view S.linked blk (λ r. r.lists ops) b l)

  blocks_at : (r : ℕ) → Live P (reg, r) → list_at v.orders.blocks_of (num P (reg, r)) ≡ map (num P) (P.list (reg, r) blocks)
  unfolding list_at or_empty sight rule_state orders_of rec_of
  blocks_at r l = rw (find_view S.linked reg (λ r. r.lists blocks) r l)

  flag_at : (o : ℕ) → Live P (op, o) → number_at s.flags (num P (op, o)) ≡ P.tag (op, o)
  unfolding number_at or_zero rule_state rec_of
  flag_at o l = rw (find_view S.linked op (λ r. r.tag) o l)

  -- what a verdict sees of the operation at a place
  abbrev aim : ℕ → ℕ
  aim u = target (find h.uses u)

  abbrev seen : ℕ → Seen
  seen o = record { flags = number_at s.flags (num P (op, o)); block = (op_of (rec_of P (op, o))).block; regions = (op_of (rec_of P (op, o))).regions; targets = map aim (op_of (rec_of P (op, o))).successors }

  seen_table : v.operations ≡ map (λ o. (num P (op, o), seen o)) (P.tab op).order
  unfolding sight rule_state hist
  seen_table =
      ap (remake (λ n (o : Operation). record { flags = number_at s.flags n; block = o.block; regions = o.regions; targets = map aim o.successors })) (tabled_view P op op_of)
      ∙ remake_tabled (λ n (o : Operation). record { flags = number_at s.flags n; block = o.block; regions = o.regions; targets = map aim o.successors }) (λ o. num P (op, o)) (λ o. op_of (rec_of P (op, o))) (P.tab op).order

  seen_at : (o : ℕ) → Live P (op, o) → find v.operations (num P (op, o)) ≡ some (seen o)
  unfolding alive
  seen_at o l =
      ap (λ (t : Table Seen). find t (num P (op, o))) seen_table
      ∙ find_tabled (λ q. num P (op, q)) seen (P.tab op).order o (λ q i m. ap (λ (a : Thing). a.1) (num_inj P S.linked.tabs (op, q) (op, o) refl i l m)) l

  seen_up : (o : ℕ) → (seen o).block ≡ num_opt P (up P (op, o))
  unfolding rec_of up
  seen_up o = number_home P (P.own (op, o) ops_in)

  term_num : (o : ℕ) → Live P (op, o) → is_terminator v (num P (op, o)) ≡ terminates P (op, o)
  unfolding is_terminator terminates some_and
  term_num o l = ap (λ (q : Option Seen). some_and q (λ x. eqb (x.flags % 2) 1)) (seen_at o l) ∙ ap (λ (n : ℕ). eqb (n % 2) 1) (flag_at o l)

  lack_num : (o : ℕ) → Live P (op, o) → may_lack v (num P (op, o)) ≡ lackable P (op, o)
  unfolding may_lack lackable some_and
  lack_num o l = ap (λ (q : Option Seen). some_and q (λ x. leb 2 x.flags)) (seen_at o l) ∙ ap (leb 2) (flag_at o l)

  -- what stands in a list: its kind, and that it is live
  member_of : (y : Thing) (r : Role) (z : Thing) → In Thing-dec z (P.list y r) → (z ≡ (node_of r, z.1)) × Live P (node_of r, z.1)
  member_of y r z i =
      let L : Link P z (fam r) (r, y) = S.linked.link z (fam r) (r, y) (listed S.linked z y r i) in
      let k : z ≡ (node_of r, z.1) = thing_eq z (node_of r, z.1) L.node refl in
      (k, subst (λ (a : Thing). Live P a) k L.live)

  -- what is said of a literal thing, of the thing in the list
  at_member : (y : Thing) (r : Role) {A : Type 0} (f : ℕ → A) (g : Thing → A) → ((p : ℕ) → Live P (node_of r, p) → f (num P (node_of r, p)) ≡ g (node_of r, p)) → (z : Thing) → In Thing-dec z (P.list y r) → f (num P z) ≡ g z
  at_member y r f g says z i = let m : (z ≡ (node_of r, z.1)) × Live P (node_of r, z.1) = member_of y r z i in subst (λ (a : Thing). f (num P a) ≡ g a) (sym m.0) (says z.1 m.1)

  -- and of what it lies in
  at_up : (k j : Kind) (p : ℕ) {A : Type 0} (f : ℕ → A) (g : Thing → A) → around k ≡ j → ((q : ℕ) → Live P (j, q) → f (num P (j, q)) ≡ g (j, q)) → (z : Thing) → up P (k, p) ≡ some z → f (num P z) ≡ g z
  at_up k j p f g a says z q =
      let m : z ≡ (j, z.1) = thing_eq z (j, z.1) (up_kind S.linked (k, p) z q ∙ a) refl in
      subst (λ (y : Thing). f (num P y) ≡ g y) (sym m) (says z.1 (subst (λ (y : Thing). Live P y) m (up_live S.linked (k, p) z q)))

  ends_num : (b : ℕ) → Live P (blk, b) → ends_well v (num P (blk, b)) ≡ place_ends_well P (blk, b)
  unfolding ends_well place_ends_well
  ends_num b l =
      ap (λ (m : List ℕ). some_and (last_item m) (is_terminator v)) (ops_at b l)
      ∙ ap (λ (o : Option ℕ). some_and o (is_terminator v)) (last_num P (P.list (blk, b) ops))
      ∙ some_num P (last_thing (P.list (blk, b) ops)) (is_terminator v) (terminates P) (λ z q. at_member (blk, b) ops (is_terminator v) (terminates P) term_num z (last_in_lem P (P.list (blk, b) ops) z q))

  -- a use's definition
  held_num : (b : ℕ) → Live P (blk, b) → (u : ℕ) → Live P (usg, u) → some_and (find h.uses (num P (usg, u))) (λ d. same_definition d (of_block (num P (blk, b)))) ≡ is_held_by (P.own (usg, u) use_sets) (block_uses, (blk, b))
  unfolding hist some_and rec_of
  held_num b lb u lu =
      let H : UseHeld (P.own (usg, u)) = S.placed (usg, u) lu in
      let M : Link P (usg, u) use_sets H.def = S.linked.link (usg, u) use_sets H.def H.in_def in
      ap (λ (o : Option Definition). some_and o (λ d. same_definition d (of_block (num P (blk, b))))) (find_view S.linked usg use_of u lu)
      ∙ ap (λ (o : Option Con). same_definition (def_of (home_by (num P) o)) (of_block (num P (blk, b)))) H.in_def
      ∙ bit_inj (same_definition (name_of P H.def) (of_block (num P (blk, b)))) (as_bool (Con-dec H.def (block_uses, (blk, b))))
      (same_def S.linked H.def.0 block_uses H.def.1 (blk, b) (fit_def H.fit) IsDef.of_blk M.holder refl M.home lb ∙ turned H.def ∙ sym (bit_as (Con-dec H.def (block_uses, (blk, b)))))
      ∙ ap (λ (o : Option Con). is_held_by o (block_uses, (blk, b))) (sym H.in_def)
    where
      turned : (d : Con) → tick (Con-dec (block_uses, (blk, b)) d) ≡ tick (Con-dec d (block_uses, (blk, b)))
      turned d = by_cases (Con-dec d (block_uses, (blk, b))) (λ q. tick_yes (Con-dec (block_uses, (blk, b)) d) (sym q) ∙ sym (tick_yes (Con-dec d (block_uses, (blk, b))) q)) (λ n. tick_no (Con-dec (block_uses, (blk, b)) d) (λ q. n (sym q)) ∙ sym (tick_no (Con-dec d (block_uses, (blk, b))) n))

  -- a successor's definition is a block
  aim_num : (o b : ℕ) → Live P (blk, b) → (u : Thing) → In Thing-dec u (P.list (op, o) successors) → eqb (aim (num P u)) (num P (blk, b)) ≡ is_held_by (P.own u use_sets) (block_uses, (blk, b))
  unfolding hist rec_of target some_and same_definition
  aim_num o b lb u i =
      let m : (u ≡ (usg, u.1)) × Live P (usg, u.1) = member_of (op, o) successors u i in
      subst (λ (y : Thing). eqb (aim (num P y)) (num P (blk, b)) ≡ is_held_by (P.own y use_sets) (block_uses, (blk, b))) (sym m.0)
      (go u.1 m.1 (S.placed (usg, u.1) m.1) (subst (λ (y : Thing). P.own y slots ≡ some (successors, (op, o))) m.0 (listed S.linked u (op, o) successors i)))
    where
      role : (r d : Role) → Fit r d → r ≡ successors → d ≡ block_uses
      role r d Fit.operand q = absurd (let z : ◌≡◌ {A = ℕ} 0 1 = cc in omega arith)
      role r d Fit.successor q = refl

      go : (w : ℕ) (l : Live P (usg, w)) (H : UseHeld (P.own (usg, w))) → P.own (usg, w) slots ≡ some (successors, (op, o)) → eqb (aim (num P (usg, w))) (num P (blk, b)) ≡ is_held_by (P.own (usg, w) use_sets) (block_uses, (blk, b))
      go w l H at =
          let r : H.def.0 ≡ block_uses = role H.slot.0 H.def.0 H.fit (ap (λ (c : Con). c.0) (some_inj (sym H.in_slot ∙ at))) in
          let d : P.own (usg, w) use_sets ≡ some (block_uses, H.def.1) = H.in_def ∙ ap some (λ j. (r j, H.def.1)) in
          let f : find h.uses (num P (usg, w)) ≡ some (of_block (num P H.def.1)) = find_view S.linked usg use_of w l ∙ ap (λ (q : Option Con). some (def_of (home_by (num P) q))) d in
          ap (λ (q : Option Definition). eqb (target q) (num P (blk, b))) f
          ∙ sym (ap (λ (q : Option Definition). some_and q (λ d. same_definition d (of_block (num P (blk, b))))) f)
          ∙ held_num b lb w l

  aims_num : (o b : ℕ) → Live P (blk, b) → member (num P (blk, b)) (seen o).targets ≡ place_names_block P (blk, b) (op, o)
  unfolding place_names_block rec_of
  aims_num o b lb =
      member_any (num P (blk, b)) aim (map (num P) (P.list (op, o) successors))
      ∙ any_on (λ u. eqb (aim u) (num P (blk, b))) (λ u. is_held_by (P.own u use_sets) (block_uses, (blk, b))) (num P) (P.list (op, o) successors) (aim_num o b lb)

  names_num : (b : ℕ) → Live P (blk, b) → (o : ℕ) → Live P (op, o) → names_block v (num P (blk, b)) (num P (op, o)) ≡ place_names_block P (blk, b) (op, o)
  unfolding names_block some_and
  names_num b lb o lo = ap (λ (q : Option Seen). some_and q (λ x. member (num P (blk, b)) x.targets)) (seen_at o lo) ∙ aims_num o b lb

  leads_num : (b : ℕ) → Live P (blk, b) → (p : ℕ) → Live P (blk, p) → leads_to v (num P (blk, b)) (num P (blk, p)) ≡ place_leads_to P (blk, b) (blk, p)
  unfolding leads_to place_leads_to
  leads_num b lb p lp =
      ap (λ (m : List ℕ). some_and (last_item m) (λ o. is_terminator v o && names_block v (num P (blk, b)) o)) (ops_at p lp)
      ∙ ap (λ (o : Option ℕ). some_and o (λ o. is_terminator v o && names_block v (num P (blk, b)) o)) (last_num P (P.list (blk, p) ops))
      ∙ some_num P (last_thing (P.list (blk, p) ops)) (λ o. is_terminator v o && names_block v (num P (blk, b)) o) (λ o. terminates P o && place_names_block P (blk, b) o)
      (λ z q. at_member (blk, p) ops (λ o. is_terminator v o && names_block v (num P (blk, b)) o) (λ o. terminates P o && place_names_block P (blk, b) o) (λ o l. ap₂ ◌&&◌ (term_num o l) (names_num b lb o l)) z (last_in_lem P (P.list (blk, p) ops) z q))

  -- ---- over the users of a block

  held_yes : (q : Option Con) (c : Con) → is_held_by q c ≡ true → q ≡ some c
  held_yes none c h = absurd (let z : ◌≡◌ {A = ℕ} 0 1 = cc in omega arith)
  held_yes (some d) c h = ap some (tick_pos (Con-dec d c) (omega (arith, bit_as (Con-dec d c), ap bit h)))

  held_self : (c : Con) → is_held_by (some c) c ≡ true
  held_self c = bit_true (as_bool (Con-dec c c)) (omega (arith, bit_as (Con-dec c c), tick_yes (Con-dec c c) refl))

  standing : (x c : Thing) (r : Role) → P.own x (fam r) ≡ some (r, c) → In Thing-dec x (P.list c r)
  standing x c r q = omega (arith, once S.linked x (fam r) (r, c) q)

  module _ (b : ℕ) (lb : Live P (blk, b)) where
    abbrev U : List Thing
    U = P.list (blk, b) block_uses

    any_user : (f : Seen → Bool) (g : Thing → Bool) → ((o : ℕ) → Live P (op, o) → f (seen o) ≡ g (op, o))
        → any (λ x. member (num P (blk, b)) x.targets && not (f x)) (items v.operations) ≡ any (λ u. not (some_and (outer (P.own u slots)) g)) U
    unfolding any some_and alive place_names_block
    any_user f g says =
        ap (any F) (ap items seen_table ∙ items_tabled (λ o. num P (op, o)) seen (P.tab op).order)
        ∙ same_truth (any F (map seen (P.tab op).order)) (any G U) there back
      where
        F : Seen → Bool
        F x = member (num P (blk, b)) x.targets && not (f x)

        G : Thing → Bool
        G u = not (some_and (outer (P.own u slots)) g)

        mapped : {A B : Type 0} (p : B → Bool) (k : A → B) (l : List A) → any p (map k l) ≡ any (λ a. p (k a)) l
        mapped p k [] = refl
        mapped p k (a ∷ l) = ap (λ (r : Bool). p (k a) || r) (mapped p k l)

        at_op : (o : ℕ) (u : Thing) → P.own u slots ≡ some (successors, (op, o)) → some_and (outer (P.own u slots)) g ≡ g (op, o)
        at_op o u q = ap (λ (c : Option Con). some_and (outer c) g) q

        there : any F (map seen (P.tab op).order) ≡ true → any G U ≡ true
        there q =
            let a : (o : ℕ) × In ℕ_discrete o (P.tab op).order × (F (seen o) ≡ true) = any_some ℕ_discrete (λ o. F (seen o)) (P.tab op).order (sym (mapped F seen (P.tab op).order) ∙ q) in
            let o : ℕ = a.0 in
            let w : (member (num P (blk, b)) (seen o).targets ≡ true) × (not (f (seen o)) ≡ true) = and_both (member (num P (blk, b)) (seen o).targets) (not (f (seen o))) a.2 in
            let n : (u : Thing) × In Thing-dec u (P.list (op, o) successors) × (is_held_by (P.own u use_sets) (block_uses, (blk, b)) ≡ true) = any_some Thing-dec (λ u. is_held_by (P.own u use_sets) (block_uses, (blk, b))) (P.list (op, o) successors) (sym (aims_num o b lb) ∙ w.0) in
            any_in Thing-dec G U n.0 (standing n.0 (blk, b) block_uses (held_yes (P.own n.0 use_sets) (block_uses, (blk, b)) n.2))
            (ap not (at_op o n.0 (listed S.linked n.0 (op, o) successors n.1) ∙ sym (says o a.1)) ∙ w.1)

        role : (r d : Role) → Fit r d → d ≡ block_uses → r ≡ successors
        role r d Fit.operand q = absurd (let z : ◌≡◌ {A = ℕ} 0 1 = cc in omega arith)
        role r d Fit.successor q = refl

        back : any G U ≡ true → any F (map seen (P.tab op).order) ≡ true
        back q =
            let a : (u : Thing) × In Thing-dec u U × (G u ≡ true) = any_some Thing-dec G U q in
            let m : (a.0 ≡ (usg, a.0.1)) × Live P (usg, a.0.1) = member_of (blk, b) block_uses a.0 a.1 in
            let d : P.own a.0 use_sets ≡ some (block_uses, (blk, b)) = listed S.linked a.0 (blk, b) block_uses a.1 in
            let H : UseHeld (P.own a.0) = subst (λ (y : Thing). UseHeld (P.own y)) (sym m.0) (S.placed (usg, a.0.1) m.1) in
            let M : Link P a.0 slots H.slot = S.linked.link a.0 slots H.slot H.in_slot in
            let r : H.slot.0 ≡ successors = role H.slot.0 H.def.0 H.fit (ap (λ (c : Con). c.0) (some_inj (sym H.in_def ∙ d))) in
            let o : ℕ = H.slot.1.1 in
            let k : H.slot.1 ≡ (op, o) = thing_eq H.slot.1 (op, o) (M.holder ∙ ap holder_of r) refl in
            let at : P.own a.0 slots ≡ some (successors, (op, o)) = H.in_slot ∙ ap some (λ i. (r i, k i)) in
            let l : Live P (op, o) = subst (λ (y : Thing). Live P y) k M.home in
            let n : member (num P (blk, b)) (seen o).targets ≡ true = aims_num o b lb ∙ any_in Thing-dec (λ u. is_held_by (P.own u use_sets) (block_uses, (blk, b))) (P.list (op, o) successors) a.0 (standing a.0 (op, o) successors at) (ap (λ (c : Option Con). is_held_by c (block_uses, (blk, b))) d ∙ held_self (block_uses, (blk, b))) in
            mapped F seen (P.tab op).order ∙ any_in ℕ_discrete (λ o. F (seen o)) (P.tab op).order o l (ap₂ ◌&&◌ n (ap not (says o l ∙ sym (at_op o a.0 at)) ∙ a.2))

    pub stray_num : stray_user v (num P (blk, b)) ≡ place_stray_user P (blk, b)
    unfolding stray_user place_stray_user
    stray_num = any_user (λ x. is_some x.block) (λ o. is_some (up P o)) (λ o l. ap is_some (seen_up o) ∙ is_some_num P (up P (op, o)))

    lost_num : lost_pred v (num P (blk, b)) ≡ place_lost_pred P (blk, b)
    unfolding lost_pred place_lost_pred around
    lost_num =
        any_user (λ x. some_and x.block (leads_to v (num P (blk, b)))) (λ o. some_and (up P o) (place_leads_to P (blk, b)))
        (λ o l. ap (λ (q : Option ℕ). some_and q (leads_to v (num P (blk, b)))) (seen_up o) ∙ some_num P (up P (op, o)) (leads_to v (num P (blk, b))) (place_leads_to P (blk, b)) (at_up op blk o (leads_to v (num P (blk, b))) (place_leads_to P (blk, b)) refl (leads_num b lb)))

  -- the region over a block, and the operation over a region
  over_num : (b : ℕ) → Live P (blk, b) → flat (find v.region_over (num P (blk, b))) ≡ num_opt P (up P (blk, b))
  unfolding sight rule_state region_at
  over_num b l = flat_remake h.blocks (num P (blk, b)) ∙ region_at_num S e b l

  abbrev above : ℕ → Option ℕ
  above r = find_key (λ (x : Seen). member r x.regions) v.operations

  above_num : (r : ℕ) → Live P (reg, r) → above (num P (reg, r)) ≡ num_opt P (up P (reg, r))
  unfolding sight rule_state parent
  above_num r l =
      key_remake (λ n (o : Operation). record { flags = number_at s.flags n; block = o.block; regions = o.regions; targets = map aim o.successors }) (λ (x : Seen). member (num P (reg, r)) x.regions) (λ (o : Operation). member (num P (reg, r)) o.regions) h.operations (λ n a. refl)
      ∙ parent_num S e r l

  -- ---- the walk of verdicts

  module _ (f : ℕ → Reply) (w : Thing → Reply) (says : (o : ℕ) → Live P (op, o) → f (num P (op, o)) ≡ w (op, o)) where
    pub block_num : (b : ℕ) → Live P (blk, b) → block_verdict_by v f (num P (blk, b)) ≡ place_block_verdict P w (blk, b)
    unfolding block_verdict_by place_block_verdict in_block place_in_block around
    block_num b lb = ap (in_block v f (num P (blk, b))) (over_num b lb) ∙ go (up P (blk, b)) refl
      where
        shape : (r : Reply) (c st lp : Bool) → Reply
        shape r c st lp = elim c [ false ↦ found 2 (num P (blk, b)) | true ↦ elim st [ true ↦ refuse 18 | false ↦ elim lp [ true ↦ found 4 (num P (blk, b)) | false ↦ r ] ] ]

        first : (z : Thing) → up P (blk, b) ≡ some z → some_and (above (num P z)) (may_lack v) ≡ some_and (up P z) (lackable P)
        first z q = at_up blk reg b (λ r. some_and (above r) (may_lack v)) (λ r. some_and (up P r) (lackable P)) refl (λ r l. ap (λ (o : Option ℕ). some_and o (may_lack v)) (above_num r l) ∙ some_num P (up P (reg, r)) (may_lack v) (lackable P) (at_up reg op r (may_lack v) (lackable P) refl lack_num)) z q

        go : (o : Option Thing) → up P (blk, b) ≡ o → in_block v f (num P (blk, b)) (num_opt P o) ≡ place_in_block P w (blk, b) o
        go none q = refl
        go (some z) q =
            ap₂ {C = Reply} (λ (c st : Bool). shape (first_met f (list_at v.orders.ops_of (num P (blk, b)))) c st (lost_pred v (num P (blk, b)))) (ap₂ ◌||◌ (first z q) (ends_num b lb)) (stray_num b lb)
            ∙ ap₂ {C = Reply} (λ (lp : Bool) (r : Reply). shape r (some_and (up P z) (lackable P) || place_ends_well P (blk, b)) (place_stray_user P (blk, b)) lp) (lost_num b lb) (ap (first_met f) (ops_at b lb) ∙ met_on f w (num P) (P.list (blk, b) ops) (at_member (blk, b) ops f w says))

    pub region_num : (r : ℕ) → Live P (reg, r) → region_verdict_by v f (num P (reg, r)) ≡ place_region_verdict P w (reg, r)
    unfolding region_verdict_by place_region_verdict
    region_num r lr = ap (first_met (block_verdict_by v f)) (blocks_at r lr) ∙ met_on (block_verdict_by v f) (place_block_verdict P w) (num P) (P.list (reg, r) blocks) (at_member (reg, r) blocks (block_verdict_by v f) (place_block_verdict P w) block_num)

  follows_num : (o : ℕ) → Live P (op, o) → (l : List Thing) → ((z : Thing) → In Thing-dec z l → (z.0 ≡ op) × Live P z) → has_next (num P (op, o)) (map (num P) l) ≡ follows (op, o) l
  unfolding has_next
  follows_num o lo [] g = refl
  follows_num o lo (y ∷ []) g = refl
  follows_num o lo (y ∷ z ∷ l) g = ap₂ ◌||◌ (bit_inj (eqb (num P y) (num P (op, o))) (as_bool (Thing-dec y (op, o))) (bit_eqb (num P y) (num P (op, o)) ∙ one (g y (in_head Thing-dec y (z ∷ l))) ∙ sym (bit_as (Thing-dec y (op, o))))) (follows_num o lo (z ∷ l) (λ t i. g t (in_tail Thing-dec t y (z ∷ l) i)))
    where
      one : (y.0 ≡ op) × Live P y → tick (ℕ_discrete (num P y) (num P (op, o))) ≡ tick (Thing-dec y (op, o))
      one k = by_cases (Thing-dec y (op, o)) (λ q. tick_yes (ℕ_discrete (num P y) (num P (op, o))) (ap (num P) q) ∙ sym (tick_yes (Thing-dec y (op, o)) q)) (λ n. tick_no (ℕ_discrete (num P y) (num P (op, o))) (λ q. n (num_inj P S.linked.tabs y (op, o) k.0 k.1 lo q)) ∙ sym (tick_no (Thing-dec y (op, o)) n))

  early_num : (o : ℕ) → Live P (op, o) → too_early v (num P (op, o)) ≡ place_too_early P (op, o)
  unfolding too_early place_too_early around seen_block
  early_num o lo =
      ap {B = Reply} (λ (c : Bool). elim c [ true ↦ found 3 (num P (op, o)) | false ↦ clean ])
      (ap₂ ◌&&◌ (term_num o lo)
      (ap (λ (q : Option ℕ). some_and q (λ b. has_next (num P (op, o)) (list_at v.orders.ops_of b))) (ap seen_block (seen_at o lo) ∙ seen_up o)
      ∙ some_num P (up P (op, o)) (λ b. has_next (num P (op, o)) (list_at v.orders.ops_of b)) (λ b. follows (op, o) (P.list b ops))
      (at_up op blk o (λ b. has_next (num P (op, o)) (list_at v.orders.ops_of b)) (λ b. follows (op, o) (P.list b ops)) refl
      (λ b lb. ap (has_next (num P (op, o))) (ops_at b lb) ∙ follows_num o lo (P.list (blk, b) ops) (λ z i. let L : Link P z ops_in (ops, (blk, b)) = S.linked.link z ops_in (ops, (blk, b)) (listed S.linked z (blk, b) ops i) in (L.node, L.live))))))

  regions_at : (o : ℕ) → Live P (op, o) → seen_regions (find v.operations (num P (op, o))) ≡ map (num P) (P.list (op, o) regions)
  unfolding seen_regions rec_of
  regions_at o lo = ap seen_regions (seen_at o lo)

  pub operation_num : (d o : ℕ) → Live P (op, o) → operation_verdict v d (num P (op, o)) ≡ op_verdict P d (op, o)
  unfolding operation_verdict op_verdict
  operation_num zero o lo = refl
  operation_num (suc d) o lo =
      ap₂ {C = Reply} (λ (r m : Reply). elim (is_clean r) [ true ↦ m | false ↦ r ])
      (ap (first_met (region_verdict_by v (operation_verdict v d))) (regions_at o lo) ∙ met_on (region_verdict_by v (operation_verdict v d)) (place_region_verdict P (op_verdict P d)) (num P) (P.list (op, o) regions) (at_member (op, o) regions (region_verdict_by v (operation_verdict v d)) (place_region_verdict P (op_verdict P d)) (region_num (operation_verdict v d) (op_verdict P d) (λ q lq. operation_num d q lq))))
      (early_num o lo)

  -- how deep a verdict may go
  pub depth_seen : length v.operations ≡ length (P.tab op).order
  depth_seen = ap length seen_table ∙ length-map (P.tab op).order (λ o. (num P (op, o), seen o))
