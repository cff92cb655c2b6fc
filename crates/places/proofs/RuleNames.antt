-- Look-ups by number in the rules' tables of a sound store: what is found where a live thing has the number, and where none has.
-- For all kinds, lists and definitions. Assumes nothing.
use mathlib.Core.Path.{◌≡◌, refl, sym, ap, ap₂, ◌∙◌, subst}
use mathlib.Core.Logic.{◌≢◌, by_cases, ⊎_elim}
use mathlib.Core.Bool.{Bool, true, false, cond, ◌||◌}
use mathlib.Core.List.{List, [], ◌∷◌, map}
use mathlib.Core.Option.{Option, none, some}
use native.Mathlib.Decide.{ℕ_discrete}
use native.Mathlib.Omega.{arith}
use Prim.Native.Nat.{ℕ, ◌+◌, ◌-◌}
use lib.Dec.{eqb}
use lib.ListN.{length, length-map}
use Rattle.seqs.specs.Seqs.{tick, count, In, Rises, sum}
use Rattle.places.specs.Store.{Kind, op, blk, reg, val, usg, Role, results, arguments, regions, slots, use_sets, vals, fam, node_of, holder_of, Thing, Thing-dec, Con, State, alive, Live, Link, Linked, UseHeld, Sound, outer, up}
use Rattle.places.specs.View.{Rec, num, home_by, rec_of, view}
use Rattle.edit.specs.Record.{Slot, operand, successor, Member, operation, block, Definition}
use Rattle.places.specs.Hist.{def_of, tabled, op_of, block_of, use_of, hist}
use Rattle.places.specs.Walk.{pick, sgn, sift, things, place_uses_at}
use Rattle.places.specs.Roles.{Unnamed, slot_role, value_role, member_kind}
use Rattle.rules.specs.Table.{Table, is_some, find, find_key, keys_where, any, items, member}
use Rattle.rules.specs.History.{Operation, Block, History, live_operation, live_block, live_region, live_value, parent, user, container, uses_of, slot_of, uses_in, all_uses_in, values_at, results_of, arguments_of, same_definition}
use Rattle.rules.specs.Refusal.{slot_length, values_length}
use Rattle.seqs.proofs.Base.{tick_yes, tick_no, in_head, in_tail}
use Rattle.seqs.proofs.Sums.{sum_on, sum_map, length_count}
use Rattle.places.proofs.Steps.{thing_eq, listed, once}
use Rattle.places.proofs.Cut.{pick_0, pick_1, zero_or, rises_sift}
use Rattle.places.proofs.Nest.{up_to}
use Rattle.places.proofs.DropAll.{fam_code, slot_roles, value_roles, uses_at}
use Rattle.places.proofs.Bits.{bit, bit_eqb, bit_true, bit_false, bit_member, sgn_tick, key_tabled, tabled_view, find_view, count_nums}
use Rattle.places.proofs.Tables.{items_tabled, in_mapped}
use Rattle.places.proofs.RuleClimb.{num_opt, block_at_num, region_at_num, parent_num}
use Rattle.places.proofs.RuleDrop.{live_uses, listed_uses}
use Rattle.places.proofs.RuleOutside.{IsDef, name_of, use_def, set_once}

-- ---- tables over a list of places

module _ {A : Type 0} (nm : ℕ → ℕ) (g : ℕ → A) where
  pub find_absent : (l : List ℕ) (m : ℕ) → ((q : ℕ) → In ℕ_discrete q l → nm q ≢ m) → find (map (λ q. (nm q, g q)) l) m ≡ none
  unfolding find
  find_absent [] m h = refl
  find_absent (q ∷ l) m h = ap {B = Option _} (λ (b : Bool). cond b (some (g q)) (find (map (λ q. (nm q, g q)) l) m)) (bit_false (eqb (nm q) m) (bit_eqb (nm q) m ∙ tick_no (ℕ_discrete (nm q) m) (h q (in_head ℕ_discrete q l)))) ∙ find_absent l m (λ r i. h r (in_tail ℕ_discrete r q l i))

  pub key_absent : (test : A → Bool) (l : List ℕ) → ((q : ℕ) → In ℕ_discrete q l → test (g q) ≡ false) → find_key test (map (λ q. (nm q, g q)) l) ≡ none
  unfolding find_key
  key_absent test [] h = refl
  key_absent test (q ∷ l) h = ap {B = Option ℕ} (λ (b : Bool). cond b (some (nm q)) (find_key test (map (λ q. (nm q, g q)) l))) (h q (in_head ℕ_discrete q l)) ∙ key_absent test l (λ r i. h r (in_tail ℕ_discrete r q l i))

  -- how many pass a test
  keys_length : (test : A → Bool) (l : List ℕ) → length (keys_where test (map (λ q. (nm q, g q)) l)) ≡ sum (λ q. bit (test (g q))) l
  unfolding keys_where
  keys_length test [] = refl
  keys_length test (q ∷ l) = go (keys_length test l) (test (g q))
    where
      rest : List ℕ
      rest = keys_where test (map (λ q. (nm q, g q)) l)

      go : length rest ≡ sum (λ q. bit (test (g q))) l → (b : Bool) → length (cond b (nm q ∷ rest) rest) ≡ bit b + sum (λ q. bit (test (g q))) l
      go ih true = omega (arith, ih)
      go ih false = omega (arith, ih)

  -- which
  keys_sift : (test : A → Bool) (n : ℕ → ℕ) (l : List ℕ) → ((q : ℕ) → In ℕ_discrete q l → bit (test (g q)) ≡ n q) → keys_where test (map (λ q. (nm q, g q)) l) ≡ map nm (sift (λ q. 1 - n q) l)
  unfolding keys_where pick
  keys_sift test n [] h = refl
  keys_sift test n (q ∷ l) h = go (keys_sift test n l (λ r i. h r (in_tail ℕ_discrete r q l i))) (test (g q)) (h q (in_head ℕ_discrete q l))
    where
      rest : List ℕ
      rest = keys_where test (map (λ q. (nm q, g q)) l)

      go : rest ≡ map nm (sift (λ q. 1 - n q) l) → (b : Bool) → bit b ≡ n q → cond b (nm q ∷ rest) rest ≡ map nm (pick (1 - n q) (q ∷ sift (λ q. 1 - n q) l) (sift (λ q. 1 - n q) l))
      go ih true e = let z : 1 - n q ≡ 0 = omega (arith, e) in ap {B = List ℕ} (λ r. nm q ∷ r) ih ∙ ap (λ (m : ℕ). map nm (pick m (q ∷ sift (λ q. 1 - n q) l) (sift (λ q. 1 - n q) l))) (sym z)
      go ih false e = let z : 1 - n q ≡ 1 = omega (arith, e) in ih ∙ ap (λ (m : ℕ). map nm (pick m (q ∷ sift (λ q. 1 - n q) l) (sift (λ q. 1 - n q) l))) (sym z)

any_some : {A : Type 0} (f : A → Bool) (g : ℕ → A) (l : List ℕ) (q : ℕ) → In ℕ_discrete q l → f (g q) ≡ true → any f (map g l) ≡ true
unfolding any
any_some f g [] q i h = absurd (omega arith)
any_some f g (r ∷ l) q i h = by_cases (ℕ_discrete q r) (λ m. ap (λ (b : Bool). b || any f (map g l)) (ap (λ (s : ℕ). f (g s)) (sym m) ∙ h)) (λ m. or_true (f (g r)) (any_some f g l q (omega (arith, i, tick_no (ℕ_discrete q r) m)) h))
  where
    or_true : (a : Bool) {b : Bool} → b ≡ true → (a || b) ≡ true
    or_true true h = refl
    or_true false h = h

any_none : {A : Type 0} (f : A → Bool) (g : ℕ → A) (l : List ℕ) → ((q : ℕ) → f (g q) ≡ false) → any f (map g l) ≡ false
unfolding any
any_none f g [] h = refl
any_none f g (r ∷ l) h = ap (λ (b : Bool). b || any f (map g l)) (h r) ∙ any_none f g l h

or_right : (a b : Bool) → b ≡ true → (a || b) ≡ true
or_right true b h = refl
or_right false b h = h

-- ---- the view's tables

module _ {P : State} (S : Linked P) where
  pub find_live : {A : Type 0} (k : Kind) (f : Rec → A) (p n : ℕ) → Live P (k, p) → num P (k, p) ≡ n → find (tabled f ((view P).things k)) n ≡ some (f (rec_of P (k, p)))
  find_live k f p n l e = ap (find (tabled f ((view P).things k))) (sym e) ∙ find_view S k f p l

  pub find_dead : {A : Type 0} (k : Kind) (f : Rec → A) (n : ℕ) → Unnamed P k n → find (tabled f ((view P).things k)) n ≡ none
  unfolding alive
  find_dead k f n h = ap (λ (t : Table _). find t n) (tabled_view P k f) ∙ find_absent (λ q. num P (k, q)) (λ q. f (rec_of P (k, q))) (P.tab k).order n h

  pub length_view : {A : Type 0} (k : Kind) (f : Rec → A) → length (tabled f ((view P).things k)) ≡ length (P.tab k).order
  length_view k f = ap length (tabled_view P k f) ∙ length-map (P.tab k).order (λ q. (num P (k, q), f (rec_of P (k, q))))

  -- a list by numbers has the number of a thing exactly if it has the thing
  pub member_live : (y x : Thing) (r : Role) → In Thing-dec x (P.list y r) → member (num P x) (map (num P) (P.list y r)) ≡ true
  member_live y x r i = bit_true (member (num P x) (map (num P) (P.list y r))) (omega (arith, bit_member (num P x) (map (num P) (P.list y r)), pick_1 {A = ℕ} (count ℕ_discrete (num P x) (map (num P) (P.list y r))) 0 1 (omega (arith, i, count_nums S x (P.list y r) (of x i).live (λ z j. ((of z j).node ∙ sym (of x i).node, (of z j).live))))))
    where
      of : (z : Thing) → In Thing-dec z (P.list y r) → Link P z (fam r) (r, y)
      of z j = S.link z (fam r) (r, y) (listed S z y r j)

  pub member_dead : (y : Thing) (r : Role) (n : ℕ) → Unnamed P (node_of r) n → member n (map (num P) (P.list y r)) ≡ false
  member_dead y r n h = bit_false (member n (map (num P) (P.list y r))) (bit_member n (map (num P) (P.list y r)) ∙ ⊎_elim (λ z. pick_0 {A = ℕ} (count ℕ_discrete n (map (num P) (P.list y r))) 0 1 z)
      (λ z. absurd (let c : (w : Thing) × (n ≡ num P w) × In Thing-dec w (P.list y r) = in_mapped Thing-dec ℕ_discrete (num P) n (P.list y r) z in
      let L : Link P c.0 (fam r) (r, y) = S.link c.0 (fam r) (r, y) (listed S c.0 y r c.2) in
      let k : c.0 ≡ (node_of r, c.0.1) = thing_eq c.0 (node_of r, c.0.1) L.node refl in
      h c.0.1 (subst (λ (a : Thing). Live P a) k L.live) (ap (num P) (sym k) ∙ sym c.1))) (zero_or (count ℕ_discrete n (map (num P) (P.list y r)))))

-- ---- live or not, by kind

module _ {P : State} (S : Sound P) (e : ℕ) where
  abbrev h : History
  h = hist e (view P)

  pub operation_live : (p n : ℕ) → Live P (op, p) → num P (op, p) ≡ n → live_operation h n ≡ true
  unfolding live_operation hist is_some
  operation_live p n l m = ap is_some (find_live S.linked op op_of p n l m)

  pub operation_dead : (n : ℕ) → Unnamed P op n → live_operation h n ≡ false
  unfolding live_operation hist is_some
  operation_dead n d = ap is_some (find_dead S.linked op op_of n d)

  pub block_live : (p n : ℕ) → Live P (blk, p) → num P (blk, p) ≡ n → live_block h n ≡ true
  unfolding live_block hist is_some
  block_live p n l m = ap is_some (find_live S.linked blk block_of p n l m)

  pub block_dead : (n : ℕ) → Unnamed P blk n → live_block h n ≡ false
  unfolding live_block hist is_some
  block_dead n d = ap is_some (find_dead S.linked blk block_of n d)

  pub region_live : (p n : ℕ) → Live P (reg, p) → num P (reg, p) ≡ n → live_region h n ≡ true
  unfolding live_region is_some up
  region_live p n l m = ap (λ (k : ℕ). is_some (parent h k)) (sym m) ∙ ap is_some (parent_num S e p l ∙ ap (λ (o : Option Con). num_opt P (outer o)) (S.placed (reg, p) l).1)

  pub region_dead : (n : ℕ) → Unnamed P reg n → live_region h n ≡ false
  unfolding live_region is_some parent hist rec_of
  region_dead n d = ap (λ (o : Option ℕ). is_some o) (ap (find_key (λ (o : Operation). member n o.regions)) (tabled_view P op op_of) ∙ key_absent (λ q. num P (op, q)) (λ q. op_of (rec_of P (op, q))) (λ (o : Operation). member n o.regions) (P.tab op).order (λ q _. member_dead S.linked (op, q) regions n d))

  results? : ℕ → Bool
  results? m = any (λ (o : Operation). member m o.results) (map (λ q. op_of (rec_of P (op, q))) (P.tab op).order)

  arguments? : ℕ → Bool
  arguments? m = any (λ (b : Block). member m b.arguments) (map (λ q. block_of (rec_of P (blk, q))) (P.tab blk).order)

  live_is : (m : ℕ) → live_value h m ≡ (results? m || arguments? m)
  unfolding live_value hist results? arguments?
  live_is m =
      ap₂ ◌||◌
      (ap (any (λ (o : Operation). member m o.results)) (ap items (tabled_view P op op_of) ∙ items_tabled (λ q. num P (op, q)) (λ q. op_of (rec_of P (op, q))) (P.tab op).order))
      (ap (any (λ (b : Block). member m b.arguments)) (ap items (tabled_view P blk block_of) ∙ items_tabled (λ q. num P (blk, q)) (λ q. block_of (rec_of P (blk, q))) (P.tab blk).order))

  value_found : (v : ℕ) → Live P (val, v) → (results? (num P (val, v)) || arguments? (num P (val, v))) ≡ true
  unfolding results? arguments? rec_of fam_code alive
  value_found v l = go (S.placed (val, v) l).0 (S.placed (val, v) l).1
    where
      at : (r : Role) (y : Thing) → P.own (val, v) (fam r) ≡ some (r, y) → member (num P (val, v)) (map (num P) (P.list y r)) ≡ true
      at r y m = member_live S.linked y (val, v) r (omega (arith, once S.linked (val, v) (fam r) (r, y) m))

      go : (c : Con) → P.own (val, v) vals ≡ some c → (results? (num P (val, v)) || arguments? (num P (val, v))) ≡ true
      go c m =
          let L : Link P (val, v) vals c = S.linked.link (val, v) vals c m in
          ⊎_elim
          (λ h. let y : c.1 ≡ (op, c.1.1) = thing_eq c.1 (op, c.1.1) (L.holder ∙ ap holder_of h) refl in
          let w : P.own (val, v) vals ≡ some (results, (op, c.1.1)) = m ∙ ap some (λ i. (h i, y i)) in
          ap (λ (b : Bool). b || arguments? (num P (val, v))) (any_some (λ (o : Operation). member (num P (val, v)) o.results) (λ q. op_of (rec_of P (op, q))) (P.tab op).order c.1.1 (subst (λ (a : Thing). Live P a) y L.home) (at results (op, c.1.1) w)))
          (λ h. let y : c.1 ≡ (blk, c.1.1) = thing_eq c.1 (blk, c.1.1) (L.holder ∙ ap holder_of h) refl in
          let w : P.own (val, v) vals ≡ some (arguments, (blk, c.1.1)) = m ∙ ap some (λ i. (h i, y i)) in
          or_right (results? (num P (val, v))) (arguments? (num P (val, v))) (any_some (λ (b : Block). member (num P (val, v)) b.arguments) (λ q. block_of (rec_of P (blk, q))) (P.tab blk).order c.1.1 (subst (λ (a : Thing). Live P a) y L.home) (at arguments (blk, c.1.1) w)))
          (value_roles c.0 (ap fam_code L.family))

  pub value_live : (p n : ℕ) → Live P (val, p) → num P (val, p) ≡ n → live_value h n ≡ true
  value_live p n l m = ap (live_value h) (sym m) ∙ live_is (num P (val, p)) ∙ value_found p l

  pub value_dead : (n : ℕ) → Unnamed P val n → live_value h n ≡ false
  unfolding results? arguments? rec_of
  value_dead n d = live_is n ∙ ap₂ ◌||◌
      (any_none (λ (o : Operation). member n o.results) (λ q. op_of (rec_of P (op, q))) (P.tab op).order (λ q. member_dead S.linked (op, q) results n d))
      (any_none (λ (b : Block). member n b.arguments) (λ q. block_of (rec_of P (blk, q))) (P.tab blk).order (λ q. member_dead S.linked (blk, q) arguments n d))

  -- ---- lists

  pub slot_list_lem : (sl : Slot) (o n : ℕ) → Live P (op, o) → num P (op, o) ≡ n → slot_of sl (find h.operations n) ≡ map (num P) (P.list (op, o) (slot_role sl))
  unfolding slot_of uses_in hist rec_of
  slot_list_lem operand o n l m = ap (slot_of operand) (find_live S.linked op op_of o n l m)
  slot_list_lem successor o n l m = ap (slot_of successor) (find_live S.linked op op_of o n l m)

  pub slot_long : (sl : Slot) (o n : ℕ) → Live P (op, o) → num P (op, o) ≡ n → slot_length h sl n ≡ length (P.list (op, o) (slot_role sl))
  unfolding slot_length
  slot_long sl o n l m = ap length (slot_list_lem sl o n l m) ∙ length-map (P.list (op, o) (slot_role sl)) (num P)

  pub values_list : (w : Member) (o n : ℕ) → Live P (member_kind w, o) → num P (member_kind w, o) ≡ n → values_at w n h ≡ map (num P) (P.list (member_kind w, o) (value_role w))
  unfolding values_at results_of arguments_of hist rec_of
  values_list operation o n l m = ap results_of (find_live S.linked op op_of o n l m)
  values_list block o n l m = ap arguments_of (find_live S.linked blk block_of o n l m)

  pub values_long : (w : Member) (o n : ℕ) → Live P (member_kind w, o) → num P (member_kind w, o) ≡ n → values_length h w n ≡ length (P.list (member_kind w, o) (value_role w))
  unfolding values_length
  values_long w o n l m = ap length (values_list w o n l m) ∙ length-map (P.list (member_kind w, o) (value_role w)) (num P)

  -- ---- where a thing stands

  pub container_is : (w : Member) (x n : ℕ) → Live P (member_kind w, x) → num P (member_kind w, x) ≡ n → container w h n ≡ num_opt P (up P (member_kind w, x))
  unfolding container
  container_is operation x n l m = ap (container operation h) (sym m) ∙ block_at_num S e x l
  container_is block x n l m = ap (container block h) (sym m) ∙ region_at_num S e x l

  pub parent_is : (r n : ℕ) → Live P (reg, r) → num P (reg, r) ≡ n → parent h n ≡ num_opt P (up P (reg, r))
  parent_is r n l m = ap (parent h) (sym m) ∙ parent_num S e r l

  -- ---- uses

  module _ (u : ℕ) (lu : Live P (usg, u)) where
    H : UseHeld (P.own (usg, u))
    H = S.placed (usg, u) lu

    pub use_holder : (c : Con) → P.own (usg, u) slots ≡ some c → c.1 ≡ (op, c.1.1)
    unfolding fam_code
    use_holder c m =
        let L : Link P (usg, u) slots c = S.linked.link (usg, u) slots c m in
        thing_eq c.1 (op, c.1.1) (L.holder ∙ ⊎_elim (λ h. ap holder_of h) (λ h. ap holder_of h) (slot_roles c.0 (ap fam_code L.family))) refl

    -- the operation at which a use stands
    pub user_is : (n : ℕ) → num P (usg, u) ≡ n → user h n ≡ num_opt P (outer (P.own (usg, u) slots))
    unfolding user hist alive
    user_is n m =
        ap (find_key (λ (o : Operation). member n (all_uses_in o))) (tabled_view P op op_of)
        ∙ key_tabled (λ q. num P (op, q)) (λ q. op_of (rec_of P (op, q))) (λ (o : Operation). member n (all_uses_in o)) (P.tab op).order z (λ q _. test q) z_live
        ∙ ap (λ (a : Thing). some (num P a)) (sym z_op)
        ∙ ap (λ (o : Option Con). num_opt P (outer o)) (sym H.in_slot)
      where
        z : ℕ
        z = H.slot.1.1

        z_op : H.slot.1 ≡ (op, z)
        z_op = use_holder H.slot H.in_slot

        z_live : Live P (op, z)
        z_live = subst (λ (y : Thing). Live P y) z_op (S.linked.link (usg, u) slots H.slot H.in_slot).home

        test : (q : ℕ) → bit (member n (all_uses_in (op_of (rec_of P (op, q))))) ≡ tick (ℕ_discrete q z)
        test q =
            ap₂ (λ (k : ℕ) (l : List ℕ). bit (member k l)) (sym m) (listed_uses P q)
            ∙ bit_member (num P (usg, u)) (map (num P) (place_uses_at P (op, q)))
            ∙ ap sgn (count_nums S.linked (usg, u) (place_uses_at P (op, q)) lu (live_uses S.linked (op, q)) ∙ uses_at S.linked (usg, u) (op, q) ∙ ap (λ (o : Option Con). up_to (outer o) (op, q)) H.in_slot ∙ same)
            ∙ sgn_tick (ℕ_discrete q z)
          where
            same : tick (Thing-dec H.slot.1 (op, q)) ≡ tick (ℕ_discrete q z)
            same =
                by_cases (ℕ_discrete q z)
                (λ p. tick_yes (Thing-dec H.slot.1 (op, q)) (z_op ∙ ap (λ (n : ℕ). (op, n)) (sym p)) ∙ sym (tick_yes (ℕ_discrete q z) p))
                (λ n. tick_no (Thing-dec H.slot.1 (op, q)) (λ p. n (sym (ap (λ (a : Thing). a.1) p))) ∙ sym (tick_no (ℕ_discrete q z) n))

    -- the definition of a use
    pub use_is : (n : ℕ) (d : Con) → num P (usg, u) ≡ n → P.own (usg, u) use_sets ≡ some d → find h.uses n ≡ some (name_of P d)
    unfolding hist rec_of
    use_is n d m o = find_live S.linked usg use_of u n lu m ∙ ap (λ (q : Option Con). some (def_of (home_by (num P) q))) o

  pub use_dead : (n : ℕ) → Unnamed P usg n → find h.uses n ≡ none
  unfolding hist
  use_dead n d = find_dead S.linked usg use_of n d

  -- the uses of a definition: as many as its set has
  module _ (c : Con) (d : IsDef c.0) (k : c.1.0 ≡ holder_of c.0) (lc : Live P c.1) where
    -- is this a use of it?
    pub use_test : (u : ℕ) → Live P (usg, u) → bit (same_definition (name_of P c) (use_of (rec_of P (usg, u)))) ≡ count Thing-dec (usg, u) (P.list c.1 c.0)
    use_test = use_def S c.0 c.1 d k lc

    pub uses_long : length (uses_of h (name_of P c)) ≡ length (P.list c.1 c.0)
    unfolding uses_of hist alive
    uses_long =
        ap (λ (t : Table Definition). length (keys_where (same_definition (name_of P c)) t)) (tabled_view P usg use_of)
        ∙ keys_length (λ u. num P (usg, u)) (λ u. use_of (rec_of P (usg, u))) (same_definition (name_of P c)) (P.tab usg).order
        ∙ sum_on ℕ_discrete (λ u. bit (same_definition (name_of P c) (use_of (rec_of P (usg, u))))) (λ u. count Thing-dec (usg, u) (P.list c.1 c.0)) (P.tab usg).order use_test
        ∙ sym (sum_map (λ y. count Thing-dec y (P.list c.1 c.0)) (λ u. (usg, u)) (P.tab usg).order)
        ∙ sym (length_count Thing-dec (P.list c.1 c.0) (things P usg) (set_once S c.0 c.1 d))

    -- and in rising number: the live uses that stand in its set, in the order of their births
    abbrev pub risen : List ℕ
    risen = sift (λ u. 1 - count Thing-dec (usg, u) (P.list c.1 c.0)) (P.tab usg).order

    pub uses_risen : uses_of h (name_of P c) ≡ map (λ u. num P (usg, u)) risen
    unfolding uses_of hist alive
    uses_risen =
        ap (keys_where (same_definition (name_of P c))) (tabled_view P usg use_of)
        ∙ keys_sift (λ u. num P (usg, u)) (λ u. use_of (rec_of P (usg, u))) (same_definition (name_of P c)) (λ u. count Thing-dec (usg, u) (P.list c.1 c.0)) (P.tab usg).order use_test

    pub uses_rise : Rises (λ u. num P (usg, u)) risen
    uses_rise = rises_sift (λ u. num P (usg, u)) (λ u. 1 - count Thing-dec (usg, u) (P.list c.1 c.0)) (P.tab usg).order (S.linked.tabs usg).rises
