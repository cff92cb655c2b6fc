-- What is read off a sound store by places is what the rules see of it: who lives, the lists, what a thing lies in, and of each use set the same uses.
-- Assumes nothing.
use mathlib.Core.Path.{◌≡◌, refl, sym, ap, ◌∙◌, subst}
use mathlib.Core.Logic.{⊎_elim}
use mathlib.Core.Bool.{Bool, true, false}
use mathlib.Core.List.{List, [], ◌++◌, map, map-map}
use mathlib.Core.Option.{Option, none, some}
use Prim.Native.Nat.{ℕ, ◌≤◌}
use native.Mathlib.Decide.{ℕ_discrete}
use native.Mathlib.Omega.{arith}
use borrow.Author.Tests.{ne_eqb}
use lib.ListN.{length, length-map}
use Rattle.seqs.specs.Seqs.{count, In}
use Rattle.edit.specs.Record.{Slot, Member, operation, block, Thing, the_operation, the_block, the_region, Definition, of_value, of_block}
use Rattle.rules.specs.Table.{Table, find, is_some, items, keys, keys_where, concat, one}
use Rattle.rules.specs.Table.{count as rcount}
use Rattle.rules.specs.History.{Operation, Block, History, slot_of, block_of_op, block_at, region_of, region_at, parent, live_region, live_definition, same_definition, uses_of, container}
use Rattle.rules.specs.Orders.{lists, or_empty, list_at}
use Rattle.rules.specs.Demand.{as_thing, up_from, live_thing, all_definitions}
use Rattle.rules.proofs.Sums.{where_found, where_gone}
use Rattle.places.specs.Store.{Kind, op, blk, reg, val, usg, Role, value_uses, block_uses, results, arguments, ops, blocks, use_sets, node_of, holder_of, fam, Con, State, Thing-dec, alive, Live, Link, UseHeld, Sound, up}
use Rattle.places.specs.View.{num, home_by, rec_of, view}
use Rattle.places.specs.Hist.{def_of, op_of, block_of, use_of, hist, orders_of}
use Rattle.places.specs.Roles.{Unnamed, slot_role, member_kind, container_kind}
use Rattle.places.proofs.Bits.{bit, bit_member, tabled_view, count_nums}
use Rattle.places.proofs.Cut.{pick_1, zero_or}
use Rattle.places.proofs.Tables.{items_tabled}
use Rattle.places.proofs.Steps.{thing_eq, listed}
use Rattle.places.proofs.RuleClimb.{num_opt}
use Rattle.places.proofs.RuleOutside.{IsDef, fit_def, name_of}
use Rattle.places.proofs.RuleNames.{find_live, find_dead, member_dead, operation_live, operation_dead, block_live, block_dead, region_live, region_dead, value_live, value_dead, slot_list_lem, container_is, parent_is, use_dead, use_test, uses_long}
use Rattle.script.specs.See.{member_role, thing_key, definition_key, definition_role, place_of, lives, numbers_in, list_of_role, number_of, above, all_of, see_up}
use Rattle.script.proofs.Spots.{count_is, Spot, here, nowhere, spot, keys_tabled, where_none}

bit_one : (b : Bool) → bit b ≡ one b
bit_one true = refl
bit_one false = refl

none_of : {A : Type 0} (o : Option A) → is_some o ≡ false → o ≡ none
unfolding is_some
none_of none e = refl
none_of (some a) e = absurd (let z : ◌≡◌ {A = ℕ} 0 1 = cc in omega arith)

pub number_same : (P : State) (o : Option (Kind × ℕ)) → number_of P o ≡ num_opt P o
unfolding number_of
number_same P none = refl
number_same P (some x) = refl

-- ---- what a look-up leads to

module _ (P : State) (k : Kind) (n : ℕ) where
  yes_lives : {p : ℕ} → place_of P k n ≡ some p → lives P (k, n) ≡ true
  unfolding lives is_some
  yes_lives e = ap is_some e

  no_lives : place_of P k n ≡ none → lives P (k, n) ≡ false
  unfolding lives is_some
  no_lives e = ap is_some e

  list_here : (r : Role) {p : ℕ} → place_of P k n ≡ some p → list_of_role P r (k, n) ≡ map (num P) (P.list (k, p) r)
  unfolding list_of_role numbers_in
  list_here r e = ap (numbers_in P k r) e

  list_gone : (r : Role) → place_of P k n ≡ none → list_of_role P r (k, n) ≡ []
  unfolding list_of_role numbers_in
  list_gone r e = ap (numbers_in P k r) e

  above_here : {p : ℕ} → place_of P k n ≡ some p → above P k (place_of P k n) ≡ num_opt P (up P (k, p))
  unfolding above
  above_here {p} e = ap (above P k) e ∙ number_same P (up P (k, p))

  above_gone : place_of P k n ≡ none → above P k (place_of P k n) ≡ none
  unfolding above
  above_gone e = ap (above P k) e

module _ {P : State} (S : Sound P) (e : ℕ) where
  abbrev h : History
  h = hist e (view P)

  -- ---- who lives

  pub use_lives : (u : ℕ) → lives P (usg, u) ≡ is_some (find h.uses u)
  unfolding hist is_some
  use_lives u = go (spot P usg u)
    where
      go : Spot P usg u → lives P (usg, u) ≡ is_some (find h.uses u)
      go (here p z l m) = yes_lives P usg u z ∙ sym (ap is_some (find_live S.linked usg use_of p u l m))
      go (nowhere z d) = no_lives P usg u z ∙ sym (ap is_some (use_dead S e u d))

  pub thing_lives : (t : Thing) → lives P (thing_key t) ≡ live_thing h t
  unfolding live_thing
  thing_lives (the_operation n) = go (spot P op n)
    where
      go : Spot P op n → lives P (op, n) ≡ live_thing h (the_operation n)
      go (here p z l m) = yes_lives P op n z ∙ sym (operation_live S e p n l m)
      go (nowhere z d) = no_lives P op n z ∙ sym (operation_dead S e n d)
  thing_lives (the_block n) = go (spot P blk n)
    where
      go : Spot P blk n → lives P (blk, n) ≡ live_thing h (the_block n)
      go (here p z l m) = yes_lives P blk n z ∙ sym (block_live S e p n l m)
      go (nowhere z d) = no_lives P blk n z ∙ sym (block_dead S e n d)
  thing_lives (the_region n) = go (spot P reg n)
    where
      go : Spot P reg n → lives P (reg, n) ≡ live_thing h (the_region n)
      go (here p z l m) = yes_lives P reg n z ∙ sym (region_live S e p n l m)
      go (nowhere z d) = no_lives P reg n z ∙ sym (region_dead S e n d)

  pub definition_lives : (d : Definition) → lives P (definition_key d) ≡ live_definition h d
  unfolding live_definition
  definition_lives (of_value n) = go (spot P val n)
    where
      go : Spot P val n → lives P (val, n) ≡ live_definition h (of_value n)
      go (here p z l m) = yes_lives P val n z ∙ sym (value_live S e p n l m)
      go (nowhere z d) = no_lives P val n z ∙ sym (value_dead S e n d)
  definition_lives (of_block n) = go (spot P blk n)
    where
      go : Spot P blk n → lives P (blk, n) ≡ live_definition h (of_block n)
      go (here p z l m) = yes_lives P blk n z ∙ sym (block_live S e p n l m)
      go (nowhere z d) = no_lives P blk n z ∙ sym (block_dead S e n d)

  -- ---- lists

  pub slots_same : (sl : Slot) (o : ℕ) → list_of_role P (slot_role sl) (op, o) ≡ slot_of sl (find h.operations o)
  unfolding hist slot_of
  slots_same sl o = go (spot P op o)
    where
      go : Spot P op o → list_of_role P (slot_role sl) (op, o) ≡ slot_of sl (find h.operations o)
      go (here p z l m) = list_here P op o (slot_role sl) z ∙ sym (slot_list_lem S e sl p o l m)
      go (nowhere z d) = list_gone P op o (slot_role sl) z ∙ sym (ap (slot_of sl) (find_dead S.linked op op_of o d))

  pub members_same : (w : Member) (c : ℕ) → list_of_role P (member_role w) (container_kind w, c) ≡ list_at (lists w (orders_of (view P))) c
  unfolding lists orders_of list_at or_empty rec_of
  members_same operation c = go (spot P blk c)
    where
      go : Spot P blk c → list_of_role P ops (blk, c) ≡ list_at (lists operation (orders_of (view P))) c
      go (here p z l m) = list_here P blk c ops z ∙ sym (ap or_empty (find_live S.linked blk (λ q. q.lists ops) p c l m))
      go (nowhere z d) = list_gone P blk c ops z ∙ sym (ap or_empty (find_dead S.linked blk (λ q. q.lists ops) c d))
  members_same block c = go (spot P reg c)
    where
      go : Spot P reg c → list_of_role P blocks (reg, c) ≡ list_at (lists block (orders_of (view P))) c
      go (here p z l m) = list_here P reg c blocks z ∙ sym (ap or_empty (find_live S.linked reg (λ q. q.lists blocks) p c l m))
      go (nowhere z d) = list_gone P reg c blocks z ∙ sym (ap or_empty (find_dead S.linked reg (λ q. q.lists blocks) c d))

  -- ---- what a thing lies in

  pub container_gone : (w : Member) (n : ℕ) → Unnamed P (member_kind w) n → container w h n ≡ none
  unfolding container block_at block_of_op region_at region_of hist
  container_gone operation n d = ap block_of_op (find_dead S.linked op op_of n d)
  container_gone block n d = ap region_of (find_dead S.linked blk block_of n d)

  pub up_same : (t : Thing) → see_up P t ≡ up_from h t
  unfolding see_up up_from live_region container
  up_same (the_operation n) = go (spot P op n)
    where
      go : Spot P op n → see_up P (the_operation n) ≡ up_from h (the_operation n)
      go (here p z l m) = ap (as_thing the_block) (above_here P op n z ∙ sym (container_is S e operation p n l m))
      go (nowhere z d) = ap (as_thing the_block) (above_gone P op n z ∙ sym (container_gone operation n d))
  up_same (the_block n) = go (spot P blk n)
    where
      go : Spot P blk n → see_up P (the_block n) ≡ up_from h (the_block n)
      go (here p z l m) = ap (as_thing the_region) (above_here P blk n z ∙ sym (container_is S e block p n l m))
      go (nowhere z d) = ap (as_thing the_region) (above_gone P blk n z ∙ sym (container_gone block n d))
  up_same (the_region n) = go (spot P reg n)
    where
      go : Spot P reg n → see_up P (the_region n) ≡ up_from h (the_region n)
      go (here p z l m) = ap (as_thing the_operation) (above_here P reg n z ∙ sym (parent_is S e p n l m))
      go (nowhere z d) = ap (as_thing the_operation) (above_gone P reg n z ∙ sym (none_of (parent h n) (region_dead S e n d)))

  -- ---- all definitions

  abbrev result_lists : List ℕ
  result_lists = concat (map (λ p. map (num P) (P.list (op, p) results)) (P.tab op).order)

  abbrev argument_lists : List ℕ
  argument_lists = concat (map (λ p. map (num P) (P.list (blk, p) arguments)) (P.tab blk).order)

  results_read : concat (map (λ (o : Operation). o.results) (items h.operations)) ≡ result_lists
  unfolding hist rec_of
  results_read =
      ap (λ (t : Table Operation). concat (map (λ (o : Operation). o.results) (items t))) (tabled_view P op op_of)
      ∙ ap (λ (t : List Operation). concat (map (λ (o : Operation). o.results) t)) (items_tabled (λ q. num P (op, q)) (λ q. op_of (rec_of P (op, q))) (P.tab op).order)
      ∙ ap (λ (t : List (List ℕ)). concat t) (map-map (λ (o : Operation). o.results) (λ q. op_of (rec_of P (op, q))) (P.tab op).order)

  arguments_read : concat (map (λ (b : Block). b.arguments) (items h.blocks)) ≡ argument_lists
  unfolding hist rec_of
  arguments_read =
      ap (λ (t : Table Block). concat (map (λ (b : Block). b.arguments) (items t))) (tabled_view P blk block_of)
      ∙ ap (λ (t : List Block). concat (map (λ (b : Block). b.arguments) t)) (items_tabled (λ q. num P (blk, q)) (λ q. block_of (rec_of P (blk, q))) (P.tab blk).order)
      ∙ ap (λ (t : List (List ℕ)). concat t) (map-map (λ (b : Block). b.arguments) (λ q. block_of (rec_of P (blk, q))) (P.tab blk).order)

  blocks_read : keys h.blocks ≡ map (λ p. num P (blk, p)) (P.tab blk).order
  unfolding hist
  blocks_read = ap (λ (t : Table Block). keys t) (tabled_view P blk block_of) ∙ keys_tabled (λ q. num P (blk, q)) (λ q. block_of (rec_of P (blk, q))) (P.tab blk).order

  pub all_same : all_of P ≡ all_definitions h
  unfolding all_of all_definitions
  all_same = sym
      (ap (λ (a : List ℕ). map of_value (a ++ concat (map (λ (b : Block). b.arguments) (items h.blocks))) ++ map of_block (keys h.blocks)) results_read
      ∙ ap (λ (a : List ℕ). map of_value (result_lists ++ a) ++ map of_block (keys h.blocks)) arguments_read
      ∙ ap (λ (a : List ℕ). map of_value (result_lists ++ argument_lists) ++ map of_block a) blocks_read)

  -- ---- use sets

  -- a number that no live thing has stands in no list
  unnamed_out : (y : Kind × ℕ) (r : Role) (u : ℕ) → Unnamed P (node_of r) u → count ℕ_discrete u (map (num P) (P.list y r)) ≡ 0
  unnamed_out y r u d =
      let c : ℕ = count ℕ_discrete u (map (num P) (P.list y r)) in
      ⊎_elim (λ z. z) (λ z. absurd (omega (arith, bit_member u (map (num P) (P.list y r)), ap bit (member_dead S.linked y r u d), pick_1 {A = ℕ} (count ℕ_discrete u (map (num P) (P.list y r))) 0 1 z))) (zero_or c)

  node_usg : {r : Role} → IsDef r → node_of r ≡ usg
  node_usg IsDef.of_val = refl
  node_usg IsDef.of_blk = refl

  -- of a live definition: each use as often as the rules have it
  module _ (c : Con) (d : IsDef c.0) (k : c.1.0 ≡ holder_of c.0) (lc : Live P c.1) (once : (u : ℕ) → rcount u (keys h.uses) ≤ 1) where
    set_count : (u : ℕ) → rcount u (map (num P) (P.list c.1 c.0)) ≡ rcount u (uses_of h (name_of P c))
    unfolding uses_of hist
    set_count u = count_is u (map (num P) (P.list c.1 c.0)) ∙ go (spot P usg u)
      where
        of : (x : Kind × ℕ) → In Thing-dec x (P.list c.1 c.0) → (x.0 ≡ usg) × Live P x
        of x i = let L : Link P x (fam c.0) c = S.linked.link x (fam c.0) c (listed S.linked x c.1 c.0 i) in (L.node ∙ node_usg d, L.live)

        go : Spot P usg u → count ℕ_discrete u (map (num P) (P.list c.1 c.0)) ≡ rcount u (keys_where (same_definition (name_of P c)) h.uses)
        go (here q z l m) =
            ap (λ (n : ℕ). count ℕ_discrete n (map (num P) (P.list c.1 c.0))) (sym m)
            ∙ count_nums S.linked (usg, q) (P.list c.1 c.0) l of
            ∙ sym (use_test S e c d k lc q l)
            ∙ bit_one (same_definition (name_of P c) (use_of (rec_of P (usg, q))))
            ∙ sym (where_found (same_definition (name_of P c)) u h.uses (use_of (rec_of P (usg, q))) (once u) (find_live S.linked usg use_of q u l m))
        go (nowhere z n) = unnamed_out c.1 c.0 u (subst (λ (j : Kind). Unnamed P j u) (sym (node_usg d)) n) ∙ sym (where_gone (same_definition (name_of P c)) u h.uses (use_dead S e u n))

  -- of a number that no live value or block has: no use is of it
  other_def : (d : Definition) (r : Role) (a : Kind × ℕ) → Unnamed P (definition_key d).0 (definition_key d).1 → IsDef r → a.0 ≡ holder_of r → Live P a → same_definition d (name_of P (r, a)) ≡ false
  unfolding same_definition
  other_def (of_value n) r a u IsDef.of_val k l = ne_eqb n (num P a) (λ z. let j : a ≡ (val, a.1) = thing_eq a (val, a.1) k refl in u a.1 (subst (λ (x : Kind × ℕ). Live P x) j l) (ap (num P) (sym j) ∙ sym z))
  other_def (of_value n) r a u IsDef.of_blk k l = refl
  other_def (of_block n) r a u IsDef.of_val k l = refl
  other_def (of_block n) r a u IsDef.of_blk k l = ne_eqb n (num P a) (λ z. let j : a ≡ (blk, a.1) = thing_eq a (blk, a.1) k refl in u a.1 (subst (λ (x : Kind × ℕ). Live P x) j l) (ap (num P) (sym j) ∙ sym z))

  no_uses : (d : Definition) → Unnamed P (definition_key d).0 (definition_key d).1 → uses_of h d ≡ []
  unfolding uses_of hist rec_of alive
  no_uses d n =
      ap (keys_where (same_definition d)) (tabled_view P usg use_of)
      ∙ where_none (λ u. num P (usg, u)) (λ u. use_of (rec_of P (usg, u))) (same_definition d) (P.tab usg).order test
    where
      test : (u : ℕ) → In ℕ_discrete u (P.tab usg).order → same_definition d (use_of (rec_of P (usg, u))) ≡ false
      test u l =
          let H : UseHeld (P.own (usg, u)) = S.placed (usg, u) l in
          let L : Link P (usg, u) use_sets H.def = S.linked.link (usg, u) use_sets H.def H.in_def in
          ap (λ (o : Option Con). same_definition d (def_of (home_by (num P) o))) H.in_def ∙ other_def d H.def.0 H.def.1 n (fit_def H.fit) L.holder L.home

  pub uses_same : ((u : ℕ) → rcount u (keys h.uses) ≤ 1) → (d : Definition) (u : ℕ) → rcount u (list_of_role P (definition_role d) (definition_key d)) ≡ rcount u (uses_of h d)
  uses_same once (of_value n) u = go (spot P val n)
    where
      go : Spot P val n → rcount u (list_of_role P value_uses (val, n)) ≡ rcount u (uses_of h (of_value n))
      go (here p z l m) = ap (rcount u) (list_here P val n value_uses z) ∙ set_count (value_uses, (val, p)) IsDef.of_val refl l once u ∙ ap (λ (j : ℕ). rcount u (uses_of h (of_value j))) m
      go (nowhere z d) = ap (rcount u) (list_gone P val n value_uses z ∙ sym (no_uses (of_value n) d))
  uses_same once (of_block n) u = go (spot P blk n)
    where
      go : Spot P blk n → rcount u (list_of_role P block_uses (blk, n)) ≡ rcount u (uses_of h (of_block n))
      go (here p z l m) = ap (rcount u) (list_here P blk n block_uses z) ∙ set_count (block_uses, (blk, p)) IsDef.of_blk refl l once u ∙ ap (λ (j : ℕ). rcount u (uses_of h (of_block j))) m
      go (nowhere z d) = ap (rcount u) (list_gone P blk n block_uses z ∙ sym (no_uses (of_block n) d))

  pub sizes_same : (d : Definition) → length (list_of_role P (definition_role d) (definition_key d)) ≡ length (uses_of h d)
  sizes_same (of_value n) = go (spot P val n)
    where
      go : Spot P val n → length (list_of_role P value_uses (val, n)) ≡ length (uses_of h (of_value n))
      go (here p z l m) = ap length (list_here P val n value_uses z) ∙ length-map (P.list (val, p) value_uses) (num P) ∙ sym (uses_long S e (value_uses, (val, p)) IsDef.of_val refl l) ∙ ap (λ (j : ℕ). length (uses_of h (of_value j))) m
      go (nowhere z d) = ap length (list_gone P val n value_uses z ∙ sym (no_uses (of_value n) d))
  sizes_same (of_block n) = go (spot P blk n)
    where
      go : Spot P blk n → length (list_of_role P block_uses (blk, n)) ≡ length (uses_of h (of_block n))
      go (here p z l m) = ap length (list_here P blk n block_uses z) ∙ length-map (P.list (blk, p) block_uses) (num P) ∙ sym (uses_long S e (block_uses, (blk, p)) IsDef.of_blk refl l) ∙ ap (λ (j : ℕ). length (uses_of h (of_block j))) m
      go (nowhere z d) = ap length (list_gone P blk n block_uses z ∙ sym (no_uses (of_block n) d))
