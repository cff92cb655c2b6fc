-- Demand 3 as one theorem: after every list of calls, single or script, malformed and refused ones included, of a newly started store of any
-- capacities. Assumes nothing.
use mathlib.Core.Path.{◌≡◌, refl, sym, ap, subst, ◌∙◌}
use mathlib.Core.Bool.{Bool, true, false, not, ◌&&◌, ◌||◌}
use mathlib.Core.List.{List, [], ◌∷◌}
use mathlib.Core.Option.{Option, none, some}
use Prim.Native.Nat.{ℕ, zero, suc, ◌+◌, ◌≤◌}
use native.Mathlib.Omega.{arith}
use borrow.Author.Tests.{eqb-false}
use lib.Dec.{T, eqb, eqb→eq}
use lib.ListN.{length}
use Rattle.rules.specs.Table.{find, keys, nth, or_before, is_some, some_and, sum_over, next_of, previous_of, one, count}
use Rattle.edit.specs.Record.{Slot, operand, successor, Member, operation, block, Definition, Edit}
use Rattle.rules.specs.History.{Operation, Five, History, births, bear, plus, begin, carry_out, remember, slot_of, uses_in, uses_of, container, same_definition, live_operation, live_block, live_definition}
use Rattle.rules.specs.Orders.{reorder, lists, list_at, live_container}
use Rattle.rules.specs.State.{State, accept, start}
use Rattle.rules.specs.Refusal.{named, from_state, refusal_of, first_missing}
use Rattle.rules.specs.Calls.{Call, after, all_answers}
use Rattle.rules.specs.Told.{recall, told, told_orders, gives, born, ended_uses, ends_use, ends_operation, ends_block, ended, lives, use_lives, operation_lives, block_lives, placing, placed_at}
use Rattle.rules.specs.Demand.{Place, stands_at, up_from, live_thing, all_definitions, members_of, view, container_thing, tally, HeldBy, StandsAt, Demand3}
use Rattle.rules.proofs.Tables.{weigh_at, weigh_two, Every-find}
use Rattle.rules.proofs.Closure.{or_else_zero, after_told}
use Rattle.rules.proofs.Live.{all_found, IsLive}
use Rattle.rules.proofs.Places.{total}
use Rattle.rules.proofs.Inside.{rising_once}
use Rattle.rules.proofs.Laws.{none_some, is_true, spread, spread_found}
use Rattle.rules.proofs.Listed.{at_home, container_live, found_count, key_found}
use Rattle.rules.proofs.Tracks.{reads, operations_told, blocks_told, uses_read, ended_read, lives_placed}
use Rattle.rules.proofs.Sorts.{total_slots, slot_total}
use Rattle.rules.proofs.Inward.{not_in_itself}
use Rattle.rules.proofs.Neighbours.{next_later, previous_first, next_back, previous_on, index_of, nth_count, nth_once}
use Rattle.rules.proofs.Sums.{same_flip, once_each, sum_uses, where_found, where_gone}
use Rattle.rules.proofs.Core.{Core, core_accept, core_start}
use Rattle.rules.proofs.Read.{Small}

-- ---- what every accepted edit keeps

pub record Kept (s : State) (log : List Edit) : Type 0 where
  pub core : Core s
  pub same : s.history ≡ told log
  pub orders : s.orders ≡ told_orders log
  pub uses : (u : ℕ) → find s.history.uses u ≡ reads (use_lives log u) (placed_at log u)
  pub ops : (n : ℕ) → live_operation s.history n ≡ operation_lives log n
  pub blks : (n : ℕ) → live_block s.history n ≡ block_lives log n

module _ (e : Edit) (s : State) (l : List Edit) (f : Small e) (k : T (eqb (refusal_of s e) 0)) (w : Kept s l) where
  passed : T (eqb (first_missing s.history (named e)) 0) × T (eqb (from_state s e) 0)
  passed = unfold refusal_of in (or_else_zero (first_missing s.history (named e)) (from_state s e) k)

  same_after : (accept e s).history ≡ told (e ∷ l)
  same_after = unfold accept told in (ap (remember e) w.same)

  orders_after : (accept e s).orders ≡ told_orders (e ∷ l)
  orders_after = unfold accept told_orders told in (ap (λ (h : History). reorder e h (remember e h) s.orders) w.same ∙ ap (reorder e (told l) (remember e (told l))) w.orders)

  uses_after : (u : ℕ) → find (accept e s).history.uses u ≡ reads (use_lives (e ∷ l) u) (placed_at (e ∷ l) u)
  unfolding accept remember bear use_lives lives placed_at
  uses_after u =
      subst (λ (h : History). find (carry_out e s.history).uses u ≡ reads (gives (λ q. q.uses) e h u || (use_lives l u && not (ends_use e h u))) (or_before (placing e h u) (placed_at l u))) w.same
      (uses_read e s u (use_lives l u) (placed_at l u) w.core.nesting.owning.ordered.us w.core.placed (all_found s.history (named e) passed.0) passed.1 (w.uses u))

  ops_after : (n : ℕ) → live_operation (accept e s).history n ≡ operation_lives (e ∷ l) n
  unfolding accept remember bear operation_lives lives live_operation
  ops_after n =
      subst (λ (h : History). live_operation (carry_out e s.history) n ≡ gives (λ q. q.operations) e h n || (operation_lives l n && not (ends_operation e h n))) w.same
      (subst (λ (b : Bool). live_operation (carry_out e s.history) n ≡ gives (λ q. q.operations) e s.history n || (b && not (ends_operation e s.history n))) (w.ops n) (operations_told e s.history n w.core.nesting.owning.ordered.ops))

  blks_after : (n : ℕ) → live_block (accept e s).history n ≡ block_lives (e ∷ l) n
  unfolding accept remember bear block_lives lives live_block
  blks_after n =
      subst (λ (h : History). live_block (carry_out e s.history) n ≡ gives (λ q. q.blocks) e h n || (block_lives l n && not (ends_block e h n))) w.same
      (subst (λ (b : Bool). live_block (carry_out e s.history) n ≡ gives (λ q. q.blocks) e s.history n || (b && not (ends_block e s.history n))) (w.blks n) (blocks_told e s.history n w.core.nesting.owning.ordered.blks))

  pub kept_accept : Kept (accept e s) (e ∷ l)
  kept_accept = record {
    core = core_accept e s f k w.core;
    same = same_after;
    orders = orders_after;
    uses = uses_after;
    ops = ops_after;
    blks = blks_after;
  }

pub kept_start : (k : Five) → Kept (start k) []
kept_start k = record {
  core = core_start k;
  same = unfold start told in refl;
  orders = unfold start told_orders in refl;
  uses = λ u. unfold start begin find use_lives lives in refl;
  ops = λ n. unfold start begin find is_some live_operation operation_lives lives in refl;
  blks = λ n. unfold start begin find is_some live_block block_lives lives in refl;
}

pub every_call_keeps : (k : Five) (cs : List Call) → Kept (after (start k) cs) (recall [] cs (all_answers (start k) cs))
every_call_keeps k cs = after_told Kept kept_accept cs (start k) [] (kept_start k)

-- ---- the demand, from what is kept

reads_is : (alive : Bool) (pl : Option Definition) → (T alive → T (is_some pl)) → is_some (reads alive pl) ≡ alive
unfolding is_some
reads_is true none f = absurd (f tt)
reads_is true (some d) f = refl
reads_is false pl f = refl

reads_at : (alive : Bool) (pl : Option Definition) (d : Definition) → reads alive pl ≡ some d → pl ≡ some d
reads_at true pl d e = e
reads_at false pl d e = absurd (none_some e)

place_same : (p q : Place) → p.slot ≡ q.slot → p.operation ≡ q.operation → p.index ≡ q.index → p ≡ q
place_same p q a b c =
    ap (λ (x : Slot). record { slot = x; operation = p.operation; index = p.index }) a
    ∙ ap (λ (x : ℕ). record { slot = q.slot; operation = x; index = p.index }) b
    ∙ ap (λ (x : ℕ). record { slot = q.slot; operation = q.operation; index = x }) c

same_by : (x y : Slot) → ((x ≡ y → ⊥) → ⊥) → x ≡ y
same_by operand operand z = refl
same_by operand successor z = absurd (z (λ v. let a : ◌≡◌ {A = ℕ} 0 1 = cc in omega arith))
same_by successor operand z = absurd (z (λ v. let a : ◌≡◌ {A = ℕ} 0 1 = cc in omega arith))
same_by successor successor z = refl

nat_by : (m n : ℕ) → ((m ≡ n → ⊥) → ⊥) → m ≡ n
nat_by m n z = go (eqb m n) refl
  where
    go : (b : Bool) → eqb m n ≡ b → m ≡ n
    go true e = eqb→eq m n (is_true e)
    go false e = absurd (z (eqb-false m n e))

-- the counts of the history are those of the reading
born_told : (l : List Edit) → (told l).born ≡ born l
unfolding told born remember bear begin
born_told [] = refl
born_told (e ∷ l) = ap (λ (k : Five). plus k (births e)) (born_told l)

ended_told : (l : List Edit) → (told l).ended ≡ ended l
unfolding told ended remember bear begin
ended_told [] = refl
ended_told (e ∷ l) = ended_read e (told l) ∙ ap (λ (n : ℕ). n + length (ended_uses e (told l))) (ended_told l)

home_some : (o : Option ℕ) (c : ℕ) → 1 ≤ one (at_home o c) → o ≡ some c
unfolding some_and
home_some none c k = absurd (omega arith)
home_some (some d) c k = go (eqb d c) refl k
  where
    go : (b : Bool) → eqb d c ≡ b → 1 ≤ one b → some d ≡ some c
    go true z q = ap some (eqb→eq d c (is_true z))
    go false z q = absurd (omega arith)

one_most : (b : Bool) → one b ≤ 1
one_most true = omega arith
one_most false = omega arith

module _ (s : State) (l : List Edit) (w : Kept s l) where
  abbrev h : History
  h = s.history

  held_once : (u : ℕ) → T (is_some (find h.uses u)) → total u h.operations ≡ 1
  held_once u k = omega (arith, w.core.placed.agree u, w.core.placed.once u, found_count h.uses u k)

  use_held' : (u : ℕ) → is_some (find h.uses u) ≡ use_lives l u
  use_held' u = ap is_some (w.uses u) ∙ reads_is (use_lives l u) (placed_at l u) (lives_placed l u)

  found_use : (u : ℕ) → T (is_some (find h.uses u)) → (d : Definition) × (find h.uses u ≡ some d)
  unfolding is_some
  found_use u k = go (find h.uses u) refl k
    where
      go : (o : Option Definition) → find h.uses u ≡ o → T (is_some o) → (d : Definition) × (find h.uses u ≡ some d)
      go none z q = absurd q
      go (some d) z q = (d, z)

  in_set : (u : ℕ) (d c : Definition) → find h.uses u ≡ some d → count u (uses_of h c) ≡ one (same_definition d c)
  unfolding uses_of
  in_set u d c e = where_found (same_definition c) u h.uses d (w.core.placed.once u) e ∙ ap one (same_flip c d)

  use_defined' : (u : ℕ) → T (is_some (find h.uses u)) → HeldBy (view s) l u
  unfolding view
  use_defined' u k =
      let f = found_use u k in
      record {
        definition = f.0;
        named = reads_at (use_lives l u) (placed_at l u) f.0 (sym (w.uses u) ∙ f.1);
        live = Every-find (IsLive h) h.uses w.core.held u f.0 f.1;
        only = λ d. in_set u f.0 d f.1;
      }

  -- a use in a slot's list
  in_slot : (sl : Slot) (u n i : ℕ) → nth (slot_of sl (find h.operations n)) i ≡ some u → (a : Operation) × (find h.operations n ≡ some a) × (nth (uses_in sl a) i ≡ some u)
  unfolding slot_of nth
  in_slot sl u n i e = go (find h.operations n) refl e
    where
      go : (o : Option Operation) → find h.operations n ≡ o → nth (slot_of sl o) i ≡ some u → (a : Operation) × (find h.operations n ≡ some a) × (nth (uses_in sl a) i ≡ some u)
      go none z q = absurd (none_some q)
      go (some a) z q = (a, z, q)

  stands_spread : (sl : Slot) (u n i : ℕ) → nth (slot_of sl (find h.operations n)) i ≡ some u → 1 ≤ spread (uses_in sl) u h.operations
  stands_spread sl u n i e = let f = in_slot sl u n i e in omega (arith, nth_count u i (uses_in sl f.0) f.2, weigh_at (λ a. count u ((uses_in sl) a)) n h.operations f.0 f.1)

  both_slots : (x y : Slot) (u : ℕ) → (x ≡ y → ⊥) → spread (uses_in x) u h.operations + spread (uses_in y) u h.operations ≡ total u h.operations
  both_slots operand operand u z = absurd (z refl)
  both_slots operand successor u z = omega (arith, total_slots u h.operations)
  both_slots successor operand u z = omega (arith, total_slots u h.operations)
  both_slots successor successor u z = absurd (z refl)

  -- two places of one use are one place
  one_place : (u : ℕ) → total u h.operations ≡ 1 → (x y : Slot) (n m i j : ℕ) → nth (slot_of x (find h.operations n)) i ≡ some u → nth (slot_of y (find h.operations m)) j ≡ some u → (x ≡ y) × (n ≡ m) × (i ≡ j)
  one_place u t x y n m i j e f = (slots, ops, indexes)
    where
      slots : x ≡ y
      slots = same_by x y (λ z. omega (arith, both_slots x y u z, stands_spread x u n i e, stands_spread y u m j f))

      f' : nth (slot_of x (find h.operations m)) j ≡ some u
      f' = subst (λ (q : Slot). nth (slot_of q (find h.operations m)) j ≡ some u) (sym slots) f

      a : (o : Operation) × (find h.operations n ≡ some o) × (nth (uses_in x o) i ≡ some u)
      a = in_slot x u n i e

      ops : n ≡ m
      ops = nat_by n m (λ z. let b = in_slot x u m j f' in omega (arith, weigh_two (λ a. count u ((uses_in x) a)) n m h.operations a.0 b.0 z a.1 b.1, nth_count u i (uses_in x a.0) a.2, nth_count u j (uses_in x b.0) b.2, slot_total x u h.operations))

      indexes : i ≡ j
      indexes =
          let b = in_slot x u n j (subst (λ (q : ℕ). nth (slot_of x (find h.operations q)) j ≡ some u) (sym ops) f') in
          nth_once u i j (uses_in x a.0) (omega (arith, weigh_at (λ a. count u ((uses_in x) a)) n h.operations a.0 a.1, slot_total x u h.operations)) a.2 (subst (λ (o : Operation). nth (uses_in x o) j ≡ some u) (let z : b.0 ≡ a.0 = cc (b.1, a.1) in z) b.2)

  at_place : (sl : Slot) (u : ℕ) → T (is_some (find h.uses u)) → 1 ≤ spread (uses_in sl) u h.operations → StandsAt (view s) l u
  unfolding view stands_at
  at_place sl u k q =
      let f = spread_found (uses_in sl) u 0 _ h.operations w.core.nesting.owning.ordered.ops.rising q in
      let g = index_of u (uses_in sl f.1) f.3 in
      let here : nth (slot_of sl (find h.operations f.0)) g.0 ≡ some u = unfold slot_of in (ap (λ (o : Option Operation). nth (slot_of sl o) g.0) f.2 ∙ g.1) in
      let p : Place = record { slot = sl; operation = f.0; index = g.0 } in
      record {
        place = p;
        told_here = ap (λ (x : History). nth (slot_of sl (find x.operations f.0)) g.0) (sym w.same) ∙ here;
        here = here;
        only = λ r e. let z = one_place u (held_once u k) r.slot sl r.operation f.0 r.index g.0 e here in place_same r p z.0 z.1 z.2;
        sort = λ d e. let c = found_use u k in w.core.sorts.fits sl u d (c.1 ∙ sym (reads_at (use_lives l u) (placed_at l u) c.0 (sym (w.uses u) ∙ c.1)) ∙ e) q;
      }

  use_stands' : (u : ℕ) → T (is_some (find h.uses u)) → StandsAt (view s) l u
  use_stands' u k = go (spread (uses_in operand) u h.operations) refl
    where
      go : (n : ℕ) → spread (uses_in operand) u h.operations ≡ n → StandsAt (view s) l u
      go zero z = at_place successor u k (omega (arith, held_once u k, total_slots u h.operations))
      go (suc n) z = at_place operand u k (omega arith)

  in_hands : (u : ℕ) → total u h.operations ≡ count u (keys h.uses)
  in_hands u = omega (arith, w.core.placed.agree u)

  no_other_stands' : (u : ℕ) (p : Place) → stands_at (view s) p ≡ some u → T (is_some (find h.uses u))
  unfolding view stands_at
  no_other_stands' u p e = key_found h.uses u (omega (arith, in_hands u, stands_spread p.slot u p.operation p.index e, slot_total p.slot u h.operations))

  no_other_held' : (u : ℕ) (d : Definition) → T (not (is_some (find h.uses u))) → count u (uses_of h d) ≡ 0
  unfolding is_some uses_of
  no_other_held' u d k = where_gone (same_definition d) u h.uses (go (find h.uses u) k)
    where
      go : (o : Option Definition) → T (not (is_some o)) → o ≡ none
      go none q = refl
      go (some a) q = absurd q

  each_once : (d : Definition) → tally d (all_definitions h) ≡ one (live_definition h d)
  each_once = once_each h _ _ w.core.values w.core.nesting.owning.ordered.blks

  sizes' : sum_over (λ d. length (uses_of h d)) (all_definitions h) + ended l ≡ (born l).uses
  sizes' = omega (arith, sum_uses h w.core.held each_once, w.core.placed.sum, ap (λ (x : History). x.ended) w.same, ended_told l, ap (λ (x : History). x.born.uses) w.same, ap (λ (x : Five). x.uses) (born_told l))

  -- ---- lists

  list_once : (m : Member) (c x : ℕ) → count x (list_at (lists m s.orders) c) ≤ 1
  list_once m c x = omega (arith, (w.core.listed m).agree x c, one_most (at_home (container m h x) c))

  home_of_lem : (m : Member) (c x : ℕ) → 1 ≤ count x (list_at (lists m s.orders) c) → container m h x ≡ some c
  home_of_lem m c x k = home_some (container m h x) c (omega (arith, (w.core.listed m).agree x c))

  next_previous : (m : Member) (x y : ℕ) → next_of x (members_of m s (container m h x)) ≡ some y → previous_of y (members_of m s (container m h y)) ≡ some x
  unfolding members_of
  next_previous m x y e = go (container m h x) refl e
    where
      in_tail : (xs : List ℕ) → next_of x xs ≡ some y → 1 ≤ count y xs
      in_tail [] q = absurd (none_some {a = y} (unfold next_of in q))
      in_tail (z ∷ zs) q = omega (arith, next_later x y z zs q)

      go : (o : Option ℕ) → container m h x ≡ o → next_of x (members_of m s o) ≡ some y → previous_of y (members_of m s (container m h y)) ≡ some x
      go none z q = absurd (none_some {a = y} (unfold next_of in q))
      go (some c) z q = rw (home_of_lem m c y (in_tail (list_at (lists m s.orders) c) q)) (next_back x y (list_at (lists m s.orders) c) (list_once m c) q)

  previous_next : (m : Member) (x y : ℕ) → previous_of y (members_of m s (container m h y)) ≡ some x → next_of x (members_of m s (container m h x)) ≡ some y
  unfolding members_of
  previous_next m x y e = go (container m h y) refl e
    where
      go : (o : Option ℕ) → container m h y ≡ o → previous_of y (members_of m s o) ≡ some x → next_of x (members_of m s (container m h x)) ≡ some y
      go none z q = absurd (none_some {a = x} (unfold previous_of in q))
      go (some c) z q = rw (home_of_lem m c x (previous_first x y (list_at (lists m s.orders) c) q)) (previous_on x y (list_at (lists m s.orders) c) (list_once m c) q)

  thing_held : (m : Member) (c : ℕ) → T (live_container m h c) → T (live_thing h (container_thing m c))
  unfolding live_container live_thing container_thing
  thing_held operation c t = t
  thing_held block c t = t

  nested_once : (n : ℕ) → count n w.core.nesting.hung.list ≤ 1
  nested_once n = omega (arith, w.core.nesting.hung.nested.same n, rising_once 0 _ n h.operations w.core.nesting.owning.ordered.ops.rising)

  in_told : (m : Member) (x : ℕ) → container m h x ≡ container m (told l) x
  in_told m x = ap (λ (k : History). container m k x) w.same

  pub demanded : Demand3 (view s) l
  unfolding view live_thing
  demanded = record {
    use_held = use_held';
    operation_held = w.ops;
    block_held = w.blks;
    use_defined = use_defined';
    live_told = λ d. ap (λ (k : History). live_definition k d) w.same;
    use_stands = use_stands';
    no_other_held = no_other_held';
    no_other_stands = no_other_stands';
    sizes = sizes';
    all_sizes = each_once;
    listed = λ m x c. (w.core.listed m).agree x c ∙ ap (λ (k : History). one (at_home (container m k x) c)) w.same;
    list_held = λ m x c e. thing_held m c (container_live m h (lists m s.orders) (w.core.listed m) x c (ap (λ (k : History). container m k x) w.same ∙ e));
    neighbours = next_previous;
    neighbours_back = previous_next;
    next_follows = λ m x c e. ap (λ (o : Option ℕ). next_of x (members_of m s o)) (in_told m x ∙ e) ∙ unfold members_of in refl;
    previous_precedes = λ m x c e. ap (λ (o : Option ℕ). previous_of x (members_of m s o)) (in_told m x ∙ e) ∙ unfold members_of in refl;
    up_told = λ t. ap (λ (k : History). up_from k t) w.same;
    outside_itself = not_in_itself h w.core.nesting.hung.list w.core.nesting.hung.nested nested_once;
  }

-- DEMAND 3
pub demand_3 : (k : Five) (cs : List Call) → Demand3 (view (after (start k) cs)) (recall [] cs (all_answers (start k) cs))
demand_3 k cs = demanded (after (start k) cs) (recall [] cs (all_answers (start k) cs)) (every_call_keeps k cs)
