-- No table grows past its capacity, in every sound state. Assumes nothing.
use mathlib.Core.Path.{◌≡◌, refl, sym, ap, ◌∙◌}
use mathlib.Core.Bool.{Bool, true, false, not, cond, ◌||◌}
use mathlib.Core.List.{List, [], ◌∷◌, ◌++◌}
use Prim.Native.Nat.{ℕ, suc, ◌+◌, ◌-◌, ◌≤◌}
use native.Mathlib.Omega.{arith}
use borrow.Author.Tests.{ltb-true, ltb-false}
use lib.Dec.{T, eqb, leb, ltb}
use lib.ListN.{length, replicate, length-append, length-replicate}
use Rattle.rules.specs.Table.{Table, keys, change, change_all, keep_keys, number, keep, without, put_after, put_before}
use Rattle.edit.specs.Record.{Member, operation, block, Edit, new_operation, new_block, push_use, insert_use, replace_use, remove_use, pop_use, push_value, insert_value, remove_value, pop_value, link_after, link_before, link_front, link_back, unlink, move_region, move_use, replace_some, retarget_some, drop_uses, erase_operation, erase_block, erase_region, verdict}
use Rattle.rules.specs.History.{Five, History, births, bear, plus, zeros, remember, live_operation, live_value}
use Rattle.rules.specs.Orders.{containers, live_member, live_container, if_same, still_live, new_lists, order, reorder, lists}
use Rattle.rules.specs.State.{State, accept, new_flags, new_types}
use Rattle.rules.specs.Refusal.{check, from_state, refusal_of, first_missing, named, no_room, lacks, places, live_counts, slot_length, values_length}
use Rattle.rules.specs.Told.{ended_uses}
use Rattle.rules.proofs.Rising.{given_born}
use Rattle.rules.proofs.Closure.{or_else_zero}
use Rattle.rules.proofs.Live.{zero_first}
use Rattle.rules.proofs.Places.{Placed, length_keys, keys_change, keys_change_all, keys_number, length_up}
use Rattle.rules.proofs.Nest.{count_length}
use Rattle.rules.proofs.Listed.{Listed}
use Rattle.rules.proofs.Tracks.{ended_read}
use Rattle.rules.proofs.FlagsTypes.{Flagged}

-- ---- lengths of tables

module _ {A : Type 0} where
  kept_length : (p : ℕ → Bool) (t : Table A) → length (keep_keys p t) ≤ length t
  unfolding keep_keys
  kept_length p [] = omega arith
  kept_length p (e ∷ t) = go (p e.0) (kept_length p t)
    where
      go : (b : Bool) → length (keep_keys p t) ≤ length t → length (cond b (e ∷ keep_keys p t) (keep_keys p t)) ≤ suc (length t)
      go true ih = omega arith
      go false ih = omega arith

  changed_length : (n : ℕ) (f : A → A) (t : Table A) → length (change n f t) ≡ length t
  changed_length n f t = length_keys (change n f t) ∙ ap length (keys_change n f t) ∙ sym (length_keys t)

  mapped_length : (f : ℕ → A → A) (t : Table A) → length (change_all f t) ≡ length t
  mapped_length f t = length_keys (change_all f t) ∙ ap length (keys_change_all f t) ∙ sym (length_keys t)

  number_length : (n : ℕ) (xs : List A) → length (number n xs) ≡ length xs
  number_length n xs = length_keys (number n xs) ∙ ap length (keys_number n xs) ∙ length_up n (length xs)

-- ---- the lists of one sort

if_length : (m w : Member) (t u : Table (List ℕ)) (n : ℕ) → length t ≤ n → length u ≤ n → length (if_same m w t u) ≤ n
unfolding if_same
if_length operation operation t u n a b = a
if_length operation block t u n a b = b
if_length block operation t u n a b = b
if_length block block t u n a b = a

new_length : (m : Member) (e : Edit) (h : History) (t : Table (List ℕ)) → length (new_lists m e h t) ≤ length t + containers m (births e)
unfolding new_lists
new_length m e h t = omega (arith, length-append t (number (containers m h.born) empties), number_length (containers m h.born) empties, sizes)
  where
    empties : List (List ℕ)
    empties = replicate (containers m (births e)) []

    sizes : length empties ≡ containers m (births e)
    sizes = length-replicate (containers m (births e)) []

live_length : (m : Member) (k : History) (t : Table (List ℕ)) → length (still_live m k t) ≤ length t
unfolding still_live
live_length m k t = omega (arith, mapped_length (λ _. keep') (keep_keys inside t), kept_length inside t)
  where
    inside : ℕ → Bool
    inside = live_container m k

    keep' : List ℕ → List ℕ
    keep' = keep (live_member m k)

order_length : (m : Member) (e : Edit) (h k : History) (t : Table (List ℕ)) → length (order m e h k t) ≤ length t + containers m (births e)
unfolding order
order_length m (new_operation fl ts vs bs g) h k t = new_length m (new_operation fl ts vs bs g) h t
order_length m (new_block ts) h k t = new_length m (new_block ts) h t
order_length m (push_use sl o d) h k t = omega arith
order_length m (insert_use sl o i d) h k t = omega arith
order_length m (replace_use sl o i d) h k t = omega arith
order_length m (remove_use sl o i) h k t = omega arith
order_length m (pop_use sl o) h k t = omega arith
order_length m (push_value w o ty) h k t = omega arith
order_length m (insert_value w o i ty) h k t = omega arith
order_length m (remove_value w o i) h k t = omega arith
order_length m (pop_value w o) h k t = omega arith
order_length m (link_after w x c) h k t = omega (arith, if_length m w (change_all (λ _. put_after c x) t) t (length t) (omega (arith, mapped_length (λ _. put_after c x) t)) (omega arith))
order_length m (link_before w x c) h k t = omega (arith, if_length m w (change_all (λ _. put_before c x) t) t (length t) (omega (arith, mapped_length (λ _. put_before c x) t)) (omega arith))
order_length m (link_front w x c) h k t = omega (arith, if_length m w (change c (λ xs. x ∷ xs) t) t (length t) (omega (arith, changed_length c (λ xs. x ∷ xs) t)) (omega arith))
order_length m (link_back w x c) h k t = omega (arith, if_length m w (change c (λ xs. xs ++ (x ∷ [])) t) t (length t) (omega (arith, changed_length c (λ xs. xs ++ (x ∷ [])) t)) (omega arith))
order_length m (unlink w x) h k t = omega (arith, if_length m w (change_all (λ _. without x) t) t (length t) (omega (arith, mapped_length (λ _. without x) t)) (omega arith))
order_length m (move_region r o) h k t = omega arith
order_length m (move_use sl a u b) h k t = omega arith
order_length m (replace_some a b us) h k t = omega arith
order_length m (retarget_some a b ps) h k t = omega arith
order_length m (drop_uses th) h k t = omega arith
order_length m (erase_operation n) h k t = omega (arith, live_length m k t)
order_length m (erase_block n) h k t = omega (arith, live_length m k t)
order_length m (erase_region o i) h k t = omega (arith, live_length m k t)
order_length m (verdict th) h k t = omega arith

-- ---- what an edit wants

wants : (e : Edit) → ((births e).operations ≡ (places e).operations) × ((births e).blocks ≡ (places e).blocks) × ((births e).regions ≡ (places e).regions) × ((births e).values ≡ (places e).values)
unfolding births places zeros
wants (new_operation fl ts vs bs g) = (refl, refl, refl, refl)
wants (new_block ts) = (refl, refl, refl, refl)
wants (push_use sl o d) = (refl, refl, refl, refl)
wants (insert_use sl o i d) = (refl, refl, refl, refl)
wants (replace_use sl o i d) = (refl, refl, refl, refl)
wants (remove_use sl o i) = (refl, refl, refl, refl)
wants (pop_use sl o) = (refl, refl, refl, refl)
wants (push_value w o ty) = (refl, refl, refl, refl)
wants (insert_value w o i ty) = (refl, refl, refl, refl)
wants (remove_value w o i) = (refl, refl, refl, refl)
wants (pop_value w o) = (refl, refl, refl, refl)
wants (link_after w x c) = (refl, refl, refl, refl)
wants (link_before w x c) = (refl, refl, refl, refl)
wants (link_front w x c) = (refl, refl, refl, refl)
wants (link_back w x c) = (refl, refl, refl, refl)
wants (unlink w x) = (refl, refl, refl, refl)
wants (move_region r o) = (refl, refl, refl, refl)
wants (move_use sl a u b) = (refl, refl, refl, refl)
wants (replace_some a b us) = (refl, refl, refl, refl)
wants (retarget_some a b ps) = (refl, refl, refl, refl)
wants (drop_uses th) = (refl, refl, refl, refl)
wants (erase_operation n) = (refl, refl, refl, refl)
wants (erase_block n) = (refl, refl, refl, refl)
wants (erase_region o i) = (refl, refl, refl, refl)
wants (verdict th) = (refl, refl, refl, refl)

wants_uses : (e : Edit) (h : History) → (births e).uses ≤ (places e).uses + length (ended_uses e h)
unfolding births places zeros ended_uses
wants_uses (new_operation fl ts vs bs g) h = omega arith
wants_uses (new_block ts) h = omega arith
wants_uses (push_use sl o d) h = omega arith
wants_uses (insert_use sl o i d) h = omega arith
wants_uses (replace_use sl o i d) h = omega arith
wants_uses (remove_use sl o i) h = omega arith
wants_uses (pop_use sl o) h = omega arith
wants_uses (push_value w o ty) h = omega arith
wants_uses (insert_value w o i ty) h = omega arith
wants_uses (remove_value w o i) h = omega arith
wants_uses (pop_value w o) h = omega arith
wants_uses (link_after w x c) h = omega arith
wants_uses (link_before w x c) h = omega arith
wants_uses (link_front w x c) h = omega arith
wants_uses (link_back w x c) h = omega arith
wants_uses (unlink w x) h = omega arith
wants_uses (move_region r o) h = omega arith
wants_uses (move_use sl a u b) h = omega arith
wants_uses (replace_some a b us) h = omega arith
wants_uses (retarget_some a b ps) h = omega arith
wants_uses (drop_uses th) h = omega arith
wants_uses (erase_operation n) h = omega arith
wants_uses (erase_block n) h = omega arith
wants_uses (erase_region o i) h = omega arith
wants_uses (verdict th) h = omega arith

none_lacking : (cap live : Five) → T (not (lacks cap live zeros))
unfolding lacks zeros
none_lacking cap live = five (ltb (cap.operations - live.operations) 0) (no (cap.operations - live.operations)) (ltb (cap.blocks - live.blocks) 0) (no (cap.blocks - live.blocks)) (ltb (cap.regions - live.regions) 0) (no (cap.regions - live.regions)) (ltb (cap.values - live.values) 0) (no (cap.values - live.values)) (ltb (cap.uses - live.uses) 0) (no (cap.uses - live.uses))
  where
    no : (n : ℕ) → ltb n 0 ≡ false
    no n = go (ltb n 0) refl
      where
        go : (b : Bool) → ltb n 0 ≡ b → b ≡ false
        go true z = absurd (omega (arith, ltb-true n 0 z))
        go false z = refl

    five : (a : Bool) → a ≡ false → (b : Bool) → b ≡ false → (c : Bool) → c ≡ false → (d : Bool) → d ≡ false → (e : Bool) → e ≡ false → T (not (a || b || c || d || e))
    five a p b q c r d s e t = rw p (rw q (rw r (rw s (rw t tt))))

room_tested : (s : State) (e : Edit) → T (eqb (no_room s e) 0) → T (not (lacks s.capacities (live_counts s) (places e)))
unfolding no_room
room_tested s e k = (zero_first (lacks s.capacities (live_counts s) (places e)) 20 _ tt k).0

grown : (n i r : ℕ) → T (eqb (check (ltb n i) 12 (check (leb 64 n) 19 r)) 0) → T (eqb r 0)
grown n i r k = (zero_first (leb 64 n) 19 r tt (zero_first (ltb n i) 12 (check (leb 64 n) 19 r) tt k).1).1

pub roomy : (e : Edit) (s : State) → T (eqb (from_state s e) 0) → T (not (lacks s.capacities (live_counts s) (places e)))
unfolding from_state
roomy (new_operation fl ts vs bs g) s k = room_tested s (new_operation fl ts vs bs g) k
roomy (new_block ts) s k = room_tested s (new_block ts) k
roomy (push_use sl o d) s k = room_tested s (push_use sl o d) (zero_first (leb 64 (slot_length s.history sl o)) 19 (no_room s (push_use sl o d)) tt k).1
roomy (insert_use sl o i d) s k = room_tested s (insert_use sl o i d) (grown (slot_length s.history sl o) i (no_room s (insert_use sl o i d)) k)
roomy (replace_use sl o i d) s k = unfold places in (none_lacking s.capacities (live_counts s))
roomy (remove_use sl o i) s k = unfold places in (none_lacking s.capacities (live_counts s))
roomy (pop_use sl o) s k = unfold places in (none_lacking s.capacities (live_counts s))
roomy (push_value w o ty) s k = room_tested s (push_value w o ty) (zero_first (leb 64 (values_length s.history w o)) 19 (no_room s (push_value w o ty)) tt k).1
roomy (insert_value w o i ty) s k = room_tested s (insert_value w o i ty) (grown (values_length s.history w o) i (no_room s (insert_value w o i ty)) k)
roomy (remove_value w o i) s k = unfold places in (none_lacking s.capacities (live_counts s))
roomy (pop_value w o) s k = unfold places in (none_lacking s.capacities (live_counts s))
roomy (link_after w x c) s k = unfold places in (none_lacking s.capacities (live_counts s))
roomy (link_before w x c) s k = unfold places in (none_lacking s.capacities (live_counts s))
roomy (link_front w x c) s k = unfold places in (none_lacking s.capacities (live_counts s))
roomy (link_back w x c) s k = unfold places in (none_lacking s.capacities (live_counts s))
roomy (unlink w x) s k = unfold places in (none_lacking s.capacities (live_counts s))
roomy (move_region r o) s k = unfold places in (none_lacking s.capacities (live_counts s))
roomy (move_use sl a u b) s k = unfold places in (none_lacking s.capacities (live_counts s))
roomy (replace_some a b us) s k = unfold places in (none_lacking s.capacities (live_counts s))
roomy (retarget_some a b ps) s k = unfold places in (none_lacking s.capacities (live_counts s))
roomy (drop_uses th) s k = unfold places in (none_lacking s.capacities (live_counts s))
roomy (erase_operation n) s k = unfold places in (none_lacking s.capacities (live_counts s))
roomy (erase_block n) s k = unfold places in (none_lacking s.capacities (live_counts s))
roomy (erase_region o i) s k = unfold places in (none_lacking s.capacities (live_counts s))
roomy (verdict th) s k = unfold places in (none_lacking s.capacities (live_counts s))

-- ---- the tables fit

pub record Fits (s : State) : Type 0 where
  pub ops : length s.history.operations ≤ s.capacities.operations
  pub blks : length s.history.blocks ≤ s.capacities.blocks
  pub regs : length s.orders.blocks_of ≤ s.capacities.regions
  pub vals : length s.types ≤ s.capacities.values
  pub us : length s.history.uses ≤ s.capacities.uses

enough : (cap live want : Five) → T (not (lacks cap live want)) → (want.operations ≤ cap.operations - live.operations) × (want.blocks ≤ cap.blocks - live.blocks) × (want.regions ≤ cap.regions - live.regions) × (want.values ≤ cap.values - live.values) × (want.uses ≤ cap.uses - live.uses)
unfolding lacks
enough cap live want k = go (ltb (cap.operations - live.operations) want.operations) refl (ltb (cap.blocks - live.blocks) want.blocks) refl (ltb (cap.regions - live.regions) want.regions) refl (ltb (cap.values - live.values) want.values) refl (ltb (cap.uses - live.uses) want.uses) refl k
  where
    go : (a : Bool) → ltb (cap.operations - live.operations) want.operations ≡ a → (b : Bool) → ltb (cap.blocks - live.blocks) want.blocks ≡ b → (c : Bool) → ltb (cap.regions - live.regions) want.regions ≡ c → (d : Bool) → ltb (cap.values - live.values) want.values ≡ d → (e : Bool) → ltb (cap.uses - live.uses) want.uses ≡ e → T (not (a || b || c || d || e)) → (want.operations ≤ cap.operations - live.operations) × (want.blocks ≤ cap.blocks - live.blocks) × (want.regions ≤ cap.regions - live.regions) × (want.values ≤ cap.values - live.values) × (want.uses ≤ cap.uses - live.uses)
    go true p b q c r d s e t m = absurd m
    go false p true q c r d s e t m = absurd m
    go false p false q true r d s e t m = absurd m
    go false p false q false r true s e t m = absurd m
    go false p false q false r false s true t m = absurd m
    go false p false q false r false s false t m = (ltb-false _ _ p, ltb-false _ _ q, ltb-false _ _ r, ltb-false _ _ s, ltb-false _ _ t)

flags_length : (s : State) → Flagged s → length s.flags ≡ length s.history.operations
unfolding Flagged
flags_length s w = length_keys s.flags ∙ count_length (keys s.flags) (keys s.history.operations) w ∙ sym (length_keys s.history.operations)

blocks_length : (s : State) → Listed operation s.history (lists operation s.orders) → length s.orders.ops_of ≡ length s.history.blocks
unfolding lists
blocks_length s w = length_keys s.orders.ops_of ∙ count_length (keys s.orders.ops_of) (keys s.history.blocks) w.same ∙ sym (length_keys s.history.blocks)

module _ (e : Edit) (s : State) (k : T (eqb (refusal_of s e) 0)) where
  flags_more : length (accept e s).flags ≤ length s.flags + (births e).operations
  unfolding accept
  flags_more = omega (arith, kept_length (live_operation (remember e s.history)) (s.flags ++ number s.history.born.operations (new_flags e)), length-append s.flags (number s.history.born.operations (new_flags e)), number_length s.history.born.operations (new_flags e), (given_born e).0)

  types_more : length (accept e s).types ≤ length s.types + (births e).values
  unfolding accept
  types_more = omega (arith, kept_length (live_value (remember e s.history)) (s.types ++ number s.history.born.values (new_types e)), length-append s.types (number s.history.born.values (new_types e)), number_length s.history.born.values (new_types e), (given_born e).1)

  blocks_more : length (accept e s).orders.ops_of ≤ length s.orders.ops_of + (births e).blocks
  unfolding accept reorder containers
  blocks_more = order_length operation e s.history (remember e s.history) s.orders.ops_of

  regions_more : length (accept e s).orders.blocks_of ≤ length s.orders.blocks_of + (births e).regions
  unfolding accept reorder containers
  regions_more = order_length block e s.history (remember e s.history) s.orders.blocks_of

  uses_more : Placed s.history → Placed (accept e s).history → length (accept e s).history.uses ≤ length s.history.uses + (places e).uses
  uses_more p q =
      let b : (accept e s).history.born.uses ≡ s.history.born.uses + (births e).uses = unfold accept remember bear plus in refl in
      let d : (accept e s).history.ended ≡ s.history.ended + length (ended_uses e s.history) = unfold accept remember bear in (ended_read e s.history) in
      omega (arith, p.sum, q.sum, wants_uses e s.history)

  pub fits_accept : Flagged s → Flagged (accept e s) → Listed operation s.history (lists operation s.orders) → Listed operation (accept e s).history (lists operation (accept e s).orders) → Placed s.history → Placed (accept e s).history → Fits s → Fits (accept e s)
  fits_accept f f' l l' p p' w =
      let t : T (eqb (from_state s e) 0) = unfold refusal_of in (or_else_zero (first_missing s.history (named e)) (from_state s e) k).1 in
      let r = enough s.capacities (live_counts s) (places e) (roomy e s t) in
      let n = wants e in
      let c : (accept e s).capacities ≡ s.capacities = unfold accept in refl in
      let lo : (live_counts s).operations ≡ length s.history.operations = unfold live_counts in refl in
      let lb : (live_counts s).blocks ≡ length s.history.blocks = unfold live_counts in refl in
      let lr : (live_counts s).regions ≡ length s.orders.blocks_of = unfold live_counts in refl in
      let lv : (live_counts s).values ≡ length s.types = unfold live_counts in refl in
      let lu : (live_counts s).uses ≡ length s.history.uses = unfold live_counts in refl in
      record {
        ops = omega (arith, flags_more, flags_length s f, flags_length (accept e s) f', r.0, n.0, w.ops, ap (λ (x : Five). x.operations) c);
        blks = omega (arith, blocks_more, blocks_length s l, blocks_length (accept e s) l', r.1, n.1, w.blks, ap (λ (x : Five). x.blocks) c);
        regs = omega (arith, regions_more, r.2, n.2, w.regs, ap (λ (x : Five). x.regions) c);
        vals = omega (arith, types_more, r.3, n.3, w.vals, ap (λ (x : Five). x.values) c);
        us = omega (arith, uses_more p p', r.4, w.us, ap (λ (x : Five). x.uses) c);
      }
