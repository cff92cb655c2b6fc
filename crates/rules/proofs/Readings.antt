-- An edit of values, operands or value uses (kinds 3 to 7, 13 to 20, 32 and 34), accepted or refused, leaves the reply to every verdict as it was,
-- in every sound state. Assumes nothing.
use mathlib.Core.Path.{◌≡◌, refl, sym, ap, subst, ◌∙◌}
use mathlib.Core.Bool.{Bool, true, false, not, cond, ◌&&◌}
use mathlib.Core.List.{List, [], ◌∷◌, ◌++◌}
use mathlib.Core.Option.{Option, none, some}
use Prim.Native.Nat.{ℕ, ◌-◌, ◌≤◌}
use native.Mathlib.Omega.{arith}
use borrow.Author.Tests.{ne_eqb, leb-true}
use lib.Dec.{T, eqb, leb}
use lib.ListN.{length, get_or}
use Rattle.rules.specs.Table.{Table, spread, find, remake, change, keep_keys, number, member, insert_at, remove_at, is_some, some_and, count}
use Rattle.edit.specs.Record.{operand, successor, Member, operation, block, Thing, Definition, of_value, of_block, Edit, new_operation, new_block, push_use, insert_use, replace_use, remove_use, pop_use, push_value, insert_value, remove_value, pop_value, link_after, link_before, link_front, link_back, unlink, move_region, move_use, replace_some, retarget_some, drop_uses, erase_operation, erase_block, erase_region, verdict}
use Rattle.rules.specs.History.{Operation, History, bear, carry_out, remember, slot_of, uses_in, same_definition, defined, change_slot, change_results, change_arguments, with_operations, with_blocks, with_uses, end_uses, add_use, take_use, change_values, place_some, live_operation}
use Rattle.rules.specs.Orders.{order, reorder}
use Rattle.rules.specs.State.{State, accept, new_flags}
use Rattle.edit.specs.Answer.{Reply, refuse}
use Rattle.rules.specs.Refusal.{operation_named, named, check, from_state, refusal_of, first_missing, slot_length}
use Rattle.rules.specs.Step.{answer, perform}
use Rattle.rules.specs.Told.{use_at}
use Rattle.rules.specs.Demand.{sort_of}
use Rattle.rules.specs.Sound.{Sound}
use Rattle.rules.proofs.Tables.{All, weigh_at}
use Rattle.rules.proofs.Closure.{or_else_zero}
use Rattle.rules.proofs.Live.{IsFound, zero_first, all_found}
use Rattle.rules.proofs.Places.{Placed, found_operation, index_in, last_in_lem}
use Rattle.rules.proofs.Rising.{Sorted}
use Rattle.rules.proofs.Inside.{zero_then}
use Rattle.rules.proofs.Laws.{is_true, omap, find_keeps, find_changes, find_changes_all, find_more}
use Rattle.rules.proofs.Tracks.{count_at}
use Rattle.rules.proofs.Sorts.{Sorts, total_slots, slot_total}
use Rattle.rules.proofs.Core.{Core}
use Rattle.rules.proofs.Soundness.{core_of}
use Rattle.rules.proofs.Verdicts.{Bones, bones, region_in, some_remake, remake_change, Quiet, same_verdict}

-- kinds 3 to 7, 13 to 20, 32 and 34
abbrev pub Reading : Edit → Type 0
Reading (new_operation fl ts vs bs g) = ⊥
Reading (new_block ts) = ⊥
Reading (push_use operand o d) = Unit {0}
Reading (push_use successor o d) = ⊥
Reading (insert_use operand o i d) = Unit {0}
Reading (insert_use successor o i d) = ⊥
Reading (replace_use operand o i d) = Unit {0}
Reading (replace_use successor o i d) = ⊥
Reading (remove_use operand o i) = Unit {0}
Reading (remove_use successor o i) = ⊥
Reading (pop_use operand o) = Unit {0}
Reading (pop_use successor o) = ⊥
Reading (push_value m o ty) = Unit {0}
Reading (insert_value m o i ty) = Unit {0}
Reading (remove_value m o i) = Unit {0}
Reading (pop_value m o) = Unit {0}
Reading (link_after m x c) = ⊥
Reading (link_before m x c) = ⊥
Reading (link_front m x c) = ⊥
Reading (link_back m x c) = ⊥
Reading (unlink m x) = ⊥
Reading (move_region r o) = ⊥
Reading (move_use operand a x b) = Unit {0}
Reading (move_use successor a x b) = ⊥
Reading (replace_some a b us) = Unit {0}
Reading (retarget_some a b ps) = ⊥
Reading (drop_uses t) = ⊥
Reading (erase_operation n) = ⊥
Reading (erase_block n) = ⊥
Reading (erase_region o i) = ⊥
Reading (verdict t) = ⊥

app_nil : {A : Type 0} (xs : List A) → xs ++ [] ≡ xs
app_nil [] = refl
app_nil {A} (x ∷ xs) = ap {B = List A} (λ r. x ∷ r) (app_nil xs)

abbrev KeptUses : History → Table Definition → Type 0
KeptUses h us = (u : ℕ) → 1 ≤ spread (uses_in successor) u h.operations → find us u ≡ find h.uses u

quiet_by : (e : Edit) (s : State) → Core s → remake bones (carry_out e s.history).operations ≡ remake bones s.history.operations → remake region_in (carry_out e s.history).blocks ≡ remake region_in s.history.blocks → reorder e s.history (remember e s.history) s.orders ≡ s.orders → new_flags e ≡ [] → KeptUses s.history (carry_out e s.history).uses → Quiet s (accept e s)
quiet_by e s c o b r f u = record {
  rise = (_, c.nesting.owning.ordered.ops.rising);
  ops = unfold accept remember bear in o;
  blks = unfold accept remember bear in b;
  orders = unfold accept in r;
  flags = λ n l. flagged n l;
  uses = unfold accept remember bear in u;
}
  where
    alive : (n : ℕ) → T (live_operation s.history n) → live_operation (remember e s.history) n ≡ true
    alive n l = unfold remember bear live_operation in (sym (some_remake bones (carry_out e s.history).operations n) ∙ ap (λ (x : Table Bones). is_some (find x n)) o ∙ some_remake bones s.history.operations n ∙ yes' (is_some (find s.history.operations n)) (unfold live_operation in l))
      where
        yes' : (q : Bool) → T q → q ≡ true
        yes' true t = refl
        yes' false t = absurd t

    all : s.flags ++ number s.history.born.operations (new_flags e) ≡ s.flags
    all = ap (λ (x : List ℕ). s.flags ++ number s.history.born.operations x) f ∙ unfold number in (app_nil s.flags)

    flagged : (n : ℕ) → T (live_operation s.history n) → find (accept e s).flags n ≡ find s.flags n
    flagged n l = unfold accept in (find_keeps (live_operation (remember e s.history)) (s.flags ++ number s.history.born.operations (new_flags e)) n ∙ rw (alive n l) (ap (λ (t : Table ℕ). find t n) all))

-- ---- uses

low_use : (h : History) → Placed h → (u : ℕ) → 1 ≤ spread (uses_in successor) u h.operations → leb h.born.uses u ≡ false
low_use h p u k = go (leb h.born.uses u) refl
  where
    go : (b : Bool) → leb h.born.uses u ≡ b → b ≡ false
    go true z = absurd (omega (arith, slot_total successor u h.operations, p.agree u, p.below u (leb-true h.born.uses u z)))
    go false z = refl

apart : (h : History) → Placed h → (x u : ℕ) → 1 ≤ spread (uses_in operand) x h.operations → 1 ≤ spread (uses_in successor) u h.operations → eqb x u ≡ false
apart h p x u a b = ne_eqb x u (λ z. omega (arith, total_slots u h.operations, p.agree u, p.once u, subst (λ (y : ℕ). 1 ≤ spread (uses_in operand) y h.operations) z a))

added : (h : History) (d : Definition) → Sorted h.born.uses h.uses → Placed h → KeptUses h (h.uses ++ ((h.born.uses, d) ∷ []))
unfolding number
added h d r p u k = find_more h.born.uses h.uses (d ∷ []) u r.rising ∙ rw (low_use h p u k) refl

ended_one : (h : History) (x : ℕ) (us : Table Definition) → Placed h → 1 ≤ spread (uses_in operand) x h.operations → KeptUses h us → KeptUses h (keep_keys (λ v. not (member v (x ∷ []))) us)
unfolding member
ended_one h x us p a w u k = find_keeps (λ v. not (member v (x ∷ []))) us u ∙ rw (apart h p x u a k) (w u k)

operand_at : (o i : ℕ) (h : History) → IsFound h (operation_named o) → T (not (leb (slot_length h operand o) i)) → 1 ≤ spread (uses_in operand) (use_at operand o i h) h.operations
operand_at o i h l k = go (found_operation h o l)
  where
    go : (a : Operation) × (find h.operations o ≡ some a) → 1 ≤ spread (uses_in operand) (use_at operand o i h) h.operations
    go (a, e) = subst (λ (x : ℕ). 1 ≤ spread (uses_in operand) x h.operations) (sym (there a e)) (omega (arith, count_at i (uses_in operand a) (index_in h operand o i a e k), weigh_at (λ b. count (get_or (uses_in operand a) i 0) (uses_in operand b)) o h.operations a e))
      where
        there : (q : Operation) → find h.operations o ≡ some q → use_at operand o i h ≡ get_or (uses_in operand q) i 0
        there q z = unfold use_at slot_of in (ap (λ (y : Option Operation). get_or (slot_of operand y) i 0) z)

-- a successor's use is of a block
block_use : (h : History) → Sorts h → (u : ℕ) (d : Definition) → 1 ≤ spread (uses_in successor) u h.operations → find h.uses u ≡ some d → (a : ℕ) → same_definition d (of_value a) ≡ false
unfolding same_definition sort_of
block_use h w u (of_value v) k e a = let z : operand ≡ successor = w.fits successor u (of_value v) e k in let y : ◌≡◌ {A = ℕ} 0 1 = cc in absurd (omega arith)
block_use h w u (of_block b) k e a = refl

moved_uses : (a x b : ℕ) (s : State) → Sorts s.history → T (eqb (from_state s (move_use operand a x b)) 0) → KeptUses s.history (carry_out (move_use operand a x b) s.history).uses
unfolding carry_out
moved_uses a x b s w k u q = go (eqb a b) refl
  where
    other : eqb a b ≡ false → eqb x u ≡ false
    other z = ne_eqb x u (λ e. at (find s.history.uses x) refl e (zero_then (eqb a b) (check (some_and (find s.history.uses x) (same_definition (defined operand a))) 0 11) z (unfold from_state in k)))
      where
        at : (o : Option Definition) → find s.history.uses x ≡ o → x ≡ u → T (eqb (check (some_and o (same_definition (defined operand a))) 0 11) 0) → ⊥
        at none y e t = unfold some_and check in t
        at (some (of_value v)) y e t = let m : operand ≡ successor = unfold sort_of in (w.fits successor u (of_value v) (ap (find s.history.uses) (sym e) ∙ y) q) in let n : ◌≡◌ {A = ℕ} 0 1 = cc in omega arith
        at (some (of_block v)) y e t = unfold some_and check same_definition defined in t

    go : (c : Bool) → eqb a b ≡ c → find (cond c s.history (with_uses s.history (change x (λ _. defined operand b) s.history.uses))).uses u ≡ find s.history.uses u
    go true z = refl
    go false z = unfold with_uses in (find_changes x (λ _. defined operand b) s.history.uses u ∙ rw (other z) refl)

placed_uses : (a b : ℕ) (us : List ℕ) (h : History) → Sorts h → KeptUses h (place_some (of_value a) (of_value b) (λ v. member v us) h).uses
unfolding place_some with_uses
placed_uses a b us h w u q = find_changes_all (λ v d. cond (same_definition d (of_value a) && member v us) (of_value b) d) h.uses u ∙ go (find h.uses u) refl
  where
    go : (o : Option Definition) → find h.uses u ≡ o → omap (λ d. cond (same_definition d (of_value a) && member u us) (of_value b) d) o ≡ o
    go none z = refl
    go (some d) z = rw (block_use h w u d q z a) refl

-- ---- the edits

slot_bones : (f : List ℕ → List ℕ) (m : ℕ) (a : Operation) → bones m (change_slot operand f a) ≡ bones m a
unfolding change_slot
slot_bones f m a = refl

values_bones : (m : Member) (n : ℕ) (f : List ℕ → List ℕ) (h : History) → remake bones (change_values m n f h).operations ≡ remake bones h.operations
unfolding change_values with_operations with_blocks change_results
values_bones operation n f h = remake_change bones n (change_results f) h.operations (λ m a. refl)
values_bones block n f h = refl

values_blocks : (m : Member) (n : ℕ) (f : List ℕ → List ℕ) (h : History) → remake region_in (change_values m n f h).blocks ≡ remake region_in h.blocks
unfolding change_values with_operations with_blocks change_arguments
values_blocks operation n f h = refl
values_blocks block n f h = remake_change region_in n (change_arguments f) h.blocks (λ m a. refl)

values_uses : (m : Member) (n : ℕ) (f : List ℕ → List ℕ) (h : History) → KeptUses h (change_values m n f h).uses
unfolding change_values with_operations with_blocks
values_uses operation n f h u k = refl
values_uses block n f h u k = refl

values_quiet : (e : Edit) (m : Member) (n : ℕ) (f : List ℕ → List ℕ) (s : State) → carry_out e s.history ≡ change_values m n f s.history → reorder e s.history (remember e s.history) s.orders ≡ s.orders → new_flags e ≡ [] → Core s → Quiet s (accept e s)
values_quiet e m n f s z r g c =
    quiet_by e s c (ap (λ (x : History). remake bones x.operations) z ∙ values_bones m n f s.history) (ap (λ (x : History). remake region_in x.blocks) z ∙ values_blocks m n f s.history) r g
    (λ u k. ap (λ (x : History). find x.uses u) z ∙ values_uses m n f s.history u k)

chosen_bones : (c : Bool) (h : History) (us : Table Definition) → remake bones (cond c h (with_uses h us)).operations ≡ remake bones h.operations
unfolding with_uses
chosen_bones true h us = refl
chosen_bones false h us = refl

chosen_blocks : (c : Bool) (h : History) (us : Table Definition) → remake region_in (cond c h (with_uses h us)).blocks ≡ remake region_in h.blocks
unfolding with_uses
chosen_blocks true h us = refl
chosen_blocks false h us = refl

take_quiet : (o i : ℕ) (h : History) → IsFound h (operation_named o) → T (not (leb (slot_length h operand o) i)) → Placed h → KeptUses h (take_use operand o i h).uses
take_quiet o i h l k p u q = unfold take_use end_uses with_operations use_at in (ended_one h (use_at operand o i h) h.uses p (operand_at o i h l k) (λ v z. refl) u q)

pop_index : (o : ℕ) (h : History) → T (not (eqb (slot_length h operand o) 0)) → T (not (leb (slot_length h operand o) (length (slot_of operand (find h.operations o)) - 1)))
unfolding slot_length
pop_index o h k = last_in_lem (length (slot_of operand (find h.operations o))) k

pub quiet_accept : (e : Edit) (s : State) → Reading e → Core s → All (IsFound s.history) (named e) → T (eqb (from_state s e) 0) → Quiet s (accept e s)
unfolding named from_state
quiet_accept (new_operation fl ts vs bs g) s y c l k = absurd y
quiet_accept (new_block ts) s y c l k = absurd y
quiet_accept (push_use operand o d) s y c l k = quiet_by (push_use operand o d) s c (unfold carry_out add_use in (remake_change bones o _ s.history.operations (slot_bones _))) (unfold carry_out add_use in refl) (unfold reorder order in refl) (unfold new_flags in refl) (unfold carry_out add_use in (added s.history (defined operand d) c.nesting.owning.ordered.us c.placed))
quiet_accept (push_use successor o d) s y c l k = absurd y
quiet_accept (insert_use operand o i d) s y c l k = quiet_by (insert_use operand o i d) s c (unfold carry_out add_use in (remake_change bones o _ s.history.operations (slot_bones _))) (unfold carry_out add_use in refl) (unfold reorder order in refl) (unfold new_flags in refl) (unfold carry_out add_use in (added s.history (defined operand d) c.nesting.owning.ordered.us c.placed))
quiet_accept (insert_use successor o i d) s y c l k = absurd y
quiet_accept (replace_use operand o i d) s y c l k = quiet_by (replace_use operand o i d) s c (unfold carry_out add_use end_uses in (remake_change bones o _ s.history.operations (slot_bones _))) (unfold carry_out add_use end_uses in refl) (unfold reorder order in refl) (unfold new_flags in refl) (unfold carry_out add_use end_uses use_at in (ended_one s.history (use_at operand o i s.history) _ c.placed (operand_at o i s.history l.0 (zero_first (leb (slot_length s.history operand o) i) 12 _ tt k).0) (added s.history (defined operand d) c.nesting.owning.ordered.us c.placed)))
quiet_accept (replace_use successor o i d) s y c l k = absurd y
quiet_accept (remove_use operand o i) s y c l k = quiet_by (remove_use operand o i) s c (unfold carry_out take_use end_uses with_operations in (remake_change bones o _ s.history.operations (slot_bones _))) (unfold carry_out take_use end_uses with_operations in refl) (unfold reorder order in refl) (unfold new_flags in refl) (unfold carry_out in (take_quiet o i s.history l.0 (zero_first (leb (slot_length s.history operand o) i) 12 0 tt k).0 c.placed))
quiet_accept (remove_use successor o i) s y c l k = absurd y
quiet_accept (pop_use operand o) s y c l k = quiet_by (pop_use operand o) s c (unfold carry_out take_use end_uses with_operations in (remake_change bones o _ s.history.operations (slot_bones _))) (unfold carry_out take_use end_uses with_operations in refl) (unfold reorder order in refl) (unfold new_flags in refl) (unfold carry_out in (take_quiet o _ s.history l.0 (pop_index o s.history (zero_first (eqb (slot_length s.history operand o) 0) 12 0 tt k).0) c.placed))
quiet_accept (pop_use successor o) s y c l k = absurd y
quiet_accept (push_value m o ty) s y c l k = values_quiet (push_value m o ty) m o (λ xs. xs ++ (s.history.born.values ∷ [])) s (unfold carry_out in refl) (unfold reorder order in refl) (unfold new_flags in refl) c
quiet_accept (insert_value m o i ty) s y c l k = values_quiet (insert_value m o i ty) m o (insert_at i s.history.born.values) s (unfold carry_out in refl) (unfold reorder order in refl) (unfold new_flags in refl) c
quiet_accept (remove_value m o i) s y c l k = values_quiet (remove_value m o i) m o (remove_at i) s (unfold carry_out in refl) (unfold reorder order in refl) (unfold new_flags in refl) c
quiet_accept (pop_value m o) s y c l k = values_quiet (pop_value m o) m o (λ xs. remove_at (length xs - 1) xs) s (unfold carry_out in refl) (unfold reorder order in refl) (unfold new_flags in refl) c
quiet_accept (link_after m x q) s y c l k = absurd y
quiet_accept (link_before m x q) s y c l k = absurd y
quiet_accept (link_front m x q) s y c l k = absurd y
quiet_accept (link_back m x q) s y c l k = absurd y
quiet_accept (unlink m x) s y c l k = absurd y
quiet_accept (move_region r o) s y c l k = absurd y
quiet_accept (move_use operand a x b) s y c l k = quiet_by (move_use operand a x b) s c (unfold carry_out in (chosen_bones (eqb a b) s.history (change x (λ _. defined operand b) s.history.uses))) (unfold carry_out in (chosen_blocks (eqb a b) s.history (change x (λ _. defined operand b) s.history.uses))) (unfold reorder order in refl) (unfold new_flags in refl) (moved_uses a x b s c.sorts k)
quiet_accept (move_use successor a x b) s y c l k = absurd y
quiet_accept (replace_some a b us) s y c l k = quiet_by (replace_some a b us) s c (unfold carry_out place_some with_uses in refl) (unfold carry_out place_some with_uses in refl) (unfold reorder order in refl) (unfold new_flags in refl) (unfold carry_out in (placed_uses a b us s.history c.sorts))
quiet_accept (retarget_some a b ps) s y c l k = absurd y
quiet_accept (drop_uses t) s y c l k = absurd y
quiet_accept (erase_operation n) s y c l k = absurd y
quiet_accept (erase_block n) s y c l k = absurd y
quiet_accept (erase_region o i) s y c l k = absurd y
quiet_accept (verdict t) s y c l k = absurd y

-- put to a sound state, such an edit changes no verdict: asked for next, each has the reply that it would have had without the edit
pub verdicts_stay : (e : Edit) (s : State) → Reading e → Sound s → (t : Thing) → (perform (perform s e).1 (verdict t)).0 ≡ (perform s (verdict t)).0
verdicts_stay e s y w t = go (eqb (refusal_of s e) 0) refl
  where
    after_it : State
    after_it = (perform s e).1

    passed : T (eqb (refusal_of s e) 0) → T (eqb (first_missing s.history (named e)) 0) × T (eqb (from_state s e) 0)
    passed k = unfold refusal_of in (or_else_zero (first_missing s.history (named e)) (from_state s e) k)

    now : (b : Bool) → eqb (refusal_of s e) 0 ≡ b → (perform s e).1 ≡ cond b (accept e s) s
    now b z = unfold perform in (at b z)
      where
        at : (b : Bool) → eqb (refusal_of s e) 0 ≡ b → (cond {A = Reply × State} (eqb (refusal_of s e) 0) (answer e s (accept e s).history, accept e s) (refuse (refusal_of s e), s)).1 ≡ cond b (accept e s) s
        at true z = rw z refl
        at false z = rw z refl

    go : (b : Bool) → eqb (refusal_of s e) 0 ≡ b → (perform (perform s e).1 (verdict t)).0 ≡ (perform s (verdict t)).0
    go true z = let p = passed (is_true z) in ap (λ (x : State). (perform x (verdict t)).0) (now true z) ∙ same_verdict s (accept e s) (quiet_accept e s y (core_of s w) (all_found s.history (named e) p.0) p.1) t
    go false z = ap (λ (x : State). (perform x (verdict t)).0) (now false z)
