-- An accepted edit gives birth to, ends and places what the reading of specs/Told says, and nothing else. Assumes nothing.
use mathlib.Core.Path.{◌≡◌, refl, sym, ap, subst, ◌∙◌}
use mathlib.Core.Bool.{Bool, true, false, not, cond, ◌&&◌, ◌||◌}
use mathlib.Core.List.{List, [], ◌∷◌, ◌++◌, map}
use mathlib.Core.Option.{Option, none, some}
use Prim.Native.Nat.{ℕ, zero, suc, ◌+◌, ◌-◌, ◌≤◌, ◌<◌}
use native.Mathlib.Omega.{arith}
use native.Mathlib.Nat.{add-zero, not-suc-le-zero, le_of_suc-le-suc}
use borrow.Author.Tests.{eq-eqb, eqb-false, leb-true, leb-false, ltb-true, ltb-false}
use lib.Dec.{T, eqb, leb, ltb, eqb→eq}
use lib.ListN.{length, get_or, length-append, length-map}
use Rattle.rules.specs.Table.{Table, find, change, change_all, keep_keys, number, nth, when, or_before, member, remove_at, swap_out, some_and, is_some, one, count}
use Rattle.edit.specs.Record.{Slot, operand, successor, Member, operation, block, Thing, the_operation, the_block, the_region, Definition, of_value, of_block, Edit, new_operation, new_block, push_use, insert_use, replace_use, remove_use, pop_use, push_value, insert_value, remove_value, pop_value, link_after, link_before, link_front, link_back, unlink, move_region, move_use, replace_some, retarget_some, drop_uses, erase_operation, erase_block, erase_region, verdict}
use Rattle.rules.specs.History.{Operation, History, births, bear, zeros, carry_out, remember, slot_of, uses_in, change_regions, with_operations, with_blocks, with_uses, end_uses, add_use, take_use, change_values, put_in, region_index, uses_inside, drop_inside, end_inside, hand_over, place_some, operation_in, block_in, parent, user, block_at, same_definition, defined, live_operation, live_block}
use Rattle.rules.specs.State.{State}
use Rattle.rules.specs.Refusal.{operation_named, named, check, from_state, slot_length}
use Rattle.edit.specs.Answer.{found}
use Rattle.rules.specs.Step.{answer}
use Rattle.rules.specs.Told.{told, gives, use_at, ended_uses, erased, ends_use, ends_operation, ends_block, lives, use_lives, is_use_of, placing, placed_at}
use Rattle.rules.proofs.Tables.{All, weigh_at}
use Rattle.rules.proofs.Live.{IsFound, zero_first}
use Rattle.rules.proofs.Places.{here, Placed, found_operation, index_in}
use Rattle.rules.proofs.Rising.{Rising, Sorted}
use Rattle.rules.proofs.Inside.{zero_then}
use Rattle.rules.proofs.Laws.{none_some, is_true, eqb_same, omap, find_keeps, find_changes, find_changes_all, find_more, find_below}
use Rattle.rules.proofs.Listed.{is_some_change}

-- ---- tests on numbers

none_given : (b u : ℕ) → leb b u && ltb u (b + 0) ≡ false
none_given b u = go (leb b u) refl (ltb u (b + 0)) refl
  where
    go : (x : Bool) → leb b u ≡ x → (y : Bool) → ltb u (b + 0) ≡ y → x && y ≡ false
    go true z true w = absurd (omega (arith, leb-true b u z, ltb-true u (b + 0) w))
    go true z false w = refl
    go false z y w = refl

and_true : (a : Bool) → a && true ≡ a
and_true true = refl
and_true false = refl

module _ {A : Type 0} where
  pub nth_past : (xs : List A) (i : ℕ) → length xs ≤ i → nth xs i ≡ none
  unfolding nth
  nth_past [] i h = refl
  nth_past (x ∷ xs) zero h = absurd (not-suc-le-zero h)
  nth_past (x ∷ xs) (suc i) h = nth_past xs i (le_of_suc-le-suc h)

  pub nth_in : (xs : List A) (i : ℕ) → i < length xs → (a : A) × (nth xs i ≡ some a)
  unfolding nth
  nth_in [] i h = absurd (not-suc-le-zero h)
  nth_in (x ∷ xs) zero h = (x, refl)
  nth_in (x ∷ xs) (suc i) h = nth_in xs i (le_of_suc-le-suc h)

  -- ---- what is there or not

  -- nothing given and nothing ended
  same_is : (b n : ℕ) (c : Bool) (x y : Option A) → c ≡ false → is_some x ≡ is_some y → is_some x ≡ (leb b n && ltb n (b + 0)) || (is_some y && not c)
  same_is b n c x y z e = rw z (rw (none_given b n) (e ∙ sym (and_true (is_some y))))

  -- those that pass the test ended
  kept_is : (b n : ℕ) (q : ℕ → Bool) (t : Table A) → is_some (find (keep_keys (λ m. not (q m)) t) n) ≡ (leb b n && ltb n (b + 0)) || (is_some (find t n) && not (q n))
  unfolding is_some
  kept_is b n q t = rw (none_given b n) (ap is_some (find_keeps (λ m. not (q m)) t n) ∙ go (q n) (find t n))
    where
      go : (c : Bool) (o : Option A) → is_some (cond (not c) o none) ≡ is_some o && not c
      go true none = refl
      go true (some a) = refl
      go false none = refl
      go false (some a) = refl

  -- new ones given
  more_is : (b n : ℕ) (xs : List A) (t : Table A) → Rising 0 b t → is_some (find (t ++ number b xs) n) ≡ (leb b n && ltb n (b + length xs)) || (is_some (find t n) && true)
  unfolding is_some
  more_is b n xs t r = ap is_some (find_more b t xs n r) ∙ go (leb b n) refl (ltb n (b + length xs)) refl
    where
      go : (x : Bool) → leb b n ≡ x → (y : Bool) → ltb n (b + length xs) ≡ y → is_some (cond (leb b n) (nth xs (n - b)) (find t n)) ≡ (leb b n && ltb n (b + length xs)) || (is_some (find t n) && true)
      go true z true w = let f = nth_in xs (n - b) (omega (arith, leb-true b n z, ltb-true n (b + length xs) w)) in rw z (rw w (ap is_some f.1))
      go true z false w = rw z (rw w (ap is_some (nth_past xs (n - b) (omega (arith, leb-true b n z, ltb-false n (b + length xs) w))) ∙ sym (ap (λ (o : Option A). is_some o && true) (find_below 0 b t n r (leb-true b n z)))))
      go false z y w = rw z (sym (and_true (is_some (find t n))))

-- ---- operations and blocks

abbrev OpsTold : Edit → History → ℕ → Type 0
OpsTold e h n = live_operation (carry_out e h) n ≡ gives (λ k. k.operations) e h n || (live_operation h n && not (ends_operation e h n))

-- of one of two histories, where both show the same
either : {X : Type 0} (q : History → X) (c : Bool) (h k : History) → q k ≡ q h → q (cond c h k) ≡ q h
either q true h k e = refl
either q false h k e = e

handed_op : (q : ℕ) (p : Option ℕ) (o : ℕ) (h : History) (n : ℕ) → is_some (find (hand_over q p o h).operations n) ≡ is_some (find h.operations n)
unfolding hand_over with_operations
handed_op q none o h n = refl
handed_op q (some p) o h n =
    either (λ x. is_some (find x.operations n)) (eqb p o) h (with_operations h (change o (change_regions (λ xs. xs ++ (q ∷ []))) (change p (change_regions (swap_out q)) h.operations)))
    (is_some_change o (change_regions (λ xs. xs ++ (q ∷ []))) (change p (change_regions (swap_out q)) h.operations) n ∙ is_some_change p (change_regions (swap_out q)) h.operations n)

dropped_op : {A : Type 0} (f : ℕ → A → A) (t : Table A) (n : ℕ) → is_some (find (change_all f t) n) ≡ is_some (find t n)
unfolding is_some
dropped_op {A} f t n = ap is_some (find_changes_all f t n) ∙ at (find t n)
  where
    at : (o : Option A) → is_some (omap (f n) o) ≡ is_some o
    at none = refl
    at (some a) = refl

region_kept_is : (o i b n : ℕ) (h : History) → is_some (find (carry_out (erase_region o i) h).operations n) ≡ (leb b n && ltb n (b + 0)) || (is_some (find h.operations n) && not (operation_in h (the_region (region_index o i h)) n))
unfolding carry_out with_operations end_inside
region_kept_is o i b n h = is_some_change o (change_regions (remove_at i)) (keep_keys (λ y. not (operation_in h (the_region (region_index o i h)) y)) h.operations) n ∙ kept_is b n (operation_in h (the_region (region_index o i h))) h.operations

pub operations_told : (e : Edit) (h : History) (n : ℕ) → Sorted h.born.operations h.operations → OpsTold e h n
unfolding carry_out births zeros gives ends_operation erased some_and live_operation with_operations with_blocks with_uses add_use take_use end_uses change_values put_in drop_inside end_inside place_some number
operations_told (new_operation fl ts vs bs g) h n r = more_is h.born.operations n (_ ∷ []) h.operations r.rising
operations_told (new_block ts) h n r = same_is _ n false (find h.operations n) (find h.operations n) refl refl
operations_told (push_use sl o d) h n r = same_is _ n false _ (find h.operations n) refl (is_some_change o _ h.operations n)
operations_told (insert_use sl o i d) h n r = same_is _ n false _ (find h.operations n) refl (is_some_change o _ h.operations n)
operations_told (replace_use sl o i d) h n r = same_is _ n false _ (find h.operations n) refl (is_some_change o _ h.operations n)
operations_told (remove_use sl o i) h n r = same_is _ n false _ (find h.operations n) refl (is_some_change o _ h.operations n)
operations_told (pop_use sl o) h n r = same_is _ n false _ (find h.operations n) refl (is_some_change o _ h.operations n)
operations_told (push_value operation o ty) h n r = same_is _ n false _ (find h.operations n) refl (is_some_change o _ h.operations n)
operations_told (push_value block o ty) h n r = same_is _ n false _ (find h.operations n) refl refl
operations_told (insert_value operation o i ty) h n r = same_is _ n false _ (find h.operations n) refl (is_some_change o _ h.operations n)
operations_told (insert_value block o i ty) h n r = same_is _ n false _ (find h.operations n) refl refl
operations_told (remove_value operation o i) h n r = same_is _ n false _ (find h.operations n) refl (is_some_change o _ h.operations n)
operations_told (remove_value block o i) h n r = same_is _ n false _ (find h.operations n) refl refl
operations_told (pop_value operation o) h n r = same_is _ n false _ (find h.operations n) refl (is_some_change o _ h.operations n)
operations_told (pop_value block o) h n r = same_is _ n false _ (find h.operations n) refl refl
operations_told (link_after operation x c) h n r = same_is _ n false _ (find h.operations n) refl (is_some_change x _ h.operations n)
operations_told (link_after block x c) h n r = same_is _ n false _ (find h.operations n) refl refl
operations_told (link_before operation x c) h n r = same_is _ n false _ (find h.operations n) refl (is_some_change x _ h.operations n)
operations_told (link_before block x c) h n r = same_is _ n false _ (find h.operations n) refl refl
operations_told (link_front operation x c) h n r = same_is _ n false _ (find h.operations n) refl (is_some_change x _ h.operations n)
operations_told (link_front block x c) h n r = same_is _ n false _ (find h.operations n) refl refl
operations_told (link_back operation x c) h n r = same_is _ n false _ (find h.operations n) refl (is_some_change x _ h.operations n)
operations_told (link_back block x c) h n r = same_is _ n false _ (find h.operations n) refl refl
operations_told (unlink operation x) h n r = same_is _ n false _ (find h.operations n) refl (is_some_change x _ h.operations n)
operations_told (unlink block x) h n r = same_is _ n false _ (find h.operations n) refl refl
operations_told (move_region q o) h n r = same_is _ n false _ (find h.operations n) refl (handed_op q (parent h q) o h n)
operations_told (move_use sl a u b) h n r = same_is _ n false _ (find h.operations n) refl (either (λ x. is_some (find x.operations n)) (eqb a b) h (with_uses h (change u (λ _. defined sl b) h.uses)) refl)
operations_told (replace_some a b us) h n r = same_is _ n false _ (find h.operations n) refl refl
operations_told (retarget_some a b ps) h n r = same_is _ n false _ (find h.operations n) refl refl
operations_told (drop_uses th) h n r = same_is _ n false _ (find h.operations n) refl (dropped_op _ h.operations n)
operations_told (erase_operation x) h n r = kept_is _ n (operation_in h (the_operation x)) h.operations
operations_told (erase_block x) h n r = kept_is _ n (operation_in h (the_block x)) h.operations
operations_told (erase_region o i) h n r = region_kept_is o i _ n h
operations_told (verdict th) h n r = same_is _ n false _ (find h.operations n) refl refl

abbrev BksTold : Edit → History → ℕ → Type 0
BksTold e h n = live_block (carry_out e h) n ≡ gives (λ k. k.blocks) e h n || (live_block h n && not (ends_block e h n))

handed_block : (q : ℕ) (p : Option ℕ) (o : ℕ) (h : History) (n : ℕ) → is_some (find (hand_over q p o h).blocks n) ≡ is_some (find h.blocks n)
unfolding hand_over with_operations
handed_block q none o h n = refl
handed_block q (some p) o h n =
    either (λ x. is_some (find x.blocks n)) (eqb p o) h (with_operations h (change o (change_regions (λ xs. xs ++ (q ∷ []))) (change p (change_regions (swap_out q)) h.operations))) refl

pub blocks_told : (e : Edit) (h : History) (n : ℕ) → Sorted h.born.blocks h.blocks → BksTold e h n
unfolding carry_out births zeros gives ends_block erased some_and live_block with_operations with_blocks with_uses add_use take_use end_uses change_values put_in drop_inside end_inside place_some number
blocks_told (new_operation fl ts vs bs g) h n r = same_is _ n false _ (find h.blocks n) refl refl
blocks_told (new_block ts) h n r = more_is h.born.blocks n (_ ∷ []) h.blocks r.rising
blocks_told (push_use sl o d) h n r = same_is _ n false _ (find h.blocks n) refl refl
blocks_told (insert_use sl o i d) h n r = same_is _ n false _ (find h.blocks n) refl refl
blocks_told (replace_use sl o i d) h n r = same_is _ n false _ (find h.blocks n) refl refl
blocks_told (remove_use sl o i) h n r = same_is _ n false _ (find h.blocks n) refl refl
blocks_told (pop_use sl o) h n r = same_is _ n false _ (find h.blocks n) refl refl
blocks_told (push_value operation o ty) h n r = same_is _ n false _ (find h.blocks n) refl refl
blocks_told (push_value block o ty) h n r = same_is _ n false _ (find h.blocks n) refl (is_some_change o _ h.blocks n)
blocks_told (insert_value operation o i ty) h n r = same_is _ n false _ (find h.blocks n) refl refl
blocks_told (insert_value block o i ty) h n r = same_is _ n false _ (find h.blocks n) refl (is_some_change o _ h.blocks n)
blocks_told (remove_value operation o i) h n r = same_is _ n false _ (find h.blocks n) refl refl
blocks_told (remove_value block o i) h n r = same_is _ n false _ (find h.blocks n) refl (is_some_change o _ h.blocks n)
blocks_told (pop_value operation o) h n r = same_is _ n false _ (find h.blocks n) refl refl
blocks_told (pop_value block o) h n r = same_is _ n false _ (find h.blocks n) refl (is_some_change o _ h.blocks n)
blocks_told (link_after operation x c) h n r = same_is _ n false _ (find h.blocks n) refl refl
blocks_told (link_after block x c) h n r = same_is _ n false _ (find h.blocks n) refl (is_some_change x _ h.blocks n)
blocks_told (link_before operation x c) h n r = same_is _ n false _ (find h.blocks n) refl refl
blocks_told (link_before block x c) h n r = same_is _ n false _ (find h.blocks n) refl (is_some_change x _ h.blocks n)
blocks_told (link_front operation x c) h n r = same_is _ n false _ (find h.blocks n) refl refl
blocks_told (link_front block x c) h n r = same_is _ n false _ (find h.blocks n) refl (is_some_change x _ h.blocks n)
blocks_told (link_back operation x c) h n r = same_is _ n false _ (find h.blocks n) refl refl
blocks_told (link_back block x c) h n r = same_is _ n false _ (find h.blocks n) refl (is_some_change x _ h.blocks n)
blocks_told (unlink operation x) h n r = same_is _ n false _ (find h.blocks n) refl refl
blocks_told (unlink block x) h n r = same_is _ n false _ (find h.blocks n) refl (is_some_change x _ h.blocks n)
blocks_told (move_region q o) h n r = same_is _ n false _ (find h.blocks n) refl (handed_block q (parent h q) o h n)
blocks_told (move_use sl a u b) h n r = same_is _ n false _ (find h.blocks n) refl (either (λ x. is_some (find x.blocks n)) (eqb a b) h (with_uses h (change u (λ _. defined sl b) h.uses)) refl)
blocks_told (replace_some a b us) h n r = same_is _ n false _ (find h.blocks n) refl refl
blocks_told (retarget_some a b ps) h n r = same_is _ n false _ (find h.blocks n) refl refl
blocks_told (drop_uses th) h n r = same_is _ n false _ (find h.blocks n) refl refl
blocks_told (erase_operation x) h n r = kept_is _ n (block_in h (the_operation x)) h.blocks
blocks_told (erase_block x) h n r = kept_is _ n (block_in h (the_block x)) h.blocks
blocks_told (erase_region o i) h n r = kept_is _ n (block_in h (the_region (region_index o i h))) h.blocks
blocks_told (verdict th) h n r = same_is _ n false _ (find h.blocks n) refl refl

-- ---- uses, with their definitions

-- the use as the reading has it: alive or not, and where placed
abbrev pub reads : Bool → Option Definition → Option Definition
reads alive pl = cond alive pl none

abbrev UsesTold : Edit → History → ℕ → Bool → Option Definition → Type 0
UsesTold e h u alive pl = find (carry_out e h).uses u ≡ reads (gives (λ k. k.uses) e h u || (alive && not (ends_use e h u))) (or_before (placing e h u) pl)

-- nothing given, ended or placed
use_same : (b u : ℕ) (alive : Bool) (pl x : Option Definition) → x ≡ reads alive pl → x ≡ reads ((leb b u && ltb u (b + 0)) || (alive && true)) (or_before none pl)
unfolding or_before
use_same b u alive pl x e = rw (none_given b u) (rw (and_true alive) e)

-- those of the list ended
use_ends : (b u : ℕ) (alive : Bool) (pl : Option Definition) (us : List ℕ) (t : Table Definition) → find t u ≡ reads alive pl → find (keep_keys (λ v. not (member v us)) t) u ≡ reads ((leb b u && ltb u (b + 0)) || (alive && not (member u us))) (or_before none pl)
unfolding or_before
use_ends b u alive pl us t e = rw (none_given b u) (find_keeps (λ v. not (member v us)) t u ∙ ap (λ (o : Option Definition). cond (not (member u us)) o none) e ∙ go (member u us) alive)
  where
    go : (c a : Bool) → cond (not c) (reads a pl) none ≡ reads (a && not c) pl
    go true true = refl
    go true false = refl
    go false true = refl
    go false false = refl

-- new ones given
use_more : (b u : ℕ) (alive : Bool) (pl : Option Definition) (ds : List Definition) (t : Table Definition) → Rising 0 b t → find t u ≡ reads alive pl → find (t ++ number b ds) u ≡ reads ((leb b u && ltb u (b + length ds)) || (alive && true)) (or_before (cond (leb b u) (nth ds (u - b)) none) pl)
unfolding or_before
use_more b u alive pl ds t r e = find_more b t ds u r ∙ go (leb b u) refl (ltb u (b + length ds)) refl
  where
    go : (x : Bool) → leb b u ≡ x → (y : Bool) → ltb u (b + length ds) ≡ y → cond (leb b u) (nth ds (u - b)) (find t u) ≡ reads ((leb b u && ltb u (b + length ds)) || (alive && true)) (or_before (cond (leb b u) (nth ds (u - b)) none) pl)
    go true z true w = let f = nth_in ds (u - b) (omega (arith, leb-true b u z, ltb-true u (b + length ds) w)) in rw z (rw w (rw f.1))
    go true z false w = rw z (rw w (rw (nth_past ds (u - b) (omega (arith, leb-true b u z, ltb-false u (b + length ds) w))) (rw (and_true alive) (sym (find_below 0 b t u r (leb-true b u z)) ∙ e))))
    go false z y w = rw z (rw (and_true alive) e)

-- one new use, as its edit places it
when_one : (b u : ℕ) (d : Definition) → when (eqb b u) d ≡ cond (leb b u) (nth (d ∷ []) (u - b)) none
unfolding when nth
when_one b u d = go (eqb b u) refl (leb b u) refl
  where
    at : (i : ℕ) → 1 ≤ i → none ≡ nth (d ∷ []) i
    at zero h = absurd (omega arith)
    at (suc i) h = refl

    go : (x : Bool) → eqb b u ≡ x → (y : Bool) → leb b u ≡ y → when (eqb b u) d ≡ cond (leb b u) (nth (d ∷ []) (u - b)) none
    go true z true w = rw z (rw w (ap (nth (d ∷ [])) (let q : 0 ≡ u - b = omega (arith, eqb→eq b u (is_true z)) in q)))
    go true z false w = absurd (omega (arith, leb-false b u w, eqb→eq b u (is_true z)))
    go false z true w = rw z (rw w (at (u - b) (apart (eqb-false b u z) (leb-true b u w))))
      where
        apart : (b ≡ u → ⊥) → b ≤ u → 1 ≤ u - b
        apart k h = one_more (u - b) refl
          where
            one_more : (n : ℕ) → u - b ≡ n → 1 ≤ n
            one_more zero q = absurd (k (omega arith))
            one_more (suc n) q = omega arith
    go false z false w = rw z (rw w refl)

use_one : (b u : ℕ) (alive : Bool) (pl : Option Definition) (d : Definition) (t : Table Definition) → Rising 0 b t → find t u ≡ reads alive pl → find (t ++ ((b, d) ∷ [])) u ≡ reads ((leb b u && ltb u (b + 1)) || (alive && true)) (or_before (when (eqb b u) d) pl)
unfolding number
use_one b u alive pl d t r e = rw (when_one b u d) (use_more b u alive pl (d ∷ []) t r e)

-- one given, an older one ended
use_swap : (b u x : ℕ) (alive : Bool) (pl : Option Definition) (d : Definition) (t : Table Definition) → x < b → Rising 0 b t → find t u ≡ reads alive pl → find (keep_keys (λ v. not (member v (x ∷ []))) (t ++ ((b, d) ∷ []))) u ≡ reads ((leb b u && ltb u (b + 1)) || (alive && not (member u (x ∷ [])))) (or_before (when (eqb b u) d) pl)
unfolding member
use_swap b u x alive pl d t low r e = find_keeps (λ v. not (member v (x ∷ []))) (t ++ ((b, d) ∷ [])) u ∙ go (eqb x u) refl
  where
    none_here : x ≡ u → none ≡ reads ((leb b u && ltb u (b + 1)) || (alive && false)) (or_before (when (eqb b u) d) pl)
    none_here z = at (leb b u) refl alive
      where
        at : (c : Bool) → leb b u ≡ c → (a : Bool) → none ≡ reads ((leb b u && ltb u (b + 1)) || (a && false)) (or_before (when (eqb b u) d) pl)
        at true w a = absurd (omega (arith, leb-true b u w))
        at false w true = rw w refl
        at false w false = rw w refl

    go : (c : Bool) → eqb x u ≡ c → cond (not (eqb x u || false)) (find (t ++ ((b, d) ∷ [])) u) none ≡ reads ((leb b u && ltb u (b + 1)) || (alive && not (eqb x u || false))) (or_before (when (eqb b u) d) pl)
    go true z = rw z (none_here (eqb→eq x u (is_true z)))
    go false z = rw z (use_one b u alive pl d t r e)

-- a use that is there moved
alive_here : (alive : Bool) (pl : Option Definition) → T (is_some (reads alive pl)) → alive ≡ true
unfolding is_some
alive_here true pl t = refl
alive_here false pl t = absurd t

use_move : (b u x : ℕ) (alive : Bool) (pl : Option Definition) (c : Bool) (d : Definition) (h : History) → (c ≡ false → T (is_some (find h.uses x))) → find h.uses u ≡ reads alive pl → find (cond c h (with_uses h (change x (λ _. d) h.uses))).uses u ≡ reads ((leb b u && ltb u (b + 0)) || (alive && true)) (or_before (when (not c && eqb x u) d) pl)
unfolding or_before when with_uses is_some
use_move b u x alive pl true d h k e = use_same b u alive pl (find h.uses u) e
use_move b u x alive pl false d h k e = rw (none_given b u) (rw (and_true alive) (find_changes x (λ _. d) h.uses u ∙ go (eqb x u) refl))
  where
    there : (o : Option Definition) → T (is_some o) → omap (λ _. d) o ≡ some d
    there none q = absurd q
    there (some a) q = refl

    go : (y : Bool) → eqb x u ≡ y → cond (eqb x u) (omap (λ _. d) (find h.uses u)) (find h.uses u) ≡ reads alive (or_before (when (eqb x u) d) pl)
    go true z =
        let here : T (is_some (find h.uses u)) = subst (λ (v : ℕ). T (is_some (find h.uses v))) (eqb→eq x u (is_true z)) (k refl) in
        let lives : alive ≡ true = alive_here alive pl (subst (λ (o : Option Definition). T (is_some o)) e here) in
        rw z (there (find h.uses u) here ∙ rw lives refl)
    go false z = rw z e

-- some of the uses of a placed at b
use_place : (n u : ℕ) (alive : Bool) (pl : Option Definition) (a b : Definition) (p : ℕ → Bool) (h : History) → find h.uses u ≡ reads alive pl → find (place_some a b p h).uses u ≡ reads ((leb n u && ltb u (n + 0)) || (alive && true)) (or_before (when (is_use_of a h u && p u) b) pl)
unfolding place_some with_uses or_before when is_use_of some_and is_some
use_place n u alive pl a b p h e = rw (none_given n u) (rw (and_true alive) (find_changes_all (λ v d. cond (same_definition d a && p v) b d) h.uses u ∙ go (find h.uses u) e))
  where
    picked : (c : Bool) (d : Definition) → some (cond c b d) ≡ or_before (when c b) (some d)
    picked true d = refl
    picked false d = refl

    was : (d : Definition) → some d ≡ reads alive pl → pl ≡ some d
    was d z = at alive z
      where
        at : (c : Bool) → some d ≡ reads c pl → pl ≡ some d
        at true q = sym q
        at false q = absurd (none_some (sym q))

    go : (o : Option Definition) → o ≡ reads alive pl → omap (λ d. cond (same_definition d a && p u) b d) o ≡ reads alive (or_before (when (some_and o (λ x. same_definition x a) && p u) b) pl)
    go none z = z
    go (some d) z = rw (alive_here alive pl (subst (λ (o : Option Definition). T (is_some o)) z tt)) (rw (was d z) (picked (same_definition d a && p u) d))

-- the use at an index of a list is older than all still to be born
pub count_at : (i : ℕ) (xs : List ℕ) → i < length xs → 1 ≤ count (get_or xs i 0) xs
count_at i [] k = absurd (not-suc-le-zero k)
count_at zero (x ∷ xs) k = omega (arith, ap one (eqb_same x))
count_at (suc i) (x ∷ xs) k = omega (arith, count_at i xs (le_of_suc-le-suc k))

pub slot_here : (u : ℕ) (sl : Slot) (a : Operation) → count u (uses_in sl a) ≤ here u a
unfolding uses_in
slot_here u operand a = omega arith
slot_here u successor a = omega arith

old_use : (sl : Slot) (o i : ℕ) (h : History) → IsFound h (operation_named o) → T (not (leb (slot_length h sl o) i)) → Placed h → use_at sl o i h < h.born.uses
unfolding use_at slot_of
old_use sl o i h l k w =
    let a = found_operation h o l in
    subst (λ (q : Option Operation). get_or (slot_of sl q) i 0 < h.born.uses) (sym a.1) (low a.0 a.1)
  where
    low : (a : Operation) → find h.operations o ≡ some a → get_or (uses_in sl a) i 0 < h.born.uses
    low a e = go (leb h.born.uses (get_or (uses_in sl a) i 0)) refl
      where
        x : ℕ
        x = get_or (uses_in sl a) i 0

        go : (c : Bool) → leb h.born.uses (get_or (uses_in sl a) i 0) ≡ c → get_or (uses_in sl a) i 0 < h.born.uses
        go true z = absurd (omega (arith, count_at i (uses_in sl a) (index_in h sl o i a e k), slot_here x sl a, weigh_at (here x) o h.operations a e, w.agree x, w.below x (leb-true h.born.uses x z)))
        go false z = leb-false h.born.uses (get_or (uses_in sl a) i 0) z

moved_there : (sl : Slot) (a u b : ℕ) (s : State) → T (eqb (from_state s (move_use sl a u b)) 0) → eqb a b ≡ false → T (is_some (find s.history.uses u))
unfolding from_state check some_and is_some
moved_there sl a u b s k z = go (find s.history.uses u) (zero_then (eqb a b) (check (some_and (find s.history.uses u) (same_definition (defined sl a))) 0 11) z k)
  where
    go : (o : Option Definition) → T (eqb (check (some_and o (same_definition (defined sl a))) 0 11) 0) → T (is_some o)
    go none q = absurd q
    go (some d) q = tt

same_uses : (q : ℕ) (p : Option ℕ) (o : ℕ) (h : History) → (hand_over q p o h).uses ≡ h.uses
unfolding hand_over with_operations
same_uses q none o h = refl
same_uses q (some p) o h = go (eqb p o)
  where
    go : (c : Bool) → (cond c h (with_operations h (change o (change_regions (λ xs. xs ++ (q ∷ []))) (change p (change_regions (swap_out q)) h.operations)))).uses ≡ h.uses
    go true = refl
    go false = refl

value_uses_lem : (m : Member) (n : ℕ) (f : List ℕ → List ℕ) (h : History) → (change_values m n f h).uses ≡ h.uses
unfolding change_values with_operations with_blocks
value_uses_lem operation n f h = refl
value_uses_lem block n f h = refl

put_uses : (m : Member) (x : ℕ) (c : Option ℕ) (h : History) → (put_in m x c h).uses ≡ h.uses
unfolding put_in with_operations with_blocks
put_uses operation x c h = refl
put_uses block x c h = refl

use_kept : (b u : ℕ) (alive : Bool) (pl : Option Definition) (t k : Table Definition) → k ≡ t → find t u ≡ reads alive pl → find k u ≡ reads ((leb b u && ltb u (b + 0)) || (alive && true)) (or_before none pl)
use_kept b u alive pl t k z e = use_same b u alive pl (find k u) (ap (λ (x : Table Definition). find x u) z ∙ e)

use_new : (fl : ℕ) (ts vs bs : List ℕ) (g : ℕ) (h : History) (u : ℕ) (alive : Bool) (pl : Option Definition) → Sorted h.born.uses h.uses → find h.uses u ≡ reads alive pl → UsesTold (new_operation fl ts vs bs g) h u alive pl
unfolding carry_out births gives ends_use ended_uses member placing
use_new fl ts vs bs g h u alive pl r e =
    subst (λ (n : ℕ). find (h.uses ++ number h.born.uses ds) u ≡ reads ((leb h.born.uses u && ltb u (h.born.uses + n)) || (alive && true)) (or_before (cond (leb h.born.uses u) (nth ds (u - h.born.uses)) none) pl)) (length-append (map of_value vs) (map of_block bs) ∙ (let z : length (map of_value vs) + length (map of_block bs) ≡ length vs + length bs = omega (arith, length-map vs of_value, length-map bs of_block) in z))
    (use_more h.born.uses u alive pl ds h.uses r.rising e)
  where
    ds : List Definition
    ds = map of_value vs ++ map of_block bs

replace_index : (sl : Slot) (o i d : ℕ) (s : State) → T (eqb (from_state s (replace_use sl o i d)) 0) → T (not (leb (slot_length s.history sl o) i))
unfolding from_state
replace_index sl o i d s k = (zero_first (leb (slot_length s.history sl o) i) 12 _ tt k).0

pub uses_read : (e : Edit) (s : State) (u : ℕ) (alive : Bool) (pl : Option Definition) → Sorted s.history.born.uses s.history.uses → Placed s.history → All (IsFound s.history) (named e) → T (eqb (from_state s e) 0) → find s.history.uses u ≡ reads alive pl → UsesTold e s.history u alive pl
unfolding carry_out births zeros gives ends_use ended_uses placing member named use_at with_operations with_blocks add_use take_use end_uses drop_inside end_inside
uses_read (new_operation fl ts vs bs g) s u alive pl r w l k e = use_new fl ts vs bs g s.history u alive pl r e
uses_read (new_block ts) s u alive pl r w l k e = use_same _ u alive pl _ e
uses_read (push_use sl o d) s u alive pl r w l k e = use_one _ u alive pl (defined sl d) s.history.uses r.rising e
uses_read (insert_use sl o i d) s u alive pl r w l k e = use_one _ u alive pl (defined sl d) s.history.uses r.rising e
uses_read (replace_use sl o i d) s u alive pl r w l k e = use_swap _ u _ alive pl (defined sl d) s.history.uses (old_use sl o i s.history l.0 (replace_index sl o i d s k) w) r.rising e
uses_read (remove_use sl o i) s u alive pl r w l k e = use_ends _ u alive pl (use_at sl o i s.history ∷ []) s.history.uses e
uses_read (pop_use sl o) s u alive pl r w l k e = use_ends _ u alive pl (use_at sl o (length (slot_of sl (find s.history.operations o)) - 1) s.history ∷ []) s.history.uses e
uses_read (push_value m o ty) s u alive pl r w l k e = use_kept _ u alive pl s.history.uses _ (value_uses_lem m o _ s.history) e
uses_read (insert_value m o i ty) s u alive pl r w l k e = use_kept _ u alive pl s.history.uses _ (value_uses_lem m o _ s.history) e
uses_read (remove_value m o i) s u alive pl r w l k e = use_kept _ u alive pl s.history.uses _ (value_uses_lem m o _ s.history) e
uses_read (pop_value m o) s u alive pl r w l k e = use_kept _ u alive pl s.history.uses _ (value_uses_lem m o _ s.history) e
uses_read (link_after m x c) s u alive pl r w l k e = use_kept _ u alive pl s.history.uses _ (put_uses m x _ s.history) e
uses_read (link_before m x c) s u alive pl r w l k e = use_kept _ u alive pl s.history.uses _ (put_uses m x _ s.history) e
uses_read (link_front m x c) s u alive pl r w l k e = use_kept _ u alive pl s.history.uses _ (put_uses m x _ s.history) e
uses_read (link_back m x c) s u alive pl r w l k e = use_kept _ u alive pl s.history.uses _ (put_uses m x _ s.history) e
uses_read (unlink m x) s u alive pl r w l k e = use_kept _ u alive pl s.history.uses _ (put_uses m x _ s.history) e
uses_read (move_region q o) s u alive pl r w l k e = use_kept _ u alive pl s.history.uses _ (same_uses q (parent s.history q) o s.history) e
uses_read (move_use sl a x b) s u alive pl r w l k e = use_move _ u x alive pl (eqb a b) (defined sl b) s.history (moved_there sl a x b s k) e
uses_read (replace_some a b us) s u alive pl r w l k e = use_place _ u alive pl (of_value a) (of_value b) (λ v. member v us) s.history e
uses_read (retarget_some a b ps) s u alive pl r w l k e = use_place _ u alive pl (of_block a) (of_block b) (λ v. some_and (user s.history v) (λ o. some_and (block_at s.history o) (λ c. member c ps))) s.history e
uses_read (drop_uses th) s u alive pl r w l k e = use_ends _ u alive pl (uses_inside s.history th) s.history.uses e
uses_read (erase_operation x) s u alive pl r w l k e = use_ends _ u alive pl (uses_inside s.history (the_operation x)) s.history.uses e
uses_read (erase_block x) s u alive pl r w l k e = use_ends _ u alive pl (uses_inside s.history (the_block x)) s.history.uses e
uses_read (erase_region o i) s u alive pl r w l k e = use_ends _ u alive pl (uses_inside s.history (the_region (region_index o i s.history))) s.history.uses e
uses_read (verdict th) s u alive pl r w l k e = use_same _ u alive pl _ e

-- ---- how many ended

chosen_ended : (c : Bool) (h : History) (us : Table Definition) → (cond c h (with_uses h us)).ended ≡ h.ended + 0
unfolding with_uses
chosen_ended true h us = sym (add-zero h.ended)
chosen_ended false h us = sym (add-zero h.ended)

handed_ended : (q : ℕ) (p : Option ℕ) (o : ℕ) (h : History) → (hand_over q p o h).ended ≡ h.ended + 0
unfolding hand_over with_operations
handed_ended q none o h = sym (add-zero h.ended)
handed_ended q (some p) o h = go (eqb p o)
  where
    go : (c : Bool) → (cond c h (with_operations h (change o (change_regions (λ xs. xs ++ (q ∷ []))) (change p (change_regions (swap_out q)) h.operations)))).ended ≡ h.ended + 0
    go true = sym (add-zero h.ended)
    go false = sym (add-zero h.ended)

value_ended : (m : Member) (n : ℕ) (f : List ℕ → List ℕ) (h : History) → (change_values m n f h).ended ≡ h.ended + 0
unfolding change_values with_operations with_blocks
value_ended operation n f h = sym (add-zero h.ended)
value_ended block n f h = sym (add-zero h.ended)

put_ended : (m : Member) (x : ℕ) (c : Option ℕ) (h : History) → (put_in m x c h).ended ≡ h.ended + 0
unfolding put_in with_operations with_blocks
put_ended operation x c h = sym (add-zero h.ended)
put_ended block x c h = sym (add-zero h.ended)

pub ended_read : (e : Edit) (h : History) → (carry_out e h).ended ≡ h.ended + length (ended_uses e h)
unfolding carry_out ended_uses use_at with_operations with_blocks with_uses add_use take_use end_uses drop_inside end_inside place_some
ended_read (new_operation fl ts vs bs g) h = sym (add-zero h.ended)
ended_read (new_block ts) h = sym (add-zero h.ended)
ended_read (push_use sl o d) h = sym (add-zero h.ended)
ended_read (insert_use sl o i d) h = sym (add-zero h.ended)
ended_read (replace_use sl o i d) h = refl
ended_read (remove_use sl o i) h = refl
ended_read (pop_use sl o) h = refl
ended_read (push_value m o ty) h = value_ended m o _ h
ended_read (insert_value m o i ty) h = value_ended m o _ h
ended_read (remove_value m o i) h = value_ended m o _ h
ended_read (pop_value m o) h = value_ended m o _ h
ended_read (link_after m x c) h = put_ended m x _ h
ended_read (link_before m x c) h = put_ended m x _ h
ended_read (link_front m x c) h = put_ended m x _ h
ended_read (link_back m x c) h = put_ended m x _ h
ended_read (unlink m x) h = put_ended m x _ h
ended_read (move_region q o) h = handed_ended q (parent h q) o h
ended_read (move_use sl a u b) h = chosen_ended (eqb a b) h (change u (λ _. defined sl b) h.uses)
ended_read (replace_some a b us) h = sym (add-zero h.ended)
ended_read (retarget_some a b ps) h = sym (add-zero h.ended)
ended_read (drop_uses th) h = refl
ended_read (erase_operation x) h = refl
ended_read (erase_block x) h = refl
ended_read (erase_region o i) h = refl
ended_read (verdict th) h = sym (add-zero h.ended)

-- ---- what is born is placed

not_given : (b u : ℕ) {C : Type 0} → T (leb b u && ltb u (b + 0)) → C
not_given b u t = absurd (subst T (none_given b u) t)

placed_one : (b u : ℕ) (d : Definition) → T (leb b u && ltb u (b + 1)) → T (is_some (when (eqb b u) d))
unfolding is_some when
placed_one b u d t = go (leb b u) refl (ltb u (b + 1)) refl t
  where
    go : (x : Bool) → leb b u ≡ x → (y : Bool) → ltb u (b + 1) ≡ y → T (x && y) → T (is_some (when (eqb b u) d))
    go true z true w q = rw (eq-eqb b u (omega (arith, leb-true b u z, ltb-true u (b + 1) w))) tt
    go true z false w q = absurd q
    go false z y w q = absurd q

placed_new : (b u : ℕ) (ds : List Definition) (n : ℕ) → length ds ≡ n → T (leb b u && ltb u (b + n)) → T (is_some (cond (leb b u) (nth ds (u - b)) none))
unfolding is_some
placed_new b u ds n e t = go (leb b u) refl (ltb u (b + n)) refl t
  where
    go : (x : Bool) → leb b u ≡ x → (y : Bool) → ltb u (b + n) ≡ y → T (x && y) → T (is_some (cond (leb b u) (nth ds (u - b)) none))
    go true z true w q = let f = nth_in ds (u - b) (omega (arith, leb-true b u z, ltb-true u (b + n) w)) in rw z (rw f.1 tt)
    go true z false w q = absurd q
    go false z y w q = absurd q

given_placed : (e : Edit) (h : History) (u : ℕ) → T (gives (λ k. k.uses) e h u) → T (is_some (placing e h u))
unfolding gives births zeros placing
given_placed (new_operation fl ts vs bs g) h u t = placed_new h.born.uses u (map of_value vs ++ map of_block bs) (length vs + length bs) (length-append (map of_value vs) (map of_block bs) ∙ (let z : length (map of_value vs) + length (map of_block bs) ≡ length vs + length bs = omega (arith, length-map vs of_value, length-map bs of_block) in z)) t
given_placed (new_block ts) h u t = not_given h.born.uses u t
given_placed (push_use sl o d) h u t = placed_one h.born.uses u (defined sl d) t
given_placed (insert_use sl o i d) h u t = placed_one h.born.uses u (defined sl d) t
given_placed (replace_use sl o i d) h u t = placed_one h.born.uses u (defined sl d) t
given_placed (remove_use sl o i) h u t = not_given h.born.uses u t
given_placed (pop_use sl o) h u t = not_given h.born.uses u t
given_placed (push_value m o ty) h u t = not_given h.born.uses u t
given_placed (insert_value m o i ty) h u t = not_given h.born.uses u t
given_placed (remove_value m o i) h u t = not_given h.born.uses u t
given_placed (pop_value m o) h u t = not_given h.born.uses u t
given_placed (link_after m x c) h u t = not_given h.born.uses u t
given_placed (link_before m x c) h u t = not_given h.born.uses u t
given_placed (link_front m x c) h u t = not_given h.born.uses u t
given_placed (link_back m x c) h u t = not_given h.born.uses u t
given_placed (unlink m x) h u t = not_given h.born.uses u t
given_placed (move_region q o) h u t = not_given h.born.uses u t
given_placed (move_use sl a x b) h u t = not_given h.born.uses u t
given_placed (replace_some a b us) h u t = not_given h.born.uses u t
given_placed (retarget_some a b ps) h u t = not_given h.born.uses u t
given_placed (drop_uses th) h u t = not_given h.born.uses u t
given_placed (erase_operation x) h u t = not_given h.born.uses u t
given_placed (erase_block x) h u t = not_given h.born.uses u t
given_placed (erase_region o i) h u t = not_given h.born.uses u t
given_placed (verdict th) h u t = not_given h.born.uses u t

-- what lives by the reading was placed by it: no list of edits needed to be accepted for that
pub lives_placed : (l : List Edit) (u : ℕ) → T (use_lives l u) → T (is_some (placed_at l u))
unfolding use_lives lives placed_at or_before is_some
lives_placed [] u t = t
lives_placed (e ∷ l) u t = go (gives (λ k. k.uses) e (told l) u) refl (placing e (told l) u) refl t (given_placed e (told l) u) (lives_placed l u)
  where
    first : (a b : Bool) → T (a && b) → T a
    first true b q = tt
    first false b q = q

    go : (c : Bool) → gives (λ k. k.uses) e (told l) u ≡ c → (o : Option Definition) → placing e (told l) u ≡ o → T (c || (use_lives l u && not (ends_use e (told l) u))) → (T (gives (λ k. k.uses) e (told l) u) → T (is_some (placing e (told l) u))) → (T (use_lives l u) → T (is_some (placed_at l u))) → T (is_some (or_before o (placed_at l u)))
    go c z (some d) w q f ih = tt
    go true z none w q f ih = absurd (subst (λ (o : Option Definition). T (is_some o)) w (f (is_true z)))
    go false z none w q f ih = ih (first (use_lives l u) (not (ends_use e (told l) u)) q)

-- B of 36 to 41 is the number of uses that the edit ends
ended_more : (e : Edit) (h : History) → (remember e h).ended - h.ended ≡ length (ended_uses e h)
unfolding remember bear
ended_more e h = let z : (carry_out e h).ended ≡ h.ended + length (ended_uses e h) = ended_read e h in omega arith

pub drop_told : (t : Thing) (s : State) → (answer (drop_uses t) s (remember (drop_uses t) s.history)).b ≡ length (ended_uses (drop_uses t) s.history)
unfolding answer found
drop_told t s = ended_more (drop_uses t) s.history

pub erase_operation_told : (n : ℕ) (s : State) → (answer (erase_operation n) s (remember (erase_operation n) s.history)).b ≡ length (ended_uses (erase_operation n) s.history)
unfolding answer found
erase_operation_told n s = ended_more (erase_operation n) s.history

pub erase_block_told : (n : ℕ) (s : State) → (answer (erase_block n) s (remember (erase_block n) s.history)).b ≡ length (ended_uses (erase_block n) s.history)
unfolding answer found
erase_block_told n s = ended_more (erase_block n) s.history

pub erase_region_told : (o i : ℕ) (s : State) → (answer (erase_region o i) s (remember (erase_region o i) s.history)).b ≡ length (ended_uses (erase_region o i) s.history)
unfolding answer found
erase_region_told o i s = ended_more (erase_region o i) s.history
