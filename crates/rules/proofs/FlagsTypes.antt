-- Flags and types are those of the live operations and values, and stay so with every accepted edit in every sound state.
-- Assumes nothing.
use mathlib.Core.Path.{◌≡◌, refl, sym, ap, subst, ◌∙◌}
use mathlib.Core.Logic.{◌⊎◌, inl, inr}
use mathlib.Core.Bool.{Bool, true, false, not, cond, ◌&&◌, ◌||◌}
use mathlib.Core.List.{List, ◌++◌}
use Prim.Native.Nat.{ℕ, zero, suc, ◌+◌, ◌≤◌, ◌<◌}
use native.Mathlib.Omega.{arith}
use borrow.Author.Tests.{eqb-false, leb-true, leb-false, ltb-true}
use lib.Dec.{T, eqb, leb, ltb}
use lib.ListN.{length}
use Rattle.rules.specs.Table.{Table, keys, keep_keys, number, up, one, count}
use Rattle.edit.specs.Record.{Edit}
use Rattle.rules.specs.History.{births, bear, remember, live_operation, live_value}
use Rattle.rules.specs.State.{State, accept, new_flags, new_types}
use Rattle.rules.specs.Refusal.{refusal_of}
use Rattle.rules.specs.Told.{gives, ends_operation}
use Rattle.rules.proofs.Tables.{or_split, and_l}
use Rattle.rules.proofs.Places.{keys_append, keys_number, keys_kept, keys_gone, up_below, up_once}
use Rattle.rules.proofs.Rising.{Sorted, Ordered, ordered_accept, given_born}
use Rattle.rules.proofs.Inside.{rising_once}
use Rattle.rules.proofs.Laws.{is_true, find_below}
use Rattle.rules.proofs.Values.{owners, Valued, values_grown}
use Rattle.rules.proofs.Listed.{key_none, key_found, found_count}
use Rattle.rules.proofs.Tracks.{operations_told}
use Rattle.rules.proofs.Sums.{live_owners, owners_live}

pub up_in : (u b d : ℕ) → b ≤ u → u < b + d → 1 ≤ count u (up b d)
unfolding up
up_in u b zero h k = absurd (omega arith)
up_in u b (suc d) h k = go (eqb b u) refl (up_in u (suc b) d)
  where
    go : (c : Bool) → eqb b u ≡ c → (suc b ≤ u → u < suc b + d → 1 ≤ count u (up (suc b) d)) → 1 ≤ one (eqb b u) + count u (up (suc b) d)
    go true z ih = omega (arith, ap one z)
    go false z ih = let q : b ≡ u → ⊥ = eqb-false b u z in omega (arith, ih (apart (leb u b) refl q) (omega arith))
      where
        apart : (t : Bool) → leb u b ≡ t → (b ≡ u → ⊥) → suc b ≤ u
        apart true w q = absurd (q (omega (arith, leb-true u b w)))
        apart false w q = omega (arith, leb-false u b w)

above_none : {A : Type 0} (b n : ℕ) (t : Table A) → Sorted b t → b ≤ n → count n (keys t) ≡ 0
above_none b n t r k = key_none t n (find_below 0 b t n r.rising k)

-- ---- flags

unfoldable pub Flagged : State → Type 0
Flagged s = (n : ℕ) → count n (keys s.flags) ≡ count n (keys s.history.operations)

kept_count : {A : Type 0} (p : ℕ → Bool) (t : Table A) (n : ℕ) (b : Bool) → p n ≡ b → count n (keys (keep_keys p t)) ≡ cond b (count n (keys t)) 0
kept_count p t n true z = keys_kept n p t (is_true z)
kept_count p t n false z = keys_gone n p t (subst (λ (c : Bool). T (not c)) (sym z) tt)

more_count : {A : Type 0} (b n d : ℕ) (t : Table A) (xs : List A) → length xs ≡ d → count n (keys (t ++ number b xs)) ≡ count n (keys t) + count n (up b d)
more_count b n d t xs e = omega (arith, keys_append n t (number b xs), ap (count n) (keys_number b xs ∙ ap (up b) e))

flags_kept : (e : Edit) (s : State) (n : ℕ) (c : Bool) → live_operation (accept e s).history n ≡ c → count n (keys (accept e s).flags) ≡ cond c (count n (keys (s.flags ++ number s.history.born.operations (new_flags e)))) 0
unfolding accept
flags_kept e s n c z = kept_count (live_operation (remember e s.history)) (s.flags ++ number s.history.born.operations (new_flags e)) n c z

pub flagged_accept : (e : Edit) (s : State) → T (eqb (refusal_of s e) 0) → Ordered s → Flagged s → Flagged (accept e s)
unfolding Flagged
flagged_accept e s k o w n = go (live_operation (accept e s).history n) refl
  where
    b : ℕ
    b = s.history.born.operations

    d : ℕ
    d = (births e).operations

    all : ℕ
    all = count n (keys (s.flags ++ number s.history.born.operations (new_flags e)))

    sum : all ≡ count n (keys s.history.operations) + count n (up s.history.born.operations (births e).operations)
    sum = more_count s.history.born.operations n (births e).operations s.flags (new_flags e) (given_born e).0 ∙ ap (λ (x : ℕ). x + count n (up s.history.born.operations (births e).operations)) (w n)

    most : all ≤ 1
    most = side (leb s.history.born.operations n) refl
      where
        side : (c : Bool) → leb s.history.born.operations n ≡ c → all ≤ 1
        side true z = omega (arith, sum, above_none _ n s.history.operations o.ops (leb-true s.history.born.operations n z), up_once n s.history.born.operations (births e).operations)
        side false z = omega (arith, sum, rising_once 0 _ n s.history.operations o.ops.rising, up_below n s.history.born.operations (births e).operations (leb-false s.history.born.operations n z))

    told : live_operation (accept e s).history n ≡ gives (λ q. q.operations) e s.history n || (live_operation s.history n && not (ends_operation e s.history n))
    told = unfold accept remember bear live_operation in (operations_told e s.history n o.ops)

    least : T (live_operation (accept e s).history n) → 1 ≤ all
    least t = pick (or_split (gives (λ q. q.operations) e s.history n) (live_operation s.history n && not (ends_operation e s.history n)) (subst T told t))
      where
        pick : T (gives (λ q. q.operations) e s.history n) ⊎ T (live_operation s.history n && not (ends_operation e s.history n)) → 1 ≤ all
        pick (inl x) = given (leb s.history.born.operations n) refl (ltb n (s.history.born.operations + (births e).operations)) refl (unfold gives in x)
          where
            given : (p : Bool) → leb s.history.born.operations n ≡ p → (q : Bool) → ltb n (s.history.born.operations + (births e).operations) ≡ q → T (p && q) → 1 ≤ all
            given true z true v t = omega (arith, sum, up_in n s.history.born.operations (births e).operations (leb-true s.history.born.operations n z) (ltb-true n (s.history.born.operations + (births e).operations) v))
            given true z false v t = absurd t
            given false z q v t = absurd t
        pick (inr x) = omega (arith, sum, found_count s.history.operations n (unfold live_operation in (and_l (live_operation s.history n) (not (ends_operation e s.history n)) x)))

    flags_now : (c : Bool) → live_operation (accept e s).history n ≡ c → count n (keys (accept e s).flags) ≡ cond c all 0
    flags_now = flags_kept e s n

    go : (c : Bool) → live_operation (accept e s).history n ≡ c → count n (keys (accept e s).flags) ≡ count n (keys (accept e s).history.operations)
    go true z = omega (arith, flags_now true z, most, least (is_true z), found_count (accept e s).history.operations n (unfold live_operation in (is_true z)), rising_once 0 _ n (accept e s).history.operations (ordered_accept e s k o).ops.rising)
    go false z = omega (arith, flags_now false z, nothing (count n (keys (accept e s).history.operations)) refl)
      where
        nothing : (m : ℕ) → count n (keys (accept e s).history.operations) ≡ m → m ≡ 0
        nothing zero q = refl
        nothing (suc m) q = absurd (subst T z (unfold live_operation in (key_found (accept e s).history.operations n (omega arith))))

-- ---- types

unfoldable pub Typed : State → Type 0
Typed s = (v : ℕ) → count v (keys s.types) ≡ owners v s.history

pub typed_accept : (e : Edit) (s : State) → Ordered s → Valued s.history.born.values s.history → Typed s → Typed (accept e s)
unfolding Typed
typed_accept e s r o w v = go (live_value (accept e s).history v) refl
  where
    all : ℕ
    all = count v (keys (s.types ++ number s.history.born.values (new_types e)))

    sum : all ≡ owners v s.history + count v (up s.history.born.values (births e).values)
    sum = more_count s.history.born.values v (births e).values s.types (new_types e) (given_born e).1 ∙ ap (λ (x : ℕ). x + count v (up s.history.born.values (births e).values)) (w v)

    most : all ≤ 1
    most = side (leb s.history.born.values v) refl
      where
        side : (c : Bool) → leb s.history.born.values v ≡ c → all ≤ 1
        side true z = omega (arith, sum, o.fresh v (leb-true s.history.born.values v z), up_once v s.history.born.values (births e).values)
        side false z = omega (arith, sum, o.once v, up_below v s.history.born.values (births e).values (leb-false s.history.born.values v z))

    grown : owners v (accept e s).history ≤ all
    grown = unfold accept remember bear in (omega (arith, sum, (values_grown e s.history r.ops r.blks).less v))

    types_now : (c : Bool) → live_value (accept e s).history v ≡ c → count v (keys (accept e s).types) ≡ cond c all 0
    types_now c z = unfold accept in (kept_count (live_value (remember e s.history)) (s.types ++ number s.history.born.values (new_types e)) v c (unfold accept in z))

    go : (c : Bool) → live_value (accept e s).history v ≡ c → count v (keys (accept e s).types) ≡ owners v (accept e s).history
    go true z = omega (arith, types_now true z, most, grown, live_owners (accept e s).history v (is_true z))
    go false z = omega (arith, types_now false z, nothing (owners v (accept e s).history) refl)
      where
        nothing : (m : ℕ) → owners v (accept e s).history ≡ m → m ≡ 0
        nothing zero q = refl
        nothing (suc m) q = absurd (subst T z (owners_live (accept e s).history v (omega arith)))
