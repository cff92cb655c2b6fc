-- Every accepted edit of a record keeps a state sound, whether it was reached from a new store or not: the parts of a sound state, as the proofs
-- use them. Assumes nothing.
use mathlib.Core.Path.{refl}
use mathlib.Core.List.{List, [], ◌++◌}
use Prim.Native.Nat.{ℕ, ◌≤◌}
use native.Mathlib.Omega.{arith}
use lib.Dec.{T, eqb}
use Rattle.rules.specs.Table.{find, keys, number}
use Rattle.edit.specs.Record.{Member, operation, Edit, new_operation, new_block, push_use, insert_use, replace_use, remove_use, pop_use, push_value, insert_value, remove_value, pop_value, link_after, link_before, link_front, link_back, unlink, move_region, move_use, replace_some, retarget_some, drop_uses, erase_operation, erase_block, erase_region, verdict}
use Rattle.rules.specs.History.{Five, births, bear, plus, begin, carry_out, remember, live_operation}
use Rattle.rules.specs.Orders.{lists, no_orders}
use Rattle.rules.specs.State.{State, accept, start, new_flags}
use Rattle.rules.specs.Refusal.{named, from_state, refusal_of, first_missing}
use Rattle.rules.specs.Calls.{Call, after}
use Rattle.rules.proofs.Tables.{Every, All, Every-append, Every-number, Every-keep}
use Rattle.rules.proofs.Read.{Small}
use Rattle.rules.proofs.Closure.{or_else_zero, after_told}
use Rattle.rules.proofs.Live.{Held, held_accept}
use Rattle.rules.proofs.Places.{Placed, placed_accept, placed_start}
use Rattle.rules.proofs.Inside.{Nesting, nesting_accept, nesting_start}
use Rattle.rules.proofs.Laws.{none_some}
use Rattle.rules.proofs.Values.{Valued, valued_accept, valued_start}
use Rattle.rules.proofs.Listed.{Listed, listed_accept, listed_start}
use Rattle.rules.proofs.Sorts.{Sorts, sorts_carry_out, sorts_bear}
use Rattle.rules.proofs.FlagsTypes.{Flagged, flagged_accept, Typed, typed_accept}
use Rattle.rules.proofs.Limits.{Within, within_carry_out, within_same}
use Rattle.rules.proofs.Room.{Fits, fits_accept}

pub record Low (f : ℕ) : Type 0 where
  pub three : f ≤ 3

pub record Core (s : State) : Type 0 where
  -- tables and lists within their limits
  pub fits : Fits s
  pub within : Within s.history
  -- flags up to 3, one for each live operation; and one type for each live value
  pub low : Every Low s.flags
  pub flagged : Flagged s
  pub typed : Typed s
  -- numbers rise below the counters; regions and values have one owner; nothing lies in itself
  pub nesting : Nesting s
  pub values : Valued s.history.born.values s.history
  -- each thing in the list of its container
  pub listed : (m : Member) → Listed m s.history (lists m s.orders)
  -- each use at one place, with one live definition of the right sort
  pub placed : Placed s.history
  pub held : Held s.history
  pub sorts : Sorts s.history

new_low : (e : Edit) → Small e → All Low (new_flags e)
unfolding new_flags
new_low (new_operation fl ts vs bs g) k = (record { three = k.0 }, tt)
new_low (new_block ts) k = tt
new_low (push_use sl o d) k = tt
new_low (insert_use sl o i d) k = tt
new_low (replace_use sl o i d) k = tt
new_low (remove_use sl o i) k = tt
new_low (pop_use sl o) k = tt
new_low (push_value w o ty) k = tt
new_low (insert_value w o i ty) k = tt
new_low (remove_value w o i) k = tt
new_low (pop_value w o) k = tt
new_low (link_after w x c) k = tt
new_low (link_before w x c) k = tt
new_low (link_front w x c) k = tt
new_low (link_back w x c) k = tt
new_low (unlink w x) k = tt
new_low (move_region r o) k = tt
new_low (move_use sl a u b) k = tt
new_low (replace_some a b us) k = tt
new_low (retarget_some a b ps) k = tt
new_low (drop_uses th) k = tt
new_low (erase_operation n) k = tt
new_low (erase_block n) k = tt
new_low (erase_region o i) k = tt
new_low (verdict th) k = tt

module _ (e : Edit) (s : State) (f : Small e) (k : T (eqb (refusal_of s e) 0)) (w : Core s) where
  passed : T (eqb (from_state s e) 0)
  passed = unfold refusal_of in (or_else_zero (first_missing s.history (named e)) (from_state s e) k).1

  low_after : Every Low (accept e s).flags
  unfolding accept
  low_after = Every-keep Low (live_operation (remember e s.history)) (s.flags ++ number s.history.born.operations (new_flags e)) (Every-append Low s.flags (number s.history.born.operations (new_flags e)) w.low (Every-number Low s.history.born.operations (new_flags e) (new_low e f)))

  within_after : Within (accept e s).history
  within_after = within_same (carry_out e s.history) (accept e s).history (unfold accept remember bear in refl) (unfold accept remember bear in refl) (within_carry_out e s w.nesting.owning.ordered f passed w.within)

  sorts_after : Sorts (accept e s).history
  sorts_after = unfold accept remember in (sorts_bear (plus s.history.born (births e)) (carry_out e s.history) (sorts_carry_out e s w.nesting.owning.ordered w.placed passed w.sorts))

  pub core_accept : Core (accept e s)
  core_accept = record {
    fits = fits_accept e s k w.flagged (flagged_accept e s k w.nesting.owning.ordered w.flagged) (w.listed operation) (listed_accept operation e s k w.nesting (w.listed operation)) w.placed (placed_accept e s w.nesting.owning.ordered k w.placed) w.fits;
    within = within_after;
    low = low_after;
    flagged = flagged_accept e s k w.nesting.owning.ordered w.flagged;
    typed = typed_accept e s w.nesting.owning.ordered w.values w.typed;
    nesting = nesting_accept e s k w.nesting;
    values = valued_accept e s w.nesting.owning.ordered w.values;
    listed = λ m. listed_accept m e s k w.nesting (w.listed m);
    placed = placed_accept e s w.nesting.owning.ordered k w.placed;
    held = held_accept e s w.nesting.owning.ordered k w.held;
    sorts = sorts_after;
  }

pub core_start : (k : Five) → Core (start k)
core_start k = record {
  fits = unfold start begin no_orders in (record { ops = omega arith; blks = omega arith; regs = omega arith; vals = omega arith; us = omega arith });
  within = unfold start begin in (record { ops = tt; blks = tt });
  low = unfold start in tt;
  flagged = unfold Flagged start begin keys in (λ n. refl);
  typed = unfold Typed start begin keys in (λ n. refl);
  nesting = nesting_start k;
  values = valued_start k;
  listed = λ m. listed_start m k;
  placed = placed_start k;
  held = unfold start begin in tt;
  sorts = record { fits = λ sl u d e q. absurd (none_some {a = d} (unfold start begin find in e)) };
}

-- after every list of calls
pub every_call_core : (k : Five) (cs : List Call) → Core (after (start k) cs)
every_call_core k cs = after_told (λ s _. Core s) (λ e s _ f z w. core_accept e s f z w) cs (start k) [] (core_start k)
