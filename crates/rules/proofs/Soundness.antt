-- A sound state, as specs/Sound says it, is what the proofs use: so every accepted edit of a record keeps a sound state sound, and every list of
-- calls of a new store leaves a sound one. Assumes nothing.
use mathlib.Core.Path.{◌≡◌, refl, sym}
use mathlib.Core.Bool.{Bool, true, false}
use mathlib.Core.List.{List, [], ◌∷◌}
use mathlib.Core.Option.{some}
use Prim.Native.Nat.{ℕ, suc, ◌+◌, ◌≤◌, ◌<◌}
use native.Mathlib.Omega.{arith}
use borrow.Author.Tests.{ne_eqb, leb-true, leb-false}
use lib.Dec.{T, eqb, leb}
use lib.ListN.{length}
use Rattle.rules.specs.Table.{Table, Rising, spread, find, keys, count}
use Rattle.edit.specs.Record.{Slot, operand, successor, Member, operation, block, Edit}
use Rattle.rules.specs.History.{Operation, Five, uses_in, container, region_at}
use Rattle.rules.specs.Orders.{lists, live_container}
use Rattle.rules.specs.State.{State, accept, start}
use Rattle.rules.specs.Refusal.{refusal_of}
use Rattle.rules.specs.Calls.{Call, after}
use Rattle.rules.specs.Sound.{region_places, value_places, use_places, Sound}
use Rattle.rules.proofs.Tables.{Every, Every-find}
use Rattle.rules.proofs.Read.{Small}
use Rattle.rules.proofs.Live.{IsLive}
use Rattle.rules.proofs.Rising.{Sorted}
use Rattle.rules.proofs.Regions.{owned, Owned, rising_find}
use Rattle.rules.proofs.Inside.{rising_once}
use Rattle.rules.proofs.Laws.{eqb_same, find_below}
use Rattle.rules.proofs.Values.{owners}
use Rattle.rules.proofs.Listed.{Listed, container_live, live_owned, key_none}
use Rattle.rules.proofs.Sorts.{total_slots}
use Rattle.rules.proofs.FlagsTypes.{Flagged, Typed}
use Rattle.rules.proofs.Limits.{Short, ShortBlock}
use Rattle.rules.proofs.Inward.{not_in_itself}
use Rattle.rules.proofs.Acyclic.{nested_levels}
use Rattle.rules.proofs.Core.{Low, Core, core_accept, every_call_core}

module _ {A : Type 0} (P : A → Type 0) where
  every_of : (lo b : ℕ) (t : Table A) → Rising lo b t → ((n : ℕ) (a : A) → find t n ≡ some a → P a) → Every P t
  unfolding find
  every_of lo b [] r k = tt
  every_of lo b (e ∷ t) r k = (k e.0 e.1 (rw (eqb_same e.0) refl), every_of (suc e.0) b t r.1 (λ n a q. k n a (rw (ne_eqb e.0 n (λ z. omega (arith, rising_find (suc e.0) b t n a r.1 q))) q)))

none_above : {A : Type 0} (b n : ℕ) (t : Table A) → Rising 0 b t → b ≤ n → count n (keys t) ≡ 0
none_above b n t r k = key_none t n (find_below 0 b t n r k)

module _ (s : State) (w : Sound s) where
  regions_told : (r : ℕ) → owned r s.history.operations ≡ count r (keys s.orders.blocks_of)
  regions_told r = unfold region_places in (w.regions_stand r)

  values_told : (v : ℕ) → owners v s.history ≡ count v (keys s.types)
  values_told v = unfold value_places in (w.values_stand v)

  uses_told : (u : ℕ) → spread (uses_in operand) u s.history.operations + spread (uses_in successor) u s.history.operations ≡ count u (keys s.history.uses)
  uses_told u = unfold use_places in (w.uses_stand u)

  owned_fits : Owned s.history.born.regions s.history.operations
  owned_fits = record {
    once = λ r. omega (arith, regions_told r, rising_once 0 _ r s.orders.blocks_of w.blocks_of_rise);
    fresh = λ r k. omega (arith, regions_told r, none_above _ r s.orders.blocks_of w.blocks_of_rise k);
  }

  sorted_ops : Sorted s.history.born.operations s.history.operations
  sorted_ops = record { rising = w.operations_rise }

  lists_agree : (m : Member) → Listed m s.history (lists m s.orders)
  lists_agree operation = record { agree = w.links operation; same = λ c. unfold lists in (w.blocks_listed c) }
  lists_agree block = record { agree = w.links block; same = λ c. unfold lists region_places in (sym (w.regions_stand c)) }

  below : (c r : ℕ) → region_at s.history c ≡ some r → r < s.history.born.regions
  below c r e = go (leb s.history.born.regions r) refl
    where
      there : 1 ≤ owned r s.history.operations
      there = live_owned s.history r (unfold live_container in (container_live block s.history (lists block s.orders) (lists_agree block) c r (unfold container in e)))

      go : (b : Bool) → leb s.history.born.regions r ≡ b → r < s.history.born.regions
      go true z = absurd (omega (arith, there, owned_fits.fresh r (leb-true s.history.born.regions r z)))
      go false z = leb-false s.history.born.regions r z

  pub core_of : Core s
  core_of = record {
    fits = record { ops = w.operations_fit; blks = w.blocks_fit; regs = w.regions_fit; vals = w.values_fit; us = w.uses_fit };
    within = record {
      ops = every_of Short 0 _ s.history.operations w.operations_rise (λ n o e. record { res = w.results_short n o e; opd = unfold uses_in in (w.slots_short operand n o e); suc' = unfold uses_in in (w.slots_short successor n o e); reg = w.regions_short n o e });
      blks = every_of ShortBlock 0 _ s.history.blocks w.blocks_rise (λ n b e. record { arg = w.arguments_short n b e });
    };
    low = every_of Low 0 _ s.flags w.flags_rise (λ n f e. record { three = w.flags_low n f e });
    flagged = unfold Flagged in w.operations_flagged;
    typed = unfold Typed value_places in (λ v. sym (w.values_stand v));
    nesting = record {
      owning = record {
        ordered = record {
          ops = sorted_ops;
          blks = record { rising = w.blocks_rise };
          us = record { rising = w.uses_rise };
          flgs = record { rising = w.flags_rise };
          tys = record { rising = w.types_rise };
          lists = record { rising = w.ops_of_rise };
          blists = record { rising = w.blocks_of_rise };
        };
        regions = owned_fits;
      };
      hung = record { list = _; nested = nested_levels s.history _ sorted_ops w.outside_itself; within = below };
    };
    values = record {
      once = λ v. omega (arith, values_told v, rising_once 0 _ v s.types w.types_rise);
      fresh = λ v k. omega (arith, values_told v, none_above _ v s.types w.types_rise k);
    };
    listed = lists_agree;
    placed = record {
      agree = λ u. omega (arith, total_slots u s.history.operations, uses_told u);
      once = λ u. rising_once 0 _ u s.history.uses w.uses_rise;
      below = λ u k. none_above _ u s.history.uses w.uses_rise k;
      sum = w.ended_rest;
    };
    held = every_of (IsLive s.history) 0 _ s.history.uses w.uses_rise w.uses_held;
    sorts = record { fits = w.uses_sorted };
  }

slot_short : (sl : Slot) (o : Operation) → Short o → length (uses_in sl o) ≤ 64
unfolding uses_in
slot_short operand o w = w.opd
slot_short successor o w = w.suc'

pub sound_of : (s : State) → Core s → Sound s
sound_of s c = record {
  operations_fit = c.fits.ops;
  blocks_fit = c.fits.blks;
  regions_fit = c.fits.regs;
  values_fit = c.fits.vals;
  uses_fit = c.fits.us;
  results_short = λ n o e. (Every-find Short s.history.operations c.within.ops n o e).res;
  slots_short = λ sl n o e. slot_short sl o (Every-find Short s.history.operations c.within.ops n o e);
  regions_short = λ n o e. (Every-find Short s.history.operations c.within.ops n o e).reg;
  arguments_short = λ n b e. (Every-find ShortBlock s.history.blocks c.within.blks n b e).arg;
  flags_low = λ n f e. (Every-find Low s.flags c.low n f e).three;
  operations_rise = c.nesting.owning.ordered.ops.rising;
  blocks_rise = c.nesting.owning.ordered.blks.rising;
  uses_rise = c.nesting.owning.ordered.us.rising;
  flags_rise = c.nesting.owning.ordered.flgs.rising;
  types_rise = c.nesting.owning.ordered.tys.rising;
  ops_of_rise = c.nesting.owning.ordered.lists.rising;
  blocks_of_rise = c.nesting.owning.ordered.blists.rising;
  regions_stand = λ r. unfold region_places in (sym (unfold lists in ((c.listed block).same r)));
  values_stand = λ v. unfold value_places in (sym (unfold Typed in (c.typed v)));
  operations_flagged = unfold Flagged in c.flagged;
  blocks_listed = λ n. unfold lists in ((c.listed operation).same n);
  links = λ m. (c.listed m).agree;
  uses_stand = λ u. unfold use_places in (omega (arith, total_slots u s.history.operations, c.placed.agree u));
  uses_held = Every-find (IsLive s.history) s.history.uses c.held;
  uses_sorted = c.sorts.fits;
  ended_rest = c.placed.sum;
  outside_itself = not_in_itself s.history c.nesting.hung.list c.nesting.hung.nested (λ n. omega (arith, c.nesting.hung.nested.same n, rising_once 0 _ n s.history.operations c.nesting.owning.ordered.ops.rising));
}

-- an accepted edit that a record asked for keeps a sound state sound
pub sound_accept : (e : Edit) (s : State) → Small e → T (eqb (refusal_of s e) 0) → Sound s → Sound (accept e s)
sound_accept e s f k w = sound_of (accept e s) (core_accept e s f k (core_of s w))

-- and every list of calls of a new store of any capacities leaves a sound state
pub every_call_sound : (k : Five) (cs : List Call) → Sound (after (start k) cs)
every_call_sound k cs = sound_of (after (start k) cs) (every_call_core k cs)
