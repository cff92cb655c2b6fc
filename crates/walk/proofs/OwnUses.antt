-- The uses of one operation end: its operands, then its successors. Assumes nothing.
use mathlib.Core.Path.{◌≡◌, refl, ap, ap₂, ◌∙◌}
use mathlib.Core.Logic.{by_cases}
use mathlib.Core.List.{List}
use mathlib.Core.Option.{Option, none, some}
use native.Mathlib.Omega.{arith}
use Prim.Native.Nat.{ℕ, ◌+◌, ◌-◌, ◌≤◌}
use lib.ListN.{length}
use Rattle.seqs.specs.Seqs.{In}
use Rattle.places.specs.Store.{Kind-dec, op, operands, successors, Limited, slots, Thing, Thing-dec, Con, State, Live, outer}
use Rattle.places.specs.Walk.{place_cut_by, cut_all, among, place_uses_at}
use Rattle.seqs.proofs.Base.{tick_yes, tick_no, count_append}
use Rattle.places.proofs.Cut.{sift_all, cut_append}
use Rattle.places.proofs.Nest.{up_to}
use Rattle.places.proofs.DropAll.{uses_at}
use Rattle.places.proofs.DropTurn.{length_append}
use Rattle.context.specs.declared.Layout.{Layout}
use Rattle.context.specs.Memory.{ListIs, state_of, SoundStore}
use Rattle.context.specs.Steps.{DroppedAll}
use Rattle.walk.specs.declared.Tally.{Tally}
use Rattle.walk.specs.Drop.{Walked, walked, CanDrop, CanOwn, OwnTallied}
use Rattle.walk.proofs.DropWalk.{OwnDropped}
use Rattle.walk.proofs.Nested.{operations_eq}

module _ {l : Layout} {m : List ℕ} (o : ℕ) (S : SoundStore l m) (v : Live (state_of l m) (op, o)) where
  abbrev P : State
  P = state_of l m

  -- an operation has at most 64 operands and 64 successors
  pub few_uses : length (place_uses_at P (op, o)) ≤ 128
  few_uses =
      omega (
        arith,
        length_append (P.list (op, o) operands) (P.list (op, o) successors),
        S.sound.linked.short (op, o) operands Limited.of_operands,
        S.sound.linked.short (op, o) successors Limited.of_successors,
      )

  module _ {m₁ : List ℕ} {j a : ℕ} (J : ListIs l slots (operands, (op, o)) j) (D : DroppedAll l j m m₁ a) where
    state₁ : state_of l m₁ ≡ cut_all (P.list (op, o) operands) P
    state₁ = D.state ∙ ap (λ (c : Con). cut_all (P.list c.1 c.0) P) J.row

    a_is : a ≡ length (P.list (op, o) operands)
    a_is = D.counted ∙ ap (λ (c : Con). length (P.list c.1 c.0)) J.row

    -- no use stands in both
    apart : (u : Thing) → In Thing-dec u (P.list (op, o) successors) → among (P.list (op, o) operands) u ≡ 0
    apart u i = omega (arith, i, uses_at S.sound.linked u (op, o), count_append Thing-dec u (P.list (op, o) operands) (P.list (op, o) successors), bound (outer (P.own u slots)))
      where
        bound : (q : Option Thing) → up_to q (op, o) ≤ 1
        bound none = omega arith
        bound (some z) = by_cases (Thing-dec z (op, o)) (λ e. omega (arith, tick_yes (Thing-dec z (op, o)) e)) (λ n. omega (arith, tick_no (Thing-dec z (op, o)) n))

    seconds : (state_of l m₁).list (op, o) successors ≡ P.list (op, o) successors
    unfolding place_cut_by
    seconds = ap (λ (Q : State). Q.list (op, o) successors) state₁ ∙ sift_all Thing-dec (among (P.list (op, o) operands)) (P.list (op, o) successors) apart

    module _ {m₂ : List ℕ} {k b : ℕ} (K : ListIs l slots (successors, (op, o)) k) (E : DroppedAll l k m₁ m₂ b) where
      b_is : b ≡ length (P.list (op, o) successors)
      b_is = E.counted ∙ ap (λ (c : Con). length ((state_of l m₁).list c.1 c.0)) K.row ∙ ap length seconds

      state₂ : state_of l m₂ ≡ cut_all (place_uses_at P (op, o)) P
      state₂ =
          E.state
          ∙ ap (λ (c : Con). cut_all ((state_of l m₁).list c.1 c.0) (state_of l m₁)) K.row
          ∙ ap₂ {C = State} (λ (u : List Thing) (Q : State). cut_all u Q) seconds state₁
          ∙ cut_append (P.list (op, o) operands) (P.list (op, o) successors) P

      all : a + b ≡ length (place_uses_at P (op, o))
      all = omega (arith, a_is, b_is, length_append (P.list (op, o) operands) (P.list (op, o) successors))

      pub few_both : a + b ≤ 128
      few_both = omega (arith, all, few_uses)

      pub own_tallied : (t : Tally) → OwnTallied l o t m m₂ (record { freed = t.freed + 1; ended = t.ended + (a + b) })
      own_tallied t =
          record {
            store = E.sound;
            rest = E.rest ∙ D.rest;
            state = state₂;
            freed = omega arith;
            ended = omega (arith, all);
          }

-- ---- one operation of a walk

pub one_left : {l : Layout} {m : List ℕ} {w : Walked} (o : ℕ) → CanDrop l (op, o) w m → 1 ≤ w.left
one_left o C = omega (arith, C.enough, operations_eq C.store.sound.linked (op, o), tick_yes (Kind-dec op op) refl)

pub may_own : {l : Layout} {m : List ℕ} {t : Tally} (o left : ℕ) → CanDrop l (op, o) (walked left t) m → CanOwn l o t m
may_own o left C = record { store = C.store; live = C.live; few = omega (arith, C.few, one_left o C); uses = omega (arith, C.uses, one_left o C) }

-- one operation fewer is left
pub own_dropped : {l : Layout} {m m' : List ℕ} {t r : Tally} (o left : ℕ) → CanDrop l (op, o) (walked left t) m → OwnTallied l o t m m' r → OwnDropped l (op, o) (walked left t) m m' (walked (left - 1) r)
own_dropped o left C O =
    record {
      store = O.store;
      rest = O.rest;
      state = O.state;
      numbers =
          record {
            left = omega (arith, one_left o C);
            freed = O.freed;
            ended = O.ended;
            small = omega (arith, O.ended, few_uses o C.store C.live, one_left o C);
          };
    }
