-- What falls along a walk over the nest: thrice the operations inside, and what stands between. Assumes nothing.
use mathlib.Core.Path.{◌≡◌, ap}
use mathlib.Core.Option.{Option, none, some}
use native.Mathlib.Omega.{arith}
use Prim.Native.Nat.{ℕ, ◌+◌, ◌<◌, ◌≤◌}
use lib.ListN.{length}
use Rattle.seqs.specs.Seqs.{tick, In}
use Rattle.places.specs.Store.{Kind, Kind-dec, op, blk, reg, val, usg, Thing, Thing-dec, State, Linked, up}
use Rattle.places.specs.Walk.{kids, walk}
use Rattle.seqs.proofs.Base.{tick_yes, tick_pos}
use Rattle.places.proofs.Fuel.{around}
use Rattle.places.proofs.Climb.{ops_among}
use Rattle.places.proofs.Nest.{kind_code, up_to, kids_up}
use Rattle.places.proofs.DropTurn.{ops_eq}
use Rattle.places.proofs.Outside.{part_sum}
use Rattle.places.proofs.RuleClimb.{up_kind}
use Rattle.places.proofs.Erase.{kid_kind}

unfoldable pub rank : Kind → ℕ
rank = elim [ op ↦ 0 | blk ↦ 1 | reg ↦ 2 | val ↦ 0 | usg ↦ 0 ]

abbrev pub size : State → Thing → ℕ
size P x = length (ops_among (walk P x))

abbrev pub measure : State → Thing → ℕ
measure P x = size P x + size P x + size P x + rank x.0

module _ {P : State} (S : Linked P) where
  up_kid : (x k : Thing) → In Thing-dec k (kids P x) → up P k ≡ some x
  up_kid x k i = go (up P k) (omega (arith, i, kids_up S x k))
    where
      go : (o : Option Thing) → 0 < up_to o x → o ≡ some x
      go none h = absurd (omega arith)
      go (some z) h = ap some (tick_pos (Thing-dec z x) h)

  -- it falls from a thing to each of its children
  pub falls : (x k : Thing) → In Thing-dec k (kids P x) → measure P k < measure P x
  unfolding rank around kind_code
  falls x k i = by_kind k (kid_kind S x k i) (up_kind S k x (up_kid x k i)) (omega (arith, ops_eq S x, part_sum Thing-dec (size P) (kids P x) k i))
    where
      by_kind : (k : Thing) → kind_code k.0 ≤ 2 → x.0 ≡ around k.0 → tick (Kind-dec x.0 op) + size P k ≤ size P x → measure P k < measure P x
      by_kind (op, p) h e l = omega (arith, l, ap rank e)
      by_kind (blk, p) h e l = omega (arith, l, ap rank e)
      by_kind (reg, p) h e l = omega (arith, l, ap rank e, tick_yes (Kind-dec x.0 op) e)
      by_kind (val, p) h e l = absurd (omega (arith, h))
      by_kind (usg, p) h e l = absurd (omega (arith, h))
