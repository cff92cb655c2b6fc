-- 12, 19, and then whether there is room. Assumes nothing.
use Rattle.std.proofs.Common.{refl, ap, ◌∙◌, List, ℕ, ◌≤◌, ◌<◌, Result, Err, arith}
use borrow.Author.Tests.{lt-ltb, le-ltb, le-leb, lt-leb}
use Rattle.edit.specs.declared.Refusal.{Refusal}
use Rattle.edit.specs.declared.Refusal.TheVariants.{NoIndex, ListFull}
use Rattle.edit.specs.Kinds.{code_of}
use Rattle.rules.specs.Refusal.{check}
use Rattle.places.specs.Store.{Kind}
use Rattle.context.specs.declared.Layout.{Layout}
use Rattle.context.specs.Memory.{RoomIs, GrowIs}
use Rattle.context.proofs.may_grow.Goals as goal

module _ {l : Layout} {m : List ℕ} {k : Kind} {n i : ℕ} where
  past_end : n < i → GrowIs l k n i m (Err NoIndex)
  unfolding check
  past_end h = record { is = rw (lt-ltb n i h) refl; short = λ z. absurd (omega (arith, ap code_of z)); room = λ z. absurd (omega (arith, ap code_of z)) }

  full : i ≤ n → 64 ≤ n → GrowIs l k n i m (Err ListFull)
  unfolding check
  full g h = record { is = rw (le-ltb n i g, le-leb 64 n h) refl; short = λ z. absurd (omega (arith, ap code_of z)); room = λ z. absurd (omega (arith, ap code_of z)) }

  grows : i ≤ n → n < 64 → {r : Result (Unit {0}) Refusal} → RoomIs l k m r → GrowIs l k n i m r
  unfolding check
  grows g h R = record { is = R.is ∙ rw (le-ltb n i g, lt-leb 64 n h); short = λ z. h; room = R.some }

pub returns-then-n-i : goal.returns-then-n-i
returns-then-n-i c = past_end c.if-n-i.true

pub returns-then-n-ge-MOST_LISTED : goal.returns-then-n-ge-MOST_LISTED
returns-then-n-ge-MOST_LISTED c = full c.if-n-i.false c.if-n-ge-MOST_LISTED.true

pub returns : goal.returns
returns c = grows c.if-n-i.false (omega (arith, c.if-n-ge-MOST_LISTED.false)) c.room_for.ensures
