-- Dropping: what the three functions over the nest ask, and what they make of the store and of the numbers that they carry.
-- Assumes nothing: these are definitions.
use Rattle.std.specs.Prelude.{◌≡◌, List, ℕ, ◌+◌, ◌*◌, ◌≤◌, ◌<◌, length}
use Rattle.seqs.specs.Seqs.{tick, sum}
use Rattle.places.specs.Store.{Kind-dec, op, Thing, State, Live}
use Rattle.places.specs.Walk.{cut_all, walk, place_uses_at, drop_list, dropped}
use Rattle.context.specs.declared.Layout.{Layout}
use Rattle.context.specs.Memory.{part, state_of, SoundStore}
use Rattle.walk.specs.declared.Tally.{Tally}

-- what a walk carries along: the operations not yet reached, those reached, and the uses ended
pub record Walked : Type 0 where
  pub left : ℕ
  pub freed : ℕ
  pub ended : ℕ

-- the number that is carried by value, and the tally that is lent
abbrev pub walked : ℕ → Tally → Walked
walked n t = record { left = n; freed = t.freed; ended = t.ended }

-- the operations in a thing, itself included
unfoldable pub operations : State → Thing → ℕ
operations P x = sum (λ y. tick (Kind-dec y.0 op)) (walk P x)

-- x can be dropped: no more operations are in it than are not yet reached, and the numbers stay small (an operation has at most 128 uses)
pub record CanDrop (l : Layout) (x : Thing) (w : Walked) (m : List ℕ) : Type 0 where
  pub store : SoundStore l m
  pub live : Live (state_of l m) x
  pub enough : operations (state_of l m) x ≤ w.left
  pub few : w.left + w.freed ≤ 4096
  pub uses : w.ended + 128 * w.left ≤ 600000

-- the numbers after a walk that reached n operations and ended e uses
pub record Counted (w : Walked) (n e : ℕ) (r : Walked) : Type 0 where
  pub left : r.left + n ≡ w.left
  pub freed : r.freed ≡ w.freed + n
  pub ended : r.ended ≡ w.ended + e
  pub small : r.ended + 128 * r.left ≤ w.ended + 128 * w.left

-- all uses inside x ended
pub record Dropped (l : Layout) (x : Thing) (w : Walked) (m m' : List ℕ) (r : Walked) : Type 0 where
  pub store : SoundStore l m'
  pub rest : part l m' 14 ≡ part l m 14
  pub state : state_of l m' ≡ dropped (state_of l m) x
  pub numbers : Counted w (operations (state_of l m) x) (length (drop_list (state_of l m) x)) r

-- ---- the tally

abbrev pub zeros : Tally
zeros = record { freed = 0; ended = 0 }

-- the operation's own uses can be dropped, and the tally has room for them
pub record CanOwn (l : Layout) (o : ℕ) (t : Tally) (m : List ℕ) : Type 0 where
  pub store : SoundStore l m
  pub live : Live (state_of l m) (op, o)
  pub few : t.freed < 4096
  pub uses : t.ended + 128 ≤ 600000

-- the uses of the operation itself ended, and the tally rose by it and by them
pub record OwnTallied (l : Layout) (o : ℕ) (t : Tally) (m m' : List ℕ) (r : Tally) : Type 0 where
  pub store : SoundStore l m'
  pub rest : part l m' 14 ≡ part l m 14
  pub state : state_of l m' ≡ cut_all (place_uses_at (state_of l m) (op, o)) (state_of l m)
  pub freed : r.freed ≡ t.freed + 1
  pub ended : r.ended ≡ t.ended + length (place_uses_at (state_of l m) (op, o))

-- all uses inside x ended, and the tally says how many operations are in x and how many uses ended
pub record Tallied (l : Layout) (x : Thing) (m m' : List ℕ) (r : Tally) : Type 0 where
  pub store : SoundStore l m'
  pub rest : part l m' 14 ≡ part l m 14
  pub state : state_of l m' ≡ dropped (state_of l m) x
  pub freed : r.freed ≡ operations (state_of l m) x
  pub ended : r.ended ≡ length (drop_list (state_of l m) x)
