-- The uses of a block at operations of listed blocks move to another block: the listed blocks are marked, and then the uses are passed once.
-- Assumes nothing: these are definitions.
use Rattle.std.specs.Prelude.{◌≡◌, Bool, true, false, ◌||◌, List, ℕ, eqb, get_or}
use Rattle.std.specs.Prelude as Rust
use Rattle.std.specs.Prelude.{Some, None}
use Rattle.edit.specs.Record.{successor, retarget_some}
use Rattle.rules.specs.Table.{member}
use Rattle.rules.specs.State.{accept}
use Rattle.places.specs.Store.{Kind, blk, Live}
use Rattle.places.specs.View.{num}
use Rattle.places.specs.Hist.{meaning}
use Rattle.context.specs.declared.Layout.{Layout}
use Rattle.context.specs.Memory.{part, state_of, SoundStore}
use Rattle.context.specs.Reading.{BlockOf}
use Rattle.context.specs.Steps.{Moved}
use Rattle.uses.specs.Look.{DefAt}

-- is the block at the place b marked?
abbrev pub marked : List Bool → ℕ → Bool
marked w b = get_or w b false

-- the block with the number x was marked
pub record MarkedOne (l : Layout) (x : ℕ) (m : List ℕ) (w w' : List Bool) : Type 0 where
  pub is : (b : ℕ) → Live (state_of l m) (blk, b) → marked w' b ≡ (marked w b || eqb x (num (state_of l m) (blk, b)))

-- those with a listed number are marked
pub record Marks (l : Layout) (ps m : List ℕ) (w : List Bool) : Type 0 where
  pub is : (b : ℕ) → Live (state_of l m) (blk, b) → marked w b ≡ member (num (state_of l m) (blk, b)) ps

-- a marked block?
abbrev pub marked_by : List Bool → Rust.Option ℕ → Bool
marked_by w None = false
marked_by w (Some b) = marked w b

-- does the use stand at an operation of a marked block?
pub record Chosen (l : Layout) (u : ℕ) (w : List Bool) (m : List ℕ) (r : Bool) : Type 0 where
  pub block : Rust.Option ℕ
  pub at : BlockOf l u m block
  pub is : r ≡ marked_by w block

-- the use at the place u moved to the set e, if it is at an operation of a marked block
pub data RetargetedOne (l : Layout) (e u : ℕ) (w : List Bool) (m : List ℕ) : List ℕ → Type 0 where
  moved : {m' : List ℕ} → Chosen l u w m true → Moved l u e m m' → RetargetedOne l e u w m m'
  stayed : Chosen l u w m false → RetargetedOne l e u w m m

-- all of the set d
pub record RetargetedAll (l : Layout) (d e : ℕ) (ps m m' : List ℕ) : Type 0 where
  pub sound : SoundStore l m'
  pub rest : part l m' 14 ≡ part l m 14
  pub tables : (k : Kind) → (state_of l m').tab k ≡ (state_of l m).tab k
  pub state : (a b : ℕ) → DefAt l m successor a d → DefAt l m successor b e → meaning (state_of l m') ≡ accept (retarget_some a b ps) (meaning (state_of l m))
