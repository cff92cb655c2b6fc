-- The program's store: its capacities, and how it begins. Assumes nothing: these are definitions.
use Rattle.std.specs.Prelude.{◌≡◌, List, ℕ}
use Rattle.rules.specs.State.{start}
use Rattle.rules.specs.Listing.{program_capacities}
use Rattle.context.specs.declared.Layout.{Layout}
use Rattle.context.specs.Memory.{SoundStore}
use Rattle.context.specs.Performed.{abs}

-- the capacities in places
abbrev pub capacities : Layout
capacities = record { ops = 128; blocks = 64; regions = 64; values = 256; uses = 512 }

-- the store m is empty, with the program's capacities
pub record Begun (l : Layout) (m : List ℕ) : Type 0 where
  pub places : l ≡ capacities
  pub sound : SoundStore l m
  pub state : abs l m ≡ start program_capacities
