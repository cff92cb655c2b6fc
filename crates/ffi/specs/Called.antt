-- What the exported functions answer, and what every lent buffer holds after them. Assumes nothing: these are definitions.
use Rattle.std.specs.Prelude.{◌≡◌, List, ◌++◌, ℕ, ◌/◌, ◌≤◌, ◌<◌, length, drop, replicate}
use Rattle.edit.specs.Record.{Definition}
use Rattle.edit.specs.Kinds.{code_of}
use Rattle.edit.specs.Answer.{Answer, Put, numbers_of}
use Rattle.rules.specs.Listing.{edit_lines, listing}
use Rattle.context.specs.declared.Layout.{Layout}
use Rattle.context.specs.Layout.{total, Caps}
use Rattle.context.specs.Memory.{layout_of}
use Rattle.context.specs.Performed.{abs}
use Rattle.script.specs.Calls.{SoundWords, Edited, Scripted}
use Rattle.script.specs.declared.Ran.{Ran}
use Rattle.listing.specs.Writer.{Written}
use Rattle.listing.specs.Lines.{replies_from}
use Rattle.readers.specs.UsesOf.{use_refusal_of, handed}

-- capacities given one by one
abbrev pub layout_by : ℕ → ℕ → ℕ → ℕ → ℕ → Layout
layout_by o b r v u = record { ops = o; blocks = b; regions = r; values = v; uses = u }

-- r is how many words a store needs: 0 where no store has these capacities
pub record WordsCalled (l : Layout) (r : ℕ) : Type 0 where
  pub is : Caps l → r ≡ total l
  pub none : (Caps l → ⊥) → r ≡ 0

-- an answer was told: its refusal is returned, and its three numbers stand in front of out'; for 6 no answer is written
pub record ToldAnswer (a : Answer) (out out' : List ℕ) (r : ℕ) : Type 0 where
  pub code : r ≡ code_of a
  pub kept : r ≡ 6 → out' ≡ out
  pub put : (r ≡ 6 → ⊥) → Put out out' 0 (numbers_of a)

-- an edit was put to the store, and its answer told
pub record EditDone (bytes m m' s s' out out' : List ℕ) (r : ℕ) : Type 0 where
  pub answer : Answer
  pub edited : Edited bytes m m' s s' answer
  pub told : ToldAnswer answer out out' r

-- 22 where the answer has no room, and then nothing is looked at: store and answer are kept, and the scratch is all zeros
pub record EditCalled (bytes m m' s s' out out' : List ℕ) (r : ℕ) : Type 0 where
  pub short : length out < 3 → (r ≡ 22) × (m' ≡ m) × (s' ≡ replicate (length s) 0) × (out' ≡ out)
  pub done : 3 ≤ length out → EditDone bytes m m' s s' out out' r

-- a script was put to the store: r is the number that stopped it, or 0, and n how many answers it wrote
pub record ScriptCalled (bytes m m' s s' out out' : List ℕ) (n r : ℕ) : Type 0 where
  pub ran : Ran
  pub scripted : Scripted bytes m m' s s' out out' ran
  pub code : r ≡ code_of ran.end
  pub count : n ≡ ran.count

-- how many answers a listing may have: their numbers are 32-bit ones. More would fill over 51 gigabytes, which in practice nobody lends
abbrev pub most_answers : ℕ
most_answers = 4294967295

-- a listing was asked for: r is the refusal or 0, n the position where the writing ended. 6 where the store is not sound, then 22 where the answers are too many: out is kept.
-- Else the answers' lines and the store's are written from the first byte on, as far as there is room
pub record Listed (m answers out out' : List ℕ) (n r : ℕ) : Type 0 where
  pub unsound : (SoundWords m → ⊥) → (r ≡ 6) × (n ≡ 0) × (out' ≡ out)
  pub many : SoundWords m → most_answers < length answers / 3 → (r ≡ 22) × (n ≡ 0) × (out' ≡ out)
  pub code : SoundWords m → length answers / 3 ≤ most_answers → r ≡ 0
  pub text : SoundWords m → length answers / 3 ≤ most_answers → Written (edit_lines 0 (replies_from answers 0 (length answers / 3)) ++ listing (abs (layout_of m) m)) out 0 out' n

-- the uses of a definition were asked for: r is the refusal or 0, n their count; they stand in front of out', whose rest is kept
pub record UsesCalled (m : List ℕ) (d : Definition) (out out' : List ℕ) (n r : ℕ) : Type 0 where
  pub unsound : (SoundWords m → ⊥) → (r ≡ 6) × (n ≡ 0) × (out' ≡ out)
  pub refusal : SoundWords m → r ≡ use_refusal_of (abs (layout_of m) m) d (length out)
  pub count : SoundWords m → n ≡ length (handed (abs (layout_of m) m) d (length out))
  pub buffer : SoundWords m → out' ≡ handed (abs (layout_of m) m) d (length out) ++ drop (length (handed (abs (layout_of m) m) d (length out))) out
