-- The calls of a store in memory: what a single edit and a script answer, and what every lent buffer holds after them.
-- Assumes nothing: these are definitions.
use Rattle.std.specs.Prelude.{◌≡◌, ◌≢◌, ◌⊎◌, List, [], ◌∷◌, ◌++◌, ℕ, zero, suc, ◌*◌, ◌/◌, ◌≤◌, ◌<◌, length, drop, replicate, Result, Ok, Err}
use Rattle.edit.specs.Record.{Edit, Cut, nothing, broken, whole, cut, Read, refused, asks, read}
use Rattle.edit.specs.Kinds.{code_of, number_of}
use Rattle.edit.specs.Answer.{Reply, refuse, Answer, numbers_of}
use Rattle.edit.specs.declared.Refusal.{Refusal}
use Rattle.rules.specs.Step.{obey}
use Rattle.rules.specs.Script.{run}
use Rattle.places.specs.Settled.{Settles}
use Rattle.context.specs.declared.Layout.{Layout}
use Rattle.context.specs.Memory.{part, state_of, SoundStore, layout_of}
use Rattle.context.specs.Performed.{abs, Performed}
use Rattle.script.specs.declared.Ran.{Ran}

-- the memory is a sound store with the capacities that its header names
abbrev pub SoundWords : List ℕ → Type 0
SoundWords m = SoundStore (layout_of m) m

-- the layout that an edit with a scratch of so many words is put with: 6 where the store is not sound, then 22 where the scratch is short
abbrev pub Readied : List ℕ → ℕ → Result Layout Refusal → Type 0
Readied m room (Ok l) = (l ≡ layout_of m) × SoundWords m × ((layout_of m).ops ≤ room)
Readied m room (Err e) = ((SoundWords m → ⊥) × (number_of e ≡ 6)) ⊎ (SoundWords m × (room < (layout_of m).ops) × (number_of e ≡ 22))

-- ---- a single edit

-- its bytes are one whole record and nothing after it; else 1
unfoldable pub single : Cut → Read
single nothing = refused 1
single broken = refused 1
single (whole kind fs []) = read kind fs
single (whole kind fs (x ∷ rest)) = refused 1

-- turned away with this refusal: the store is as it was
pub record Away (n : ℕ) (m m' : List ℕ) (r : Answer) : Type 0 where
  pub reply : numbers_of r ≡ refuse n
  pub kept : m' ≡ m

-- an edit that was read: 6 where the store is not sound, then 22 where the scratch has fewer words than the store has operation places, then as the rules have it
pub record Judged (e : Edit) (room : ℕ) (m m' : List ℕ) (r : Answer) : Type 0 where
  pub unsound : (SoundWords m → ⊥) → Away 6 m m' r
  pub short : SoundWords m → room < (layout_of m).ops → Away 22 m m' r
  pub done : SoundWords m → (layout_of m).ops ≤ room → Performed (layout_of m) e m m' r

-- the answer to what was read
abbrev pub Answered : Read → ℕ → List ℕ → List ℕ → Answer → Type 0
Answered (refused n) room m m' r = Away n m m' r
Answered (asks e) room m m' r = Judged e room m m' r

-- what was read of a record is answered; the scratch is as it was
pub record AnsweredWith (q : Read) (m m' s s' : List ℕ) (r : Answer) : Type 0 where
  pub answered : Answered q (length s) m m' r
  pub scratch : s' ≡ s

-- a single edit was put to the store m: m' is the store after it, r its answer; the scratch is all zeros
pub record Edited (bytes m m' scratch scratch' : List ℕ) (r : Answer) : Type 0 where
  pub answered : Answered (single (cut bytes)) (length scratch) m m' r
  pub zeros : scratch' ≡ replicate (length scratch) 0

-- ---- a script

-- the words of answers: three for each
unfoldable pub flat : List Reply → List ℕ
flat [] = []
flat (r ∷ rs) = r.refusal ∷ r.a ∷ r.b ∷ flat rs

-- no record is obeyed any more: no bytes, a broken record, no room for an answer
abbrev pub Over : Cut → ℕ → Type 0
Over nothing room = Unit {0}
Over broken room = Unit {0}
Over (whole kind fs rest) zero = Unit {0}
Over (whole kind fs rest) (suc room) = ⊥

-- what was read of a record took the words from m to m'
pub record Turned (l : Layout) (q : Read) (m m' : List ℕ) : Type 0 where
  pub sound : SoundStore l m'
  pub state : abs l m' ≡ (obey (abs l m) q).1
  pub places : Settles (state_of l m) (state_of l m')
  -- a refused record changes nothing
  pub kept : (obey (abs l m) q).0.refusal ≢ 0 → m' ≡ m

-- the records of the bytes, as far as there is room for their answers, took the words from m to m', one after another
pub data Course (l : Layout) : List ℕ → ℕ → List ℕ → List ℕ → Type 0 where
  over : {bytes m : List ℕ} {room : ℕ} → Over (cut bytes) room → Course l bytes room m m
  next : {bytes m m₁ m' : List ℕ} {room : ℕ} (kind : ℕ) (fs rest : List ℕ) → cut bytes ≡ whole kind fs rest → Turned l (read kind fs) m m₁ → Course l rest room m₁ m' → Course l bytes (suc room) m m'

-- a script that ended before its first record, with this number: nothing is written but the scratch
pub record Ended (n : ℕ) (m m' out out' : List ℕ) (r : Ran) : Type 0 where
  pub code : code_of r.end ≡ n
  pub count : r.count ≡ 0
  pub kept : m' ≡ m
  pub answers : out' ≡ out

-- a script that ran, as the rules have it, with room for as many answers as the words allow; what lies past the store, and the words past the answers, are as they were
pub record RanOn (l : Layout) (bytes m m' out out' : List ℕ) (r : Ran) : Type 0 where
  pub sound : SoundStore l m'
  pub state : abs l m' ≡ (run (length out / 3) (abs l m) bytes).state
  pub places : Course l bytes (length out / 3) m m'
  pub code : code_of r.end ≡ (run (length out / 3) (abs l m) bytes).code
  pub count : r.count ≡ length (run (length out / 3) (abs l m) bytes).answers
  pub answers : out' ≡ flat (run (length out / 3) (abs l m) bytes).answers ++ drop (3 * r.count) out
  pub rest : part l m' 14 ≡ part l m 14

-- a script was run on the store m: 6 where that is not sound, then 22 where the scratch is short, once, before the first record; then its records. The scratch is all zeros
pub record Scripted (bytes m m' scratch scratch' out out' : List ℕ) (r : Ran) : Type 0 where
  pub unsound : (SoundWords m → ⊥) → Ended 6 m m' out out' r
  pub short : SoundWords m → length scratch < (layout_of m).ops → Ended 22 m m' out out' r
  pub done : SoundWords m → (layout_of m).ops ≤ length scratch → RanOn (layout_of m) bytes m m' out out' r
  pub zeros : scratch' ≡ replicate (length scratch) 0
