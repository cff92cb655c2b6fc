-- What a reader of uses is told: the refusal, or the numbers of the uses, rising, in front of what the buffer held.
-- Assumes nothing: these are definitions.
use Rattle.std.specs.Prelude.{◌≡◌, cond, List, [], ◌++◌, ℕ, ◌≤◌, eqb, leb, length, drop, Result, Ok, Err}
use Rattle.std.specs.Borrow.{MutBor}
use Rattle.places.specs.Alias.{RState}
use Rattle.edit.specs.Record as edit
use Rattle.edit.specs.Record.{of_value, of_block}
use Rattle.edit.specs.declared.Refusal.{Refusal}
use Rattle.edit.specs.declared.Refusal.TheVariants.{Unsound}
use Rattle.edit.specs.Kinds.{code_of}
use Rattle.rules.specs.History.{live_definition, uses_of}
use Rattle.context.specs.Memory.{layout_of, SoundStore}
use Rattle.context.specs.Performed.{abs}
use Rattle.readers.specs.declared.Definition.{Definition}
use Rattle.readers.specs.declared.Definition.TheVariants.{Value, Block}

-- the definition that a reader names
abbrev pub definition_by : Definition → edit.Definition
definition_by (Value n) = of_value n
definition_by (Block n) = of_block n

-- the refusal where no such definition lives
abbrev pub missing : edit.Definition → ℕ
missing (of_value n) = 10
missing (of_block n) = 8

-- the refusal, of a sound store: first 10 or 8, then 22 where the buffer is too short; 0 where there is none
unfoldable pub use_refusal_of : RState → edit.Definition → ℕ → ℕ
use_refusal_of s d room = cond (live_definition s.history d) (cond (leb (length (uses_of s.history d)) room) 0 22) (missing d)

-- the numbers handed back: none where refused
unfoldable pub handed : RState → edit.Definition → ℕ → List ℕ
handed s d room = cond (eqb (use_refusal_of s d room) 0) (uses_of s.history d) []

-- how many uses an answer counts
abbrev pub count_in : Result ℕ Refusal → ℕ
count_in (Ok k) = k
count_in (Err r) = 0

-- the reader of a sound store was told r; its buffer was out and is out': the uses come first, and the rest is kept
pub record Told (s : RState) (d : edit.Definition) (out out' : List ℕ) (r : Result ℕ Refusal) : Type 0 where
  pub refusal : code_of r ≡ use_refusal_of s d (length out)
  pub count : count_in r ≡ length (handed s d (length out))
  pub buffer : out' ≡ handed s d (length out) ++ drop (length (handed s d (length out))) out

-- a reader of a memory of any contents was told r: 6 where it is not a sound store, and then the buffer is kept
pub record ToldOf (m : List ℕ) (d : edit.Definition) (out out' : List ℕ) (r : Result ℕ Refusal) : Type 0 where
  pub fits : count_in r ≤ length out
  pub unsound : (SoundStore (layout_of m) m → ⊥) → (r ≡ Err Unsound) × (out' ≡ out)
  pub sound : SoundStore (layout_of m) m → Told (abs (layout_of m) m) d out out' r

-- the part of the buffer that was handed back: none with a refusal
abbrev pub part_in : Result (MutBor (List ℕ)) Refusal → List ℕ
part_in (Ok part) = part.now
part_in (Err r) = []

-- the front part of the buffer was handed back, or the refusal
pub record Fronted (m : List ℕ) (d : edit.Definition) (out : List ℕ) (r : Result (MutBor (List ℕ)) Refusal) : Type 0 where
  pub unsound : (SoundStore (layout_of m) m → ⊥) → r ≡ Err Unsound
  pub sound : SoundStore (layout_of m) m → (part_in r ≡ handed (abs (layout_of m) m) d (length out)) × (code_of r ≡ use_refusal_of (abs (layout_of m) m) d (length out))
