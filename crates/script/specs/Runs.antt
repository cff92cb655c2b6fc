-- A list of calls of a store in memory, from the contracts of start, of a single edit and of a script alone.
-- Assumes nothing: these are definitions.
use Rattle.std.specs.Prelude.{◌≡◌, List, [], ◌∷◌, ℕ, zero, suc, ◌/◌, length, drop}
use Rattle.edit.specs.Kinds.{code_of}
use Rattle.edit.specs.Answer.{Reply, Answer, numbers_of, reply_at}
use Rattle.rules.specs.History.{Five}
use Rattle.rules.specs.Calls.{Call}
use Rattle.places.specs.Alias.{RState}
use Rattle.rules.specs.Refine as Refine
use Rattle.context.specs.declared.Layout.{Layout}
use Rattle.context.specs.Memory.{layout_of}
use Rattle.context.specs.Performed.{abs}
use Rattle.context.specs.Start.{five_of, StartBy}
use Rattle.script.specs.declared.Ran.{Ran}
use Rattle.script.specs.Calls.{SoundWords, Edited, Scripted}
use Rattle.script.specs.See.{see}

-- the first n answers in a list of words
unfoldable pub replies_in : ℕ → List ℕ → List Reply
replies_in zero out = []
replies_in (suc n) out = reply_at out 0 ∷ replies_in n (drop 3 out)

-- the state of the rules that the memory stands for
unfoldable pub rules_state_of : List ℕ → RState
rules_state_of m = abs (layout_of m) m

-- start was called with the capacities k and some memory, and accepted: m is what it left
pub record Started (k : Five) (m : List ℕ) : Type 0 where
  pub capacities : Layout
  pub memory : List ℕ
  pub same : five_of capacities ≡ k
  pub accepted : StartBy capacities memory m 0

-- a single edit was called on the memory m, with some scratch: r is its answer, n the memory after it
pub record EditCall (m bytes : List ℕ) (r : Reply) (n : List ℕ) : Type 0 where
  pub scratch : List ℕ
  pub scratch_after : List ℕ
  pub answer : Answer
  pub called : Edited bytes m n scratch scratch_after answer
  pub same : r ≡ numbers_of answer

-- a script was called on the memory m, with some scratch and some words for its answers, room for so many: it returned the code, rs are the answers
-- that it counts, as they stand in the words after it, and n is the memory after it
pub record ScriptCall (m : List ℕ) (room : ℕ) (bytes : List ℕ) (code : ℕ) (rs : List Reply) (n : List ℕ) : Type 0 where
  pub scratch : List ℕ
  pub scratch_after : List ℕ
  pub out : List ℕ
  pub out_after : List ℕ
  pub ran : Ran
  pub called : Scripted bytes m n scratch scratch_after out out_after ran
  pub room_is : room ≡ length out / 3
  pub code_is : code ≡ code_of ran.end
  pub answers_are : rs ≡ replies_in ran.count out_after

-- a list of calls from the memory m on, each given the memory as the last one left it: their answers, and the memory after them
abbrev pub Runs : List ℕ → List Call → List (List Reply) → List ℕ → Type 0
Runs = Refine.Runs (List ℕ) SoundWords rules_state_of see Started EditCall ScriptCall
