-- Calls of a store, single edits and scripts, and lists of them.
-- Assumes nothing: these are definitions.
use Rattle.std.specs.Prelude.{List, [], ◌∷◌, ℕ}
use Rattle.rules.specs.State.{State}
use Rattle.edit.specs.Answer.{Reply}
use Rattle.rules.specs.Step.{step}
use Rattle.rules.specs.Script.{run}

-- a call of a store: a single edit, or a script with room for so many answers
pub data Call : Type 0 where
  single : List ℕ → Call
  script : (room : ℕ) → List ℕ → Call

-- the bytes of a call
unfoldable pub bytes_of : Call → List ℕ
bytes_of (single bytes) = bytes
bytes_of (script room bytes) = bytes

-- the state that a call leaves
unfoldable pub left_by : State → Call → State
left_by s (single bytes) = (step s bytes).1
left_by s (script room bytes) = (run room s bytes).state

-- its answers, in order
unfoldable pub answers_to : State → Call → List Reply
answers_to s (single bytes) = (step s bytes).0 ∷ []
answers_to s (script room bytes) = (run room s bytes).answers

-- a list of calls, each given the store as the last one left it
unfoldable pub after : State → List Call → State
after s [] = s
after s (c ∷ cs) = after (left_by s c) cs

-- the answers of a list of calls, call by call
unfoldable pub all_answers : State → List Call → List (List Reply)
all_answers s [] = []
all_answers s (c ∷ cs) = answers_to s c ∷ all_answers (left_by s c) cs
