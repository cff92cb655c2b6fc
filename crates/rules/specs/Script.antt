-- A script: records one after another, each answered, up to the end, a broken record (1) or an answer that has no room (22).
-- Assumes nothing: these are definitions.
use Rattle.std.specs.Prelude.{List, [], ◌∷◌, ℕ, zero, suc, length}
use Rattle.edit.specs.Record.{Cut, nothing, broken, whole, cut, read}
use Rattle.rules.specs.State.{State}
use Rattle.edit.specs.Answer.{Reply, refuse}
use Rattle.rules.specs.Step.{obey}

-- 0, or the 22 that ended the script; its answers; and the state it leaves
pub record Ran : Type 0 where
  pub code : ℕ
  pub answers : List Reply
  pub state : State

-- a script that ends here
unfoldable pub ended_with : ℕ → List Reply → State → Ran
ended_with n rs s = record { code = n; answers = rs; state = s }

-- one more answer in front
unfoldable pub after_reply : Reply → Ran → Ran
after_reply r x = record { code = x.code; answers = r ∷ x.answers; state = x.state }

-- one record, where on goes on with what is left of the room, the state and the bytes. No bytes: the end. No room: 22, before the record is
-- looked at. A broken record: 1, the last answer, and the script returns 0
unfoldable pub turn : (ℕ → State → List ℕ → Ran) → State → Cut → ℕ → Ran
turn on s nothing room = ended_with 0 [] s
turn on s broken zero = ended_with 22 [] s
turn on s broken (suc room) = ended_with 0 (refuse 1 ∷ []) s
turn on s (whole kind fs rest) zero = ended_with 22 [] s
turn on s (whole kind fs rest) (suc room) = let r : Reply × State = obey s (read kind fs) in after_reply r.0 (on room r.1 rest)

-- fuel is more than the number of records
unfoldable pub run_by : ℕ → ℕ → State → List ℕ → Ran
run_by zero room s bytes = ended_with 0 [] s
run_by (suc fuel) room s bytes = turn (run_by fuel) s (cut bytes) room

-- a script; room is how many answers fit
unfoldable pub run : ℕ → State → List ℕ → Ran
run room s bytes = run_by (suc (length bytes)) room s bytes
