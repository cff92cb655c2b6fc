-- How a store in memory meets the rules: what the contracts of start, of a single edit and of a script have to ensure so that demand 3 holds of
-- the memory M (the words of the lent buffer). Assumes nothing: these are definitions.
use Rattle.std.specs.Prelude.{◌≡◌, ◌⊎◌, List, [], ◌∷◌, ℕ}
use Rattle.rules.specs.History.{Five}
use Rattle.rules.specs.State.{State, start}
use Rattle.edit.specs.Answer.{Reply, refuse}
use Rattle.rules.specs.Step.{step}
use Rattle.rules.specs.Script.{run}
use Rattle.rules.specs.Calls.{Call, single, script}
use Rattle.rules.specs.Demand.{View, view}
use Rattle.rules.specs.Alike.{Alike}
use Rattle.rules.specs.Sound.{Sound}

-- a single edit as the rules have it
pub record AsStep (s : State) (bytes : List ℕ) (r : Reply) (t : State) : Type 0 where
  pub reply : r ≡ (step s bytes).0
  pub state : t ≡ (step s bytes).1

-- or turned away before it is looked at: 22, the scratch is too short, and nothing has changed
pub record EditAway (s : State) (r : Reply) (t : State) : Type 0 where
  pub reply : r ≡ refuse 22
  pub state : t ≡ s

-- a script as the rules have it
pub record AsRun (s : State) (room : ℕ) (bytes : List ℕ) (code : ℕ) (rs : List Reply) (t : State) : Type 0 where
  pub code_same : code ≡ (run room s bytes).code
  pub answers : rs ≡ (run room s bytes).answers
  pub state : t ≡ (run room s bytes).state

-- or turned away before its first record, likewise
pub record ScriptAway (s : State) (code : ℕ) (rs : List Reply) (t : State) : Type 0 where
  pub code_same : code ≡ 22
  pub answers : rs ≡ []
  pub state : t ≡ s

module _
    (M : Type 0)
    -- does the memory stand for a state, and for which? (lengths, links, maps and chains as the layout has them); what the readers show of it
    (Good : M → Type 0) (abs : M → State) (see : M → View)
    -- what the three functions ensure: of capacities and the memory; of memory, bytes, answer and memory; of memory, room, bytes, code,
    -- answers and memory
    (Started : Five → M → Type 0)
    (Edited : M → List ℕ → Reply → M → Type 0)
    (Scripted : M → ℕ → List ℕ → ℕ → List Reply → M → Type 0) where
  -- a memory is sound if it is good and its state is sound. That a sound state stays sound is nobody's duty here: it follows from the rules
  pub record Refines : Type 0 where
    pub starts : (k : Five) (m : M) → Started k m → Good m × (abs m ≡ start k)
    pub edits : (m : M) (bytes : List ℕ) (r : Reply) (n : M) → Good m → Sound (abs m) → Edited m bytes r n → Good n × (AsStep (abs m) bytes r (abs n) ⊎ EditAway (abs m) r (abs n))
    pub scripts : (m : M) (room : ℕ) (bytes : List ℕ) (code : ℕ) (rs : List Reply) (n : M) → Good m → Sound (abs m) → Scripted m room bytes code rs n → Good n × (AsRun (abs m) room bytes code rs (abs n) ⊎ ScriptAway (abs m) code rs (abs n))
    pub seen : (m : M) → Good m → Sound (abs m) → Alike (see m) (view (abs m))

  -- a list of calls, each given the memory as the last one left it
  pub data Runs : M → List Call → List (List Reply) → M → Type 0 where
    done : {m : M} → Runs m [] [] m
    edit_then : {m n o : M} {bytes : List ℕ} {r : Reply} {cs : List Call} {rss : List (List Reply)} → Edited m bytes r n → Runs n cs rss o → Runs m (single bytes ∷ cs) ((r ∷ []) ∷ rss) o
    script_then : {m n o : M} {room code : ℕ} {bytes : List ℕ} {rs : List Reply} {cs : List Call} {rss : List (List Reply)} → Scripted m room bytes code rs n → Runs n cs rss o → Runs m (script room bytes ∷ cs) (rs ∷ rss) o
