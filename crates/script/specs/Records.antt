-- One record of a script, and the records from there on. What the result of a step stands for: the rules' turn, whatever goes on after it.
-- Assumes nothing: these are definitions.
use Rattle.std.specs.Prelude.{◌≡◌, ◌≢◌, List, [], ◌∷◌, ◌++◌, ℕ, suc, ◌-◌, ◌*◌, ◌/◌, ◌≤◌, ◌<◌, length, drop, Option, Some, None, Result, Ok, Err}
use Rattle.edit.specs.Record.{whole, cut, Read, read}
use Rattle.edit.specs.Taken.{Lies}
use Rattle.edit.specs.Kinds.{number_of}
use Rattle.edit.specs.Answer.{Reply, refuse, Answer, numbers_of, Put}
use Rattle.edit.specs.declared.Refusal.{Refusal}
use Rattle.rules.specs.Step.{obey}
use Rattle.rules.specs.Script.{ended_with, after_reply, turn, run}
use Rattle.rules.specs.Script as Rules
use Rattle.places.specs.Alias.{RState}
use Rattle.places.specs.Settled.{Settles}
use Rattle.context.specs.declared.Layout.{Layout}
use Rattle.context.specs.Memory.{part, state_of, SoundStore}
use Rattle.context.specs.Performed.{abs}
use Rattle.script.specs.declared.Ran.{Ran}
use Rattle.script.specs.Calls.{flat, Over, Turned, Course, RanOn}

-- what was read of a record is obeyed: refused, or its edit put to the store; the scratch is as it was
pub record Obeyed (l : Layout) (q : Read) (m m' s s' : List ℕ) (r : Answer) : Type 0 where
  pub sound : SoundStore l m'
  pub reply : numbers_of r ≡ (obey (abs l m) q).0
  pub state : abs l m' ≡ (obey (abs l m) q).1
  pub places : Settles (state_of l m) (state_of l m')
  pub kept : (obey (abs l m) q).0.refusal ≢ 0 → m' ≡ m
  pub rest : part l m' 14 ≡ part l m 14
  pub scratch : s' ≡ s

module _ (l : Layout) (bytes : List ℕ) (at count : ℕ) (m m' out out' : List ℕ) where
  -- the rules' turn at this record, where on goes on
  abbrev pub Turn : (ℕ → RState → List ℕ → Rules.Ran) → Rules.Ran
  Turn on = turn on (abs l m) (cut (drop at bytes)) (length out / 3 - count)

  -- the script ends before this record
  pub record Stopped (n : ℕ) : Type 0 where
    pub turned : (on : ℕ → RState → List ℕ → Rules.Ran) → Turn on ≡ ended_with n [] (abs l m)
    pub over : Over (cut (drop at bytes)) (length out / 3 - count)
    pub kept : m' ≡ m
    pub answers : out' ≡ out

  -- the record is broken: it is answered, and the script ends
  pub record Finished : Type 0 where
    pub turned : (on : ℕ → RState → List ℕ → Rules.Ran) → Turn on ≡ ended_with 0 (refuse 1 ∷ []) (abs l m)
    pub over : Over (cut (drop at bytes)) (length out / 3 - count)
    pub room : count < length out / 3
    pub kept : m' ≡ m
    pub answers : Put out out' count (refuse 1)

  -- the record is answered, and the next one starts at end
  pub record WentOn (end : ℕ) : Type 0 where
    pub reply : Reply
    pub turned : (on : ℕ → RState → List ℕ → Rules.Ran) → Turn on ≡ after_reply reply (on (length out / 3 - suc count) (abs l m') (drop end bytes))
    pub kind : ℕ
    pub fields : List ℕ
    pub cut_off : cut (drop at bytes) ≡ whole kind fields (drop end bytes)
    pub words : Turned l (read kind fields) m m'
    pub room : count < length out / 3
    pub lies : Lies bytes at end
    pub sound : SoundStore l m'
    pub rest : part l m' 14 ≡ part l m 14
    pub answers : Put out out' count reply

  abbrev pub StepIs : Result (Option ℕ) Refusal → Type 0
  StepIs (Err e) = Stopped (number_of e)
  StepIs (Ok None) = Finished
  StepIs (Ok (Some end)) = WentOn end

-- a step of a script; the scratch is as it was
pub record Stepped (l : Layout) (bytes : List ℕ) (at count : ℕ) (m m' s s' out out' : List ℕ) (r : Result (Option ℕ) Refusal) : Type 0 where
  pub step : StepIs l bytes at count m m' out out' r
  pub scratch : s' ≡ s

-- these answers before those of a run
unfoldable pub before : List Reply → Rules.Ran → Rules.Ran
before [] x = x
before (r ∷ rs) x = after_reply r (before rs x)

-- a script's records were run; the scratch is as it was
pub record RanWith (l : Layout) (bytes m m' s s' out out' : List ℕ) (r : Ran) : Type 0 where
  pub ran : RanOn l bytes m m' out out' r
  pub scratch : s' ≡ s

-- where a script is that has answered count records and stands at the byte at: the run of the whole is what was answered, before the run of what is left
pub record Going (l : Layout) (bytes m₀ m out₀ out : List ℕ) (at count : ℕ) : Type 0 where
  pub replies : List Reply
  pub counted : length replies ≡ count
  pub whole : run (length out₀ / 3) (abs l m₀) bytes ≡ before replies (run (length out₀ / 3 - count) (abs l m) (drop at bytes))
  -- and the words' course of the whole is the one so far, before that of what is left
  pub places : (m' : List ℕ) → Course l (drop at bytes) (length out₀ / 3 - count) m m' → Course l bytes (length out₀ / 3) m₀ m'
  pub written : out ≡ flat replies ++ drop (3 * count) out₀
  pub long : length out ≡ length out₀
  pub room : count ≤ length out₀ / 3
  pub inside : at ≤ length bytes
  pub sound : SoundStore l m
  pub rest : part l m 14 ≡ part l m₀ 14
