-- An edit put to a sound store in memory: the reply and the store after it are the rules'. Assumes nothing: these are definitions.
use Rattle.std.specs.Prelude.{◌≡◌, ◌≢◌, List, ℕ}
use Rattle.edit.specs.Record.{Edit}
use Rattle.edit.specs.Answer.{Answer, numbers_of}
use Rattle.rules.specs.Refusal.{refusal_of}
use Rattle.rules.specs.Step.{perform}
use Rattle.places.specs.Alias.{RState}
use Rattle.places.specs.Hist.{meaning}
use Rattle.places.specs.Settled.{Settles}
use Rattle.context.specs.declared.Layout.{Layout}
use Rattle.context.specs.Memory.{part, state_of, SoundStore}

-- the state of the rules that the memory stands for
unfoldable pub abs : Layout → List ℕ → RState
abs l m = meaning (state_of l m)

-- the edit e was put to the store m: r is the answer, m' the memory after it
pub record Performed (l : Layout) (e : Edit) (m m' : List ℕ) (r : Answer) : Type 0 where
  pub sound : SoundStore l m'
  pub reply : numbers_of r ≡ (perform (abs l m) e).0
  pub state : abs l m' ≡ (perform (abs l m) e).1
  -- what lives on keeps its place, and births take the lowest free places
  pub places : Settles (state_of l m) (state_of l m')
  -- a refused edit changes nothing
  pub kept : refusal_of (abs l m) e ≢ 0 → m' ≡ m
  -- what lies past the store is as it was
  pub rest : part l m' 14 ≡ part l m 14
