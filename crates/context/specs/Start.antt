-- A store is started: the words that it needs, the refusal, and the state that it begins in.
-- Assumes nothing: these are definitions.
use Rattle.std.specs.Prelude.{◌≡◌, ◌≢◌, List, ℕ, length, Option, Some, None, Result}
use Rattle.edit.specs.declared.Refusal.{Refusal}
use Rattle.edit.specs.Kinds.{code_of}
use Rattle.std.proofs.Math.Logic.{ite}
use Rattle.std.proofs.Math.Decide.{dec_le, dec_lt}
use Rattle.rules.specs.History.{Five}
use Rattle.rules.specs.State.{start}
use Rattle.context.specs.declared.Layout.{Layout}
use Rattle.context.specs.Layout.{total, Caps}
use Rattle.context.specs.Steps.{Started}
use Rattle.context.specs.Performed.{abs}

-- the capacities, as the rules have them
abbrev pub five_of : Layout → Five
five_of l = record { operations = l.ops; blocks = l.blocks; regions = l.regions; values = l.values; uses = l.uses }

-- 5 where the capacity is 0 or over its limit, and else r
abbrev pub within : ℕ → ℕ → ℕ → ℕ
within n limit r = ite (dec_lt 0 n) (ite (dec_le n limit) r 5) 5

-- the reply to a start in a memory of so many words: 0, or 5 where a capacity is 0 or over its limit, or the memory too short
unfoldable pub start_code : Layout → ℕ → ℕ
start_code l long = within l.ops 4096 (within l.blocks 1024 (within l.regions 1024 (within l.values 8192 (within l.uses 16384 (ite (dec_le (total l) long) 0 5)))))

-- the reply as a number, 0 or 5
pub record StartBy (l : Layout) (m m' : List ℕ) (r : ℕ) : Type 0 where
  pub reply : r ≡ start_code l (length m)
  pub started : r ≡ 0 → Started l m m'
  pub state : r ≡ 0 → abs l m' ≡ start (five_of l)
  -- a refused start changes nothing
  pub kept : r ≢ 0 → m' ≡ m

abbrev pub StartIs : Layout → List ℕ → List ℕ → Result (Unit {0}) Refusal → Type 0
StartIs l m m' r = StartBy l m m' (code_of r)

-- r is how many words a store needs: none where no store has these capacities
pub record WordsNeeded (l : Layout) (r : Option ℕ) : Type 0 where
  pub is : Caps l → r ≡ Some (total l)
  pub none : (Caps l → ⊥) → r ≡ None
