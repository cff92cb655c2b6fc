-- Stores that are of no use do not keep the rules: five ways to be one, each with a state and an edit at which it parts from them.
-- Assumes nothing.
use mathlib.Core.Path.{◌≡◌, sym, ap, ◌∙◌}
use mathlib.Core.Bool.{Bool, not, ◌&&◌}
use mathlib.Core.List.{List, [], ◌∷◌}
use Prim.Native.Nat.{ℕ, ◌+◌}
use native.Mathlib.Omega.{arith}
use lib.Dec.{T, eqb, leb}
use lib.ListN.{get_or}
use Rattle.edit.specs.Answer.{Reply}
use Rattle.rules.specs.History.{Five}
use Rattle.rules.specs.State.{State, start}
use Rattle.rules.specs.Step.{step}
use Rattle.rules.specs.Calls.{Call, single, after}
use Rattle.rules.specs.Listing.{program_capacities}
use Rattle.rules.specs.Examples.{computing, le32, rec}

-- a store: what it replies to an edit, and the state it leaves
abbrev pub Store : Type 0
Store = State → List ℕ → Reply × State

-- it keeps the rules in every state to which calls of a new store lead
abbrev pub Keeps : Store → Type 0
Keeps st = (k : Five) (cs : List Call) (bytes : List ℕ) → st (after (start k) cs) bytes ≡ step (after (start k) cs) bytes

-- ---- the state and the edits of the proofs

abbrev pub empty : State
empty = after (start program_capacities) []

-- a new block; one with an argument; and an operation that has that argument as operand, once or twice
abbrev pub block : List ℕ
block = rec 2 (0 ∷ [])

abbrev pub with_argument : Call
with_argument = single (rec 2 (1 ∷ 7 ∷ []))

abbrev pub user : Call
user = single (rec 1 (0 ∷ 0 ∷ 1 ∷ 0 ∷ 0 ∷ 0 ∷ []))

abbrev pub double_user : Call
double_user = single (rec 1 (0 ∷ 0 ∷ 2 ∷ 0 ∷ 0 ∷ 0 ∷ 0 ∷ []))

abbrev pub code : Reply × State → ℕ
code x = x.0.refusal

abbrev pub blocks_born : State → ℕ
blocks_born s = s.history.born.blocks

-- ---- it carries out the first edit only: where something was born before, the state stays

pub only_first_edit : (st : Store) → ((s : State) (bytes : List ℕ) → T (not (eqb (s.history.born.operations + s.history.born.blocks) 0)) → (st s bytes).1 ≡ s) → Keeps st → ⊥
only_first_edit st h k = let q : ◌≡◌ {A = ℕ} 1 2 = once in omega arith
  where
    once : ◌≡◌ {A = ℕ} 1 2
    once = unfold computing le32 rec in (ap blocks_born (sym (h (after (start program_capacities) (with_argument ∷ [])) block tt) ∙ ap (λ (x : Reply × State). x.1) (k program_capacities (with_argument ∷ []) block)))

-- ---- it makes up the count of ended uses: B of 36 to 41 is a number that the record alone decides

unfoldable pub counts : List ℕ → Bool
counts bytes = leb 36 (get_or bytes 2 0) && leb (get_or bytes 2 0) 41

pub made_up_count : (st : Store) (f : List ℕ → ℕ) → ((s : State) (bytes : List ℕ) → T (counts bytes) → (st s bytes).0.b ≡ f bytes) → Keeps st → ⊥
made_up_count st f h k = let p : f drop ≡ 1 = once in let q : f drop ≡ 2 = twice in omega arith
  where
    drop : List ℕ
    drop = rec 36 (0 ∷ [])

    b_of : Reply × State → ℕ
    b_of x = x.0.b

    once : f drop ≡ 1
    once = unfold computing le32 rec counts in (sym (h (after (start program_capacities) (with_argument ∷ user ∷ [])) drop tt) ∙ ap b_of (k program_capacities (with_argument ∷ user ∷ []) drop))

    twice : f drop ≡ 2
    twice = unfold computing le32 rec counts in (sym (h (after (start program_capacities) (with_argument ∷ double_user ∷ [])) drop tt) ∙ ap b_of (k program_capacities (with_argument ∷ double_user ∷ []) drop))

-- ---- it replies 20 with places free: to a new block in an empty store

pub full_when_free : (st : Store) → (st empty block).0.refusal ≡ 20 → Keeps st → ⊥
full_when_free st h k = let q : ◌≡◌ {A = ℕ} 20 0 = zero_now in omega arith
  where
    zero_now : ◌≡◌ {A = ℕ} 20 0
    zero_now = unfold computing le32 rec in (sym h ∙ ap code (k program_capacities [] block))

-- ---- it accepts and changes nothing, whatever it replies

pub nothing_changed : (st : Store) → ((s : State) (bytes : List ℕ) → (st s bytes).1 ≡ s) → Keeps st → ⊥
nothing_changed st h k = let q : ◌≡◌ {A = ℕ} 0 1 = born in omega arith
  where
    born : ◌≡◌ {A = ℕ} 0 1
    born = unfold computing le32 rec in (ap blocks_born (sym (h empty block) ∙ ap (λ (x : Reply × State). x.1) (k program_capacities [] block)))

-- ---- it refuses every edit, with whatever numbers; or it gives each one reply

pub all_refused : (st : Store) → ((s : State) (bytes : List ℕ) → (st s bytes).0.refusal ≡ 0 → ⊥) → Keeps st → ⊥
all_refused st h k = h empty block (unfold computing le32 rec in (ap code (k program_capacities [] block)))

-- a new block is accepted, and no bytes get 1
pub one_reply : (st : Store) (r : Reply) → ((s : State) (bytes : List ℕ) → (st s bytes).0 ≡ r) → Keeps st → ⊥
one_reply st r h k = let p : r.refusal ≡ 0 = accepted in let q : r.refusal ≡ 1 = broken in omega arith
  where
    accepted : r.refusal ≡ 0
    accepted = unfold computing le32 rec in (ap (λ (x : Reply). x.refusal) (sym (h empty block)) ∙ ap code (k program_capacities [] block))

    broken : r.refusal ≡ 1
    broken = unfold computing in (ap (λ (x : Reply). x.refusal) (sym (h empty [])) ∙ ap code (k program_capacities [] []))
