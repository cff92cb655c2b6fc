-- A new operation or block while it is made: the memory after some of its births, and what the rules say to so much of the edit.
-- Assumes nothing: these are definitions.
use Rattle.std.specs.Prelude.{◌≡◌, ◌≢◌, List, ◌++◌, map, ℕ, ◌+◌, ◌-◌, ◌<◌, ◌≤◌, length, get_or}
use Rattle.edit.specs.Record.{Slot, operand, successor, Edit, new_operation, new_block, part}
use Rattle.edit.specs.Taken.{edit_by, OperationFields, BlockFields}
use Rattle.edit.specs.declared.Kind.TheVariants.{NewOperation}
use Rattle.rules.specs.Refusal.{Name, definition_named, first_missing, refusal_of}
use Rattle.places.specs.Store.{Kind, op, blk, val, usg, Live, State}
use Rattle.places.specs.View.{num, view}
use Rattle.places.specs.Edits.{n_birth_use}
use Rattle.places.specs.Roles.{Unnamed, slot_role, def_role, def_kind}
use Rattle.places.specs.Accepts.{Accepts}
use Rattle.places.specs.Settled.{Settles}
use Rattle.context.specs.declared.Layout.{Layout}
use Rattle.context.specs.Memory as M
use Rattle.context.specs.Memory.{state_of, SoundStore}
use Rattle.context.specs.Performed.{abs}
use Rattle.creation.specs.Room.{five, wants, spare, left}
use Rattle.creation.specs.declared.Parts.{Parts}

-- the uses that were born and have ended
abbrev pub gone : Layout → List ℕ → ℕ
gone l m = ((state_of l m).tab usg).next - length ((state_of l m).tab usg).order

-- m' was made of m: by the edit e the rules make the same of it; the new thing is the one of the kind k at p
pub record Made (l : Layout) (e : Edit) (k : Kind) (p : ℕ) (m m' : List ℕ) : Type 0 where
  pub sound : SoundStore l m'
  pub rest : M.part l m' 14 ≡ M.part l m 14
  pub accepts : Accepts (state_of l m) (state_of l m') e (gone l m) (gone l m)
  -- what lives on keeps its place, and births take the lowest free places
  pub places : Settles (state_of l m) (state_of l m')
  pub live : Live (state_of l m') (k, p)
  pub number : num (state_of l m') (k, p) ≡ ((state_of l m).tab k).next

-- the tests of a new block passed
pub record BlockReady (l : Layout) (fs : List ℕ) (m : List ℕ) : Type 0 where
  pub sound : SoundStore l m
  pub fields : BlockFields fs
  pub places : (k : Kind) → wants k (five 0 1 0 (get_or fs 0 0) 0) ≤ spare l m k
  pub numbers : (k : Kind) → wants k (five 0 1 0 (get_or fs 0 0) 0) ≤ left l m k

-- the block at b has its first j arguments
pub record BlockPartly (l : Layout) (fs : List ℕ) (b j : ℕ) (m m' : List ℕ) : Type 0 where
  pub ready : BlockReady l fs m
  pub made : Made l (new_block (part fs 1 j)) blk b m m'

-- ---- a new operation

-- a live thing of the kind has the number
pub record Named (P : State) (k : Kind) (n : ℕ) : Type 0 where
  pub place : ℕ
  pub live : Live P (k, place)
  pub number : num P (k, place) ≡ n

-- c is 0 where all the n definitions listed from at on are there, and else the refusal
pub record NamesIs (l : Layout) (sl : Slot) (fs : List ℕ) (at n : ℕ) (m : List ℕ) (c : ℕ) : Type 0 where
  pub lost : c ≢ 0 → (xs : List Name) → first_missing (abs l m).history (map (definition_named sl) (part fs at n) ++ xs) ≡ c
  pub there : c ≡ 0 → (i : ℕ) → i < n → Named (state_of l m) (def_kind sl) (get_or fs (at + i) 0)

-- a use of the definition with the number d can be born at the operation at o
pub record CanUse (l : Layout) (sl : Slot) (o d : ℕ) (m : List ℕ) : Type 0 where
  pub room : M.RoomFor (state_of l m) usg l.uses
  pub slot : Live (state_of l m) (op, o)
  pub limit : length ((state_of l m).list (op, o) (slot_role sl)) < 64
  pub there : Unnamed (state_of l m) (def_kind sl) d → ⊥

-- it was, at index i
pub record Used (l : Layout) (sl : Slot) (o i d : ℕ) (m m' : List ℕ) : Type 0 where
  pub sound : SoundStore l m'
  pub rest : M.part l m' 14 ≡ M.part l m 14
  pub caps : (k : Kind) → ((state_of l m').tab k).cap ≡ ((state_of l m).tab k).cap
  pub view : view (state_of l m') ≡ n_birth_use (slot_role sl, (op, num (state_of l m) (op, o))) i (def_role sl, (def_kind sl, d)) (view (state_of l m))
  -- the use took the lowest free place
  pub places : (from : State) → Settles from (state_of l m) → Settles from (state_of l m')
  pub kept : Live (state_of l m') (op, o) × (num (state_of l m') (op, o) ≡ num (state_of l m) (op, o))

-- the counts of the record's lists
pub record Counts (fs : List ℕ) (c : Parts) : Type 0 where
  pub results : c.results ≡ get_or fs 1 0
  pub operands : c.operands ≡ get_or fs 2 0
  pub successors : c.successors ≡ get_or fs 3 0
  pub regions : c.regions ≡ get_or fs 4 0

-- where the record lists the definitions of a slot's uses, and how many
abbrev pub uses_from : Parts → Slot → ℕ
uses_from c operand = 5 + c.results
uses_from c successor = 5 + c.results + c.operands

abbrev pub uses_many : Parts → Slot → ℕ
uses_many c operand = c.operands
uses_many c successor = c.successors

pub record UsesAt (c : Parts) (sl : Slot) (r : ℕ × ℕ) : Type 0 where
  pub from : r.0 ≡ uses_from c sl
  pub many : r.1 ≡ uses_many c sl

-- the tests of a new operation passed
pub record OperationReady (l : Layout) (fs : List ℕ) (c : Parts) (m : List ℕ) : Type 0 where
  pub sound : SoundStore l m
  pub fields : OperationFields fs
  pub counts : Counts fs c
  pub places : (k : Kind) → wants k (five 1 0 c.regions c.results (c.operands + c.successors)) ≤ spare l m k
  pub numbers : (k : Kind) → wants k (five 1 0 c.regions c.results (c.operands + c.successors)) ≤ left l m k
  pub values : (i : ℕ) → i < c.operands → Named (state_of l m) val (get_or fs (5 + c.results + i) 0)
  pub blocks : (i : ℕ) → i < c.successors → Named (state_of l m) blk (get_or fs (5 + c.results + c.operands + i) 0)

-- n is the refusal of the record's edit, or 0
pub record OperationTested (l : Layout) (fs : List ℕ) (c : Parts) (m : List ℕ) (n : ℕ) : Type 0 where
  pub is : refusal_of (abs l m) (edit_by NewOperation fs) ≡ n
  pub ready : n ≡ 0 → OperationReady l fs c m

-- the edit with the first i results, j operands, k successors and n regions of a record that lists so many
abbrev pub grown : List ℕ → Parts → (i j k n : ℕ) → Edit
grown fs c i j k n = new_operation (get_or fs 0 0) (part fs 5 i) (part fs (5 + c.results) j) (part fs (5 + c.results + c.operands) k) n

-- the edit with the results, and the first j uses of a slot: of the successors, after all operands
abbrev pub with_uses : List ℕ → Parts → Slot → ℕ → Edit
with_uses fs c operand j = grown fs c c.results j 0 0
with_uses fs c successor j = grown fs c c.results c.operands j 0

-- the operation at o as by the edit e: the results are born first, then the operands, the successors and the regions
pub record OperationPartly (l : Layout) (fs : List ℕ) (c : Parts) (o : ℕ) (e : Edit) (m m' : List ℕ) : Type 0 where
  pub ready : OperationReady l fs c m
  pub made : Made l e op o m m'

-- some memory led to this one
pub record Underway (l : Layout) (fs : List ℕ) (c : Parts) (o : ℕ) (e : Edit) (m : List ℕ) : Type 0 where
  pub from : List ℕ
  pub partly : OperationPartly l fs c o e from m

-- whatever led to the one, as by the edit e, leads to the other as by e'
pub record Onward (l : Layout) (fs : List ℕ) (c : Parts) (o : ℕ) (e e' : Edit) (m m' : List ℕ) : Type 0 where
  pub on : (start : List ℕ) → OperationPartly l fs c o e start m → OperationPartly l fs c o e' start m'
