-- The listing that the program prints: a line for each record, then the store. Every number has one space before it, every line ends in a line
-- feed. Assumes nothing: these are definitions.
use Rattle.std.specs.Prelude.{true, false, List, [], ◌∷◌, ◌++◌, ℕ, zero, suc, ◌+◌, ◌/◌, ◌%◌, eqb, ltb, length}
use Rattle.std.proofs.Math.Option.{Option, none, some}
use Prim.Native.Char.{code}
use Prim.Native.String.{String, [] as no_text, ◌∷◌ as ◌then◌}
use Rattle.rules.specs.Table.{Table, find}
use Rattle.edit.specs.Record.{Definition, of_value, of_block}
use Rattle.rules.specs.History.{Five, Operation, Block, uses_of, parent}
use Rattle.rules.specs.State.{State, start, number_at}
use Rattle.rules.specs.Orders.{list_at}
use Rattle.edit.specs.Answer.{Reply}
use Rattle.rules.specs.Step.{definition_number}
use Rattle.rules.specs.Script.{Ran, run}

-- a text as bytes
abbrev pub text : String → List ℕ
text no_text = []
text (c then s) = code c ∷ text s

-- decimal digits, put before acc; ten are enough for 32 bits
unfoldable pub digits : ℕ → ℕ → List ℕ → List ℕ
digits zero n acc = acc
digits (suc k) n acc = elim (ltb n 10) [ true ↦ (48 + n) ∷ acc | false ↦ digits k (n / 10) ((48 + n % 10) ∷ acc) ]

-- a space and a number
unfoldable pub num : ℕ → List ℕ
num n = 32 ∷ digits 10 n []

-- numbers, each with its space
unfoldable pub nums : List ℕ → List ℕ
nums [] = []
nums (n ∷ ns) = num n ++ nums ns

-- a space and a number, or a space and -
unfoldable pub or_none : Option ℕ → List ℕ
or_none none = text " -"
or_none (some n) = num n

-- uses, each with the number of its definition: u:d
unfoldable pub pairs : Table Definition → List ℕ → List ℕ
pairs t [] = []
pairs t (u ∷ us) = num u ++ (58 ∷ digits 10 (definition_number (find t u)) []) ++ pairs t us

-- a line feed
unfoldable pub line_end : List ℕ
line_end = 10 ∷ []

-- edit n ok A B, or edit n no and the refusal
unfoldable pub edit_line : ℕ → Reply → List ℕ
edit_line n r =
    text "edit" ++ num n
    ++ elim (eqb r.refusal 0) [ true ↦ text " ok" ++ num r.a ++ num r.b | false ↦ text " no" ++ num r.refusal ]
    ++ line_end

-- one line for each answer, numbered from n
unfoldable pub edit_lines : ℕ → List Reply → List ℕ
edit_lines n [] = []
edit_lines n (r ∷ rs) = edit_line n r ++ edit_lines (suc n) rs

module _ (s : State) where
  -- store and the live operations, blocks, regions, values and uses
  unfoldable pub store_line : List ℕ
  store_line =
      text "store"
      ++ num (length s.history.operations) ++ num (length s.history.blocks) ++ num (length s.orders.blocks_of)
      ++ num (length s.types) ++ num (length s.history.uses) ++ line_end

  -- op n block b flags f res .. opd .. suc .. reg ..
  unfoldable pub op_lines : Table Operation → List ℕ
  op_lines [] = []
  op_lines (e ∷ t) =
      text "op" ++ num e.0
      ++ text " block" ++ or_none e.1.block
      ++ text " flags" ++ num (number_at s.flags e.0)
      ++ text " res" ++ nums e.1.results
      ++ text " opd" ++ pairs s.history.uses e.1.operands
      ++ text " suc" ++ pairs s.history.uses e.1.successors
      ++ text " reg" ++ nums e.1.regions
      ++ line_end ++ op_lines t

  -- block n region r arg .. ops .. pred ..
  unfoldable pub block_lines : Table Block → List ℕ
  block_lines [] = []
  block_lines (e ∷ t) =
      text "block" ++ num e.0
      ++ text " region" ++ or_none e.1.region
      ++ text " arg" ++ nums e.1.arguments
      ++ text " ops" ++ nums (list_at s.orders.ops_of e.0)
      ++ text " pred" ++ nums (uses_of s.history (of_block e.0))
      ++ line_end ++ block_lines t

  -- region n op o blocks ..
  unfoldable pub region_lines : Table (List ℕ) → List ℕ
  region_lines [] = []
  region_lines (e ∷ t) =
      text "region" ++ num e.0
      ++ text " op" ++ or_none (parent s.history e.0)
      ++ text " blocks" ++ nums e.1
      ++ line_end ++ region_lines t

  -- value n type t uses ..
  unfoldable pub value_lines : Table ℕ → List ℕ
  value_lines [] = []
  value_lines (e ∷ t) =
      text "value" ++ num e.0
      ++ text " type" ++ num e.1
      ++ text " uses" ++ nums (uses_of s.history (of_value e.0))
      ++ line_end ++ value_lines t

  -- the whole listing: store, operations, blocks, regions, values, each in rising number
  unfoldable pub listing : List ℕ
  listing =
      store_line ++ op_lines s.history.operations ++ block_lines s.history.blocks ++ region_lines s.orders.blocks_of ++ value_lines s.types

-- the program's capacities
unfoldable pub program_capacities : Five
program_capacities = record { operations = 128; blocks = 64; regions = 64; values = 256; uses = 512 }

-- what it prints for a script that is not too long; there is room for an answer to each record
unfoldable pub printed : List ℕ → List ℕ
printed script =
    let r : Ran = run 4096 (start program_capacities) script in
    edit_lines 0 r.answers ++ listing r.state

-- what it prints for any script: over 16,384 bytes nothing is run
unfoldable pub output : List ℕ → List ℕ
output script = elim (ltb 16384 (length script)) [ true ↦ text "script too long\n" | false ↦ printed script ]
