-- The lists and kinds that the rules' slots and members name, and when no live thing has a number.
-- Assumes nothing: these are definitions.
use Rattle.std.specs.Prelude.{◌≢◌, ℕ, zero, suc}
use Rattle.places.specs.Store.{Kind, op, blk, reg, val, usg, Role, operands, successors, value_uses, block_uses, results, arguments, State, Live}
use Rattle.places.specs.View.{num}
use Rattle.edit.specs.Record.{Slot, operand, successor, Member, operation, block}

-- no live thing of the kind has the number
abbrev pub Unnamed : State → Kind → ℕ → Type 0
Unnamed P k n = (p : ℕ) → Live P (k, p) → num P (k, p) ≢ n

-- the refusal where nothing of the kind has the number
abbrev pub missing_code : Kind → ℕ
missing_code op = 7
missing_code blk = 8
missing_code reg = 9
missing_code val = 10
missing_code usg = 11

-- the codes by which the functions are told a slot, 0 for operands, and a member, 0 for an operation
abbrev pub slot_by : ℕ → Slot
slot_by zero = operand
slot_by (suc k) = successor

abbrev pub member_by : ℕ → Member
member_by zero = operation
member_by (suc k) = block

-- an operation's list of uses
abbrev pub slot_role : Slot → Role
slot_role operand = operands
slot_role successor = successors

-- the kind and the set of uses of what a slot's uses are uses of
abbrev pub def_kind : Slot → Kind
def_kind operand = val
def_kind successor = blk

abbrev pub def_role : Slot → Role
def_role operand = value_uses
def_role successor = block_uses

-- the list of values of an operation or a block
abbrev pub value_role : Member → Role
value_role operation = results
value_role block = arguments

-- what stands in lists, and what it stands in
abbrev pub member_kind : Member → Kind
member_kind operation = op
member_kind block = blk

abbrev pub container_kind : Member → Kind
container_kind operation = blk
container_kind block = reg
