-- The document's numbers, of each refusal and of each kind of edit, and the definitions' word for what a kind speaks of.
-- Assumes nothing: these are definitions.
use Rattle.std.specs.Prelude.{◌≡◌, ℕ, ◌+◌, ◌<◌, ◌⊎◌, Result, Ok, Err}
use Rattle.edit.specs.Record.{Slot, operand, successor, Member, operation, block, Thing, the_operation, the_block, the_region}
use Rattle.edit.specs.declared.Refusal.{Refusal}
use Rattle.edit.specs.declared.Refusal.TheVariants.{Malformed, UnknownKind, FieldCount, OverLimit, Capacity, Unsound, NoOperation, NoBlock, NoRegion, NoValue, NoUse, NoIndex, Used, UsedInside, Linked, Unlinked, InsideItself, StrayUser, ListFull, NoPlace, NoNumber, NoRoom}
use Rattle.edit.specs.declared.Slot as slot
use Rattle.edit.specs.declared.Slot.TheVariants.{Operand, Successor}
use Rattle.edit.specs.declared.Member as member
use Rattle.edit.specs.declared.Member.TheVariants as members
use Rattle.edit.specs.declared.Nested.{Nested}
use Rattle.edit.specs.declared.Nested.TheVariants as nested
use Rattle.edit.specs.declared.Kind.{Kind}
use Rattle.edit.specs.declared.Kind.TheVariants.{NewOperation, NewBlock, PushUse, InsertUse, ReplaceUse, RemoveUse, PopUse, PushValue, InsertValue, RemoveValue, PopValue, LinkAfter, LinkBefore, LinkFront, LinkBack, Unlink, MoveRegion, MoveUse, ReplaceSome, RetargetSome, DropUses, Erase, EraseRegion, Verdict}

-- ---- refusals
abbrev pub number_of : Refusal → ℕ
number_of Malformed = 1
number_of UnknownKind = 2
number_of FieldCount = 3
number_of OverLimit = 4
number_of Capacity = 5
number_of Unsound = 6
number_of NoOperation = 7
number_of NoBlock = 8
number_of NoRegion = 9
number_of NoValue = 10
number_of NoUse = 11
number_of NoIndex = 12
number_of Used = 13
number_of UsedInside = 14
number_of Linked = 15
number_of Unlinked = 16
number_of InsideItself = 17
number_of StrayUser = 18
number_of ListFull = 19
number_of NoPlace = 20
number_of NoNumber = 21
number_of NoRoom = 22

-- 0, or the refusal's number
abbrev pub code_of : {A : Type 0} → Result A Refusal → ℕ
code_of (Ok _) = 0
code_of (Err r) = number_of r

-- ---- what a kind speaks of
abbrev pub slot_of : slot.Slot → Slot
slot_of Operand = operand
slot_of Successor = successor

abbrev pub member_of : member.Member → Member
member_of members.Operation = operation
member_of members.Block = block

-- an operation or a block, as what has an inside
abbrev pub nested_of : member.Member → Nested
nested_of members.Operation = nested.Operation
nested_of members.Block = nested.Block

-- the thing with this birth number
abbrev pub thing_of : Nested → ℕ → Thing
thing_of nested.Operation = the_operation
thing_of nested.Block = the_block
thing_of nested.Region = the_region

-- ---- kinds
-- the first of the five kinds on operands or successors
abbrev pub use_kinds : Slot → ℕ
use_kinds operand = 3
use_kinds successor = 8

-- the first of the four kinds on results or arguments
abbrev pub value_kinds : Member → ℕ
value_kinds operation = 13
value_kinds block = 17

-- the first of the five kinds that link and unlink operations or blocks
abbrev pub link_kinds : Member → ℕ
link_kinds operation = 21
link_kinds block = 26

-- the kind that moves a use of a value or of a block
abbrev pub move_kind : Slot → ℕ
move_kind operand = 32
move_kind successor = 33

-- the kind that erases an operation or a block
abbrev pub erase_kind : Member → ℕ
erase_kind operation = 39
erase_kind block = 40

-- a thing's place among operations, blocks and regions
abbrev pub nested_place : Nested → ℕ
nested_place nested.Operation = 0
nested_place nested.Block = 1
nested_place nested.Region = 2

abbrev pub kind_number : Kind → ℕ
kind_number NewOperation = 1
kind_number NewBlock = 2
kind_number (PushUse s) = use_kinds (slot_of s)
kind_number (InsertUse s) = use_kinds (slot_of s) + 1
kind_number (ReplaceUse s) = use_kinds (slot_of s) + 2
kind_number (RemoveUse s) = use_kinds (slot_of s) + 3
kind_number (PopUse s) = use_kinds (slot_of s) + 4
kind_number (PushValue m) = value_kinds (member_of m)
kind_number (InsertValue m) = value_kinds (member_of m) + 1
kind_number (RemoveValue m) = value_kinds (member_of m) + 2
kind_number (PopValue m) = value_kinds (member_of m) + 3
kind_number (LinkAfter m) = link_kinds (member_of m)
kind_number (LinkBefore m) = link_kinds (member_of m) + 1
kind_number (LinkFront m) = link_kinds (member_of m) + 2
kind_number (LinkBack m) = link_kinds (member_of m) + 3
kind_number (Unlink m) = link_kinds (member_of m) + 4
kind_number MoveRegion = 31
kind_number (MoveUse s) = move_kind (slot_of s)
kind_number ReplaceSome = 34
kind_number RetargetSome = 35
kind_number (DropUses n) = 36 + nested_place n
kind_number (Erase m) = erase_kind (member_of m)
kind_number EraseRegion = 41
kind_number (Verdict n) = 42 + nested_place n

-- the kind with this number; only a number from 1 to 44 has one, and for another the refusal is 2
unfoldable pub Names : ℕ → Result Kind Refusal → Type 0
Names n (Ok k) = kind_number k ≡ n
Names n (Err r) = (r ≡ UnknownKind) × (n ≡ 0 ⊎ 44 < n)
