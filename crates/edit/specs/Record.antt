-- From bytes to an edit: the next record is cut off (refusal 1), its kind and fields are read (refusals 2 to 4), and
-- what is left is the edit. Assumes nothing: these are definitions.
use Rattle.std.specs.Prelude.{Bool, true, false, ◌&&◌, ◌||◌, List, [], ◌∷◌, ℕ, ◌+◌, ◌-◌, ◌*◌, ◌%◌, eqb, leb, ltb, length, get_or, take, drop}

-- which of an operation's two lists of uses
pub data Slot : Type 0 where
  operand successor : Slot

-- what stands in lists and owns values: an operation (results) or a block (arguments)
pub data Member : Type 0 where
  operation block : Member

-- what has an inside
pub data Thing : Type 0 where
  the_operation the_block the_region : ℕ → Thing

-- what a use is a use of
pub data Definition : Type 0 where
  of_value of_block : ℕ → Definition

-- what a record asks for; numbers are birth numbers, indexes, types or counts, as the names say
pub data Edit : Type 0 where
  new_operation : (flags : ℕ) (types values blocks : List ℕ) (regions : ℕ) → Edit
  new_block : (types : List ℕ) → Edit
  push_use : Slot → (op d : ℕ) → Edit
  insert_use replace_use : Slot → (op i d : ℕ) → Edit
  remove_use : Slot → (op i : ℕ) → Edit
  pop_use : Slot → (op : ℕ) → Edit
  push_value : Member → (owner type : ℕ) → Edit
  insert_value : Member → (owner i type : ℕ) → Edit
  remove_value : Member → (owner i : ℕ) → Edit
  pop_value : Member → (owner : ℕ) → Edit
  link_after link_before : Member → (x mark : ℕ) → Edit
  link_front link_back : Member → (x container : ℕ) → Edit
  unlink : Member → (x : ℕ) → Edit
  move_region : (region op : ℕ) → Edit
  move_use : Slot → (this u other : ℕ) → Edit
  replace_some : (this other : ℕ) (uses : List ℕ) → Edit
  retarget_some : (this other : ℕ) (preds : List ℕ) → Edit
  drop_uses : Thing → Edit
  erase_operation erase_block : (n : ℕ) → Edit
  erase_region : (op i : ℕ) → Edit
  verdict : Thing → Edit

-- the number of little-endian bytes
unfoldable pub little : List ℕ → ℕ
little [] = 0
little (b ∷ bs) = b + 256 * little bs

-- bytes by fours as 32-bit numbers; up to three bytes at the end make none
unfoldable pub words : List ℕ → List ℕ
words [] = []
words (a ∷ []) = []
words (a ∷ b ∷ []) = []
words (a ∷ b ∷ c ∷ []) = []
words (a ∷ b ∷ c ∷ d ∷ r) = little (a ∷ b ∷ c ∷ d ∷ []) ∷ words r

-- the bytes up to the next record's end: none left, a record that gets 1, or a whole record and what follows it
pub data Cut : Type 0 where
  nothing broken : Cut
  whole : (kind : ℕ) (fields rest : List ℕ) → Cut

-- refusal 1 does not apply: the length n counts the whole record, is 4 to 2,048 and a multiple of 4, and m bytes are left
unfoldable pub length_ok : ℕ → ℕ → Bool
length_ok n m = leb 4 n && leb n 2048 && eqb (n % 4) 0 && leb n m

-- one to three bytes have no length; the kind stands in the third and fourth byte
unfoldable pub cut : List ℕ → Cut
cut [] = nothing
cut (a ∷ []) = broken
cut (a ∷ b ∷ []) = broken
cut (a ∷ b ∷ c ∷ []) = broken
cut (a ∷ b ∷ c ∷ d ∷ r) =
    let n : ℕ = a + 256 * b in
    elim (length_ok n (4 + length r)) [ true ↦ whole (c + 256 * d) (words (take (n - 4) r)) (drop (n - 4) r) | false ↦ broken ]

-- how many fixed fields each kind has, from kind 1 on
unfoldable pub least : List ℕ
least =
    5 ∷ 1
    ∷ 2 ∷ 3 ∷ 3 ∷ 2 ∷ 1 ∷ 2 ∷ 3 ∷ 3 ∷ 2 ∷ 1
    ∷ 2 ∷ 3 ∷ 2 ∷ 1 ∷ 2 ∷ 3 ∷ 2 ∷ 1
    ∷ 2 ∷ 2 ∷ 2 ∷ 2 ∷ 1 ∷ 2 ∷ 2 ∷ 2 ∷ 2 ∷ 1
    ∷ 2 ∷ 3 ∷ 3 ∷ 2 ∷ 2
    ∷ 1 ∷ 1 ∷ 1 ∷ 1 ∷ 1 ∷ 2 ∷ 1 ∷ 1 ∷ 1 ∷ []

module _ (fs : List ℕ) where
  -- field i, from 0
  unfoldable pub field : ℕ → ℕ
  field i = get_or fs i 0

  -- n fields from the index on: a list of the record
  unfoldable pub part : ℕ → ℕ → List ℕ
  part from n = take n (drop from fs)

  -- refusal 4: flags over 3 or a count over 64 in kind 1, the count of kind 2, over 256 numbers after the two fixed fields of 34 and 35
  unfoldable pub over : ℕ → Bool
  over kind =
      (eqb kind 1 && (ltb 3 (field 0) || ltb 64 (field 1) || ltb 64 (field 2) || ltb 64 (field 3) || ltb 64 (field 4)))
      || (eqb kind 2 && ltb 64 (field 0))
      || ((eqb kind 34 || eqb kind 35) && ltb 258 (length fs))

  -- how many fields fill the record exactly: the second half of refusal 3
  unfoldable pub filled : ℕ → ℕ
  filled kind =
      elim (eqb kind 1) [
        | true ↦ 5 + field 1 + field 2 + field 3
        | false ↦ elim (eqb kind 2) [
          | true ↦ 1 + field 0
          | false ↦ elim (eqb kind 34 || eqb kind 35) [
            | true ↦ length fs
            | false ↦ get_or least (kind - 1) 0
          ]
        ]
      ]

  -- the edit of each kind from 1 on
  unfoldable pub edits : List Edit
  edits =
      new_operation (field 0) (part 5 (field 1)) (part (5 + field 1) (field 2)) (part (5 + field 1 + field 2) (field 3)) (field 4)
      ∷ new_block (part 1 (field 0))
      ∷ push_use operand (field 0) (field 1)
      ∷ insert_use operand (field 0) (field 1) (field 2)
      ∷ replace_use operand (field 0) (field 1) (field 2)
      ∷ remove_use operand (field 0) (field 1)
      ∷ pop_use operand (field 0)
      ∷ push_use successor (field 0) (field 1)
      ∷ insert_use successor (field 0) (field 1) (field 2)
      ∷ replace_use successor (field 0) (field 1) (field 2)
      ∷ remove_use successor (field 0) (field 1)
      ∷ pop_use successor (field 0)
      ∷ push_value operation (field 0) (field 1)
      ∷ insert_value operation (field 0) (field 1) (field 2)
      ∷ remove_value operation (field 0) (field 1)
      ∷ pop_value operation (field 0)
      ∷ push_value block (field 0) (field 1)
      ∷ insert_value block (field 0) (field 1) (field 2)
      ∷ remove_value block (field 0) (field 1)
      ∷ pop_value block (field 0)
      ∷ link_after operation (field 0) (field 1)
      ∷ link_before operation (field 0) (field 1)
      ∷ link_front operation (field 0) (field 1)
      ∷ link_back operation (field 0) (field 1)
      ∷ unlink operation (field 0)
      ∷ link_after block (field 0) (field 1)
      ∷ link_before block (field 0) (field 1)
      ∷ link_front block (field 0) (field 1)
      ∷ link_back block (field 0) (field 1)
      ∷ unlink block (field 0)
      ∷ move_region (field 0) (field 1)
      ∷ move_use operand (field 0) (field 1) (field 2)
      ∷ move_use successor (field 0) (field 1) (field 2)
      ∷ replace_some (field 0) (field 1) (drop 2 fs)
      ∷ retarget_some (field 0) (field 1) (drop 2 fs)
      ∷ drop_uses (the_operation (field 0))
      ∷ drop_uses (the_block (field 0))
      ∷ drop_uses (the_region (field 0))
      ∷ erase_operation (field 0)
      ∷ erase_block (field 0)
      ∷ erase_region (field 0) (field 1)
      ∷ verdict (the_operation (field 0))
      ∷ verdict (the_block (field 0))
      ∷ verdict (the_region (field 0))
      ∷ []

-- a record's fields read: a refusal from 2 to 4, or an edit
pub data Read : Type 0 where
  refused : ℕ → Read
  asks : Edit → Read

-- in this order: 2, too few fixed fields (3), 4, not filled exactly (3)
unfoldable pub read : ℕ → List ℕ → Read
read kind fs =
    elim (eqb kind 0 || ltb 44 kind) [
      | true ↦ refused 2
      | false ↦ elim (ltb (length fs) (get_or least (kind - 1) 0)) [
        | true ↦ refused 3
        | false ↦ elim (over fs kind) [
          | true ↦ refused 4
          | false ↦ elim (eqb (length fs) (filled fs kind)) [
            | true ↦ asks (get_or (edits fs) (kind - 1) (new_block []))
            | false ↦ refused 3
          ]
        ]
      ]
    ]
