-- An edit record in its bytes: where the kind and the fields stand, what the search for the next record says, and what
-- reading a whole record says. Assumes nothing: these are definitions.
use Rattle.std.specs.Prelude.{◌≡◌, false, List, [], ℕ, ◌+◌, ◌-◌, ◌*◌, ◌%◌, ◌≤◌, length, get_or, take, drop, Result, Ok, Err, Option, Some, None}
use Rattle.edit.specs.Record.{Edit, new_block, Cut, nothing, broken, whole, cut, words, least, over, filled, edits, Read, refused, asks, read}
use Rattle.edit.specs.Kinds.{number_of, kind_number}
use Rattle.edit.specs.declared.Refusal.{Refusal}
use Rattle.edit.specs.declared.Refusal.TheVariants.{Malformed}
use Rattle.edit.specs.declared.Kind.{Kind}

-- the kind in a record's bytes: the third and the fourth, the lower first
unfoldable pub record_kind : List ℕ → ℕ
record_kind rec = get_or rec 2 0 + 256 * get_or rec 3 0

-- the fields in a record's bytes: what follows the length and the kind, by fours
unfoldable pub fields_of : List ℕ → List ℕ
fields_of rec = words (drop 4 rec)

-- the 32-bit number whose lowest byte stands at p
unfoldable pub number_at : List ℕ → ℕ → ℕ
number_at l p = get_or l p 0 + 256 * get_or l (p + 1) 0 + 65536 * get_or l (p + 2) 0 + 16777216 * get_or l (p + 3) 0

-- the bytes from at up to end, as the code lends them
abbrev pub record_at : List ℕ → ℕ → ℕ → List ℕ
record_at bytes at end = take (end - at) (drop at bytes)

-- the cut that each result of the search stands for: no byte, a refusal, or where a whole record ends
unfoldable pub cut_of : List ℕ → ℕ → Result (Option ℕ) Refusal → Cut
cut_of bytes at (Ok None) = nothing
cut_of bytes at (Ok (Some end)) = whole (record_kind (record_at bytes at end)) (fields_of (record_at bytes at end)) (drop end bytes)
cut_of bytes at (Err r) = broken

-- a whole record lies from at up to end
pub record Lies (bytes : List ℕ) (at end : ℕ) : Type 0 where
  pub head : at + 4 ≤ end
  pub inside : end ≤ length bytes
  pub short : end ≤ at + 2048
  pub fours : (end - at) % 4 ≡ 0

-- what the search at a position says: it is the cut of the bytes from there on, a whole record lies in the bytes, and
-- the one refusal is 1
pub record NextCut (bytes : List ℕ) (at : ℕ) (r : Result (Option ℕ) Refusal) : Type 0 where
  pub same : cut (drop at bytes) ≡ cut_of bytes at r
  pub lies : (end : ℕ) → r ≡ Ok (Some end) → Lies bytes at end
  pub broken : (e : Refusal) → r ≡ Err e → e ≡ Malformed

-- the edit of a kind from its fields; for a kind given as a numeral it computes
unfoldable pub edit_of : ℕ → List ℕ → Edit
edit_of kind fs = get_or (edits fs) (kind - 1) (new_block [])

unfoldable pub edit_by : Kind → List ℕ → Edit
edit_by k fs = edit_of (kind_number k) fs

-- what each result of reading stands for
unfoldable pub read_of : List ℕ → Result Kind Refusal → Read
read_of fs (Ok k) = asks (edit_by k fs)
read_of fs (Err r) = refused (number_of r)

-- a record of this kind passed refusals 2 to 4
pub record Passed (kind : ℕ) (fs : List ℕ) : Type 0 where
  pub from : 1 ≤ kind
  pub to : kind ≤ 44
  pub fixed : get_or least (kind - 1) 0 ≤ length fs
  pub limits : over fs kind ≡ false
  pub full : length fs ≡ filled fs kind

-- what reading a whole record says: the same as `read`, and for an edit that its kind is the record's and passed
pub record Taken (bytes : List ℕ) (r : Result Kind Refusal) : Type 0 where
  pub same : read (record_kind bytes) (fields_of bytes) ≡ read_of (fields_of bytes) r
  pub kind : (k : Kind) → r ≡ Ok k → record_kind bytes ≡ kind_number k
  pub passed : (k : Kind) → r ≡ Ok k → Passed (kind_number k) (fields_of bytes)

-- the fields of a new operation that passed: its flags and counts are in their limits, and three lists follow them
pub record OperationFields (fs : List ℕ) : Type 0 where
  pub flags : get_or fs 0 0 ≤ 3
  pub results : get_or fs 1 0 ≤ 64
  pub operands : get_or fs 2 0 ≤ 64
  pub successors : get_or fs 3 0 ≤ 64
  pub regions : get_or fs 4 0 ≤ 64
  pub full : length fs ≡ 5 + get_or fs 1 0 + get_or fs 2 0 + get_or fs 3 0

-- the fields of a new block that passed: a count and as many types
pub record BlockFields (fs : List ℕ) : Type 0 where
  pub arguments : get_or fs 0 0 ≤ 64
  pub full : length fs ≡ 1 + get_or fs 0 0
