-- What a caller of the reader goes on with: the fixed fields of a record that passed, and its listed numbers by index. Assumes nothing.
use mathlib.Core.Path.{◌≡◌, sym, ◌∙◌}
use mathlib.Core.List.{List}
use Prim.Native.Nat.{ℕ, ◌+◌, ◌-◌, ◌≤◌, ◌<◌}
use native.Mathlib.Omega.{arith}
use Rattle.std.proofs.lemmas.Bool.{or_parts, ltb-false}
use lib.ListN.{length, get_or, drop, length-drop}
use lib.Seq.{length-take-le, get_or-take, get_or-drop}
use Rattle.edit.specs.Record.{field, part, over}
use Rattle.edit.specs.Taken.{Passed, OperationFields, BlockFields}
use Rattle.edit.proofs.Limits.{types_over, filled_operation, filled_block}

-- ---- what passed
pub operation_fields : (fs : List ℕ) → Passed 1 fs → OperationFields fs
unfolding over field
operation_fields fs p =
    let not_listed = or_parts _ _ p.limits in
    let not_block = or_parts _ _ not_listed.0 in
    let four = or_parts _ _ not_block.0 in
    let three = or_parts _ _ four.0 in
    let two = or_parts _ _ three.0 in
    let one = or_parts _ _ two.0 in
    record {
      flags = ltb-false 3 (get_or fs 0 0) one.0;
      results = ltb-false 64 (get_or fs 1 0) one.1;
      operands = ltb-false 64 (get_or fs 2 0) two.1;
      successors = ltb-false 64 (get_or fs 3 0) three.1;
      regions = ltb-false 64 (get_or fs 4 0) four.1;
      full = p.full ∙ filled_operation fs;
    }

pub block_fields : (fs : List ℕ) → Passed 2 fs → BlockFields fs
block_fields fs p = record { arguments = ltb-false 64 (get_or fs 0 0) (sym (types_over fs) ∙ p.limits); full = p.full ∙ filled_block fs }

-- ---- listed numbers
pub part_length : (fs : List ℕ) (from n : ℕ) → from + n ≤ length fs → length (part fs from n) ≡ n
unfolding part
part_length fs from n h = length-take-le n (drop from fs) (omega (arith, length-drop from fs))

pub part_at : (fs : List ℕ) (from n i : ℕ) → i < n → get_or (part fs from n) i 0 ≡ get_or fs (from + i) 0
unfolding part
part_at fs from n i h = get_or-take n (drop from fs) i 0 h ∙ get_or-drop from fs i 0

pub rest_length : (fs : List ℕ) (from : ℕ) → length (drop from fs) ≡ length fs - from
rest_length fs from = length-drop from fs

pub rest_at : (fs : List ℕ) (from i : ℕ) → get_or (drop from fs) i 0 ≡ get_or fs (from + i) 0
rest_at fs from i = get_or-drop from fs i 0
