-- Examples: one table of scripts and what the program prints for them, and one proof over it; and the last birth number (21).
-- Assumes nothing.
use Rattle.std.specs.Prelude.{Bool, true, false, List, [], ◌∷◌, ◌++◌, ℕ, ◌+◌, ◌*◌, ◌/◌, ◌%◌, eqb, T, length, replicate}
use Prim.Native.String.{String}
use Rattle.rules.specs.State.{State}
use Rattle.edit.specs.Answer.{Reply}
use Rattle.rules.specs.Table.{keep, any, insert_at, remove_at, is_some, some_and, find, find_key, keys, keys_where, items, change, change_all, keep_keys, number, gather, remake, nth, when, or_before, sum_over, concat, up, member, without, next_of, previous_of, put_after, put_before, last_of, front_of, swap, swap_out, has_next, last_item}
use Rattle.edit.specs.Record.{little, words, length_ok, cut, least, field, part, over, filled, edits, read}
use Rattle.rules.specs.History.{zeros, plus, begin, same_definition, uses_in, all_uses_in, defined, block_of_op, region_of, slot_of, results_of, arguments_of, regions_of, live_operation, live_block, parent, live_region, live_value, live_definition, user, block_at, region_at, uses_of, is_operation, is_block, is_region, region_climb, block_climb, climb, operation_in, block_in, region_in, uses_inside, with_operations, with_blocks, with_uses, bear, births, change_slot, change_results, change_regions, into_block, change_arguments, into_region, end_uses, add_use, take_use, change_values, values_at, put_in, container, emptied, drop_inside, end_inside, region_index, hand_over, place_some, carry_out, remember}
use Rattle.rules.specs.Orders.{no_orders, lists, or_empty, list_at, containers, live_member, live_container, if_same, still_live, new_lists, order, reorder}
use Rattle.rules.specs.State.{start, or_zero, number_at, new_flags, new_types, accept}
use Rattle.edit.specs.Answer.{clean, refuse, found}
use Rattle.rules.specs.Verdict.{is_clean, first_met, target, sight, flat, seen_block, seen_regions, is_terminator, may_lack, ends_well, names_block, leads_to, stray_user, lost_pred, in_block, block_verdict_by, region_verdict_by, too_early, operation_verdict, verdict_on}
use Rattle.rules.specs.Refusal.{member_named, container_named, definition_named, thing_named, named, check, or_else, missing, first_missing, used_outside, definitions_in, direct, meets, is_linked, contained_in, slot_length, values_length, value_used, lacks, numbers, places, live_counts, no_room, mark_tests, from_state, refusal_of}
use Rattle.rules.specs.Step.{definition_number, taken, answer, perform, obey, step_cut, step}
use Rattle.rules.specs.Script.{ended_with, after_reply, turn, run_by, run}
use Rattle.rules.specs.Listing.{text, digits, num, nums, or_none, pairs, line_end, edit_line, edit_lines, store_line, op_lines, block_lines, region_lines, value_lines, listing, program_capacities, printed}
use Rattle.rules.specs.Calls.{bytes_of, left_by, answers_to, after, all_answers}
use Rattle.rules.specs.Told.{accepted, note, tell_cut, tell, recall, told, told_orders, gives, born, use_at, ended_uses, erased, ends_use, ends_operation, ends_block, ended, lives, use_lives, operation_lives, block_lives, is_use_of, placing, placed_at}

-- what a proof by computation unfolds: name this one, and all of specs/ computes
unfoldable pub computing : Unit {0}
unfolding keep any insert_at remove_at is_some some_and find find_key keys keys_where items change change_all keep_keys number gather remake nth when or_before sum_over concat up member without next_of previous_of put_after put_before last_of front_of swap swap_out has_next last_item little words length_ok cut least field part over filled edits read zeros plus begin same_definition uses_in all_uses_in defined block_of_op region_of slot_of results_of arguments_of regions_of live_operation live_block parent live_region live_value live_definition user block_at region_at uses_of is_operation is_block is_region region_climb block_climb climb operation_in block_in region_in uses_inside with_operations with_blocks with_uses bear births change_slot change_results change_regions into_block change_arguments into_region end_uses add_use take_use change_values values_at put_in container emptied drop_inside end_inside region_index hand_over place_some carry_out remember no_orders lists or_empty list_at containers live_member live_container if_same still_live new_lists order reorder start or_zero number_at new_flags new_types accept clean refuse found is_clean first_met target sight flat seen_block seen_regions is_terminator may_lack ends_well names_block leads_to stray_user lost_pred in_block block_verdict_by region_verdict_by too_early operation_verdict verdict_on member_named container_named definition_named thing_named named check or_else missing first_missing used_outside definitions_in direct meets is_linked contained_in slot_length values_length value_used lacks numbers places live_counts no_room mark_tests from_state refusal_of definition_number taken answer perform obey step_cut step ended_with after_reply turn run_by run digits num nums or_none pairs line_end edit_line edit_lines store_line op_lines block_lines region_lines value_lines listing program_capacities printed bytes_of left_by answers_to after all_answers accepted note tell_cut tell recall told told_orders gives born use_at ended_uses erased ends_use ends_operation ends_block ended lives use_lives operation_lives block_lives is_use_of placing placed_at
computing = tt

-- numbers as 32-bit words, little-endian
unfoldable pub le32 : List ℕ → List ℕ
le32 [] = []
le32 (x ∷ xs) = (x % 256) ∷ (x / 256 % 256) ∷ (x / 65536 % 256) ∷ (x / 16777216 % 256) ∷ le32 xs

-- a record of a kind and fields, as bytes
unfoldable pub rec : ℕ → List ℕ → List ℕ
rec kind fs = let n : ℕ = 4 + 4 * length fs in (n % 256) ∷ (n / 256) ∷ kind ∷ 0 ∷ le32 fs

-- are the lists the same?
unfoldable pub same : List ℕ → List ℕ → Bool
same [] [] = true
same [] (y ∷ ys) = false
same (x ∷ xs) [] = false
same (x ∷ xs) (y ∷ ys) = elim (eqb x y) [ true ↦ same xs ys | false ↦ false ]

-- each text and a line feed
unfoldable pub lines : List String → List ℕ
lines [] = []
lines (t ∷ ts) = text t ++ line_end ++ lines ts

-- does the program print what the table says?
unfoldable pub right : List (List ℕ × List ℕ) → Bool
right [] = true
right (e ∷ t) = elim (same (printed e.0) e.1) [ true ↦ right t | false ↦ false ]

-- the table: a script, and what is printed for it
unfoldable pub examples : List (List ℕ × List ℕ)
examples =
    -- two operands of one value, one removed, one pushed; an argument in use stays
    (
      rec 2 (1 ∷ 7 ∷ []) ++ rec 1 (0 ∷ 1 ∷ 2 ∷ 0 ∷ 0 ∷ 7 ∷ 0 ∷ 0 ∷ []) ++ rec 24 (0 ∷ 0 ∷ []) ++ rec 6 (0 ∷ 0 ∷ []) ++ rec 3 (0 ∷ 1 ∷ []) ++ rec 19 (0 ∷ 0 ∷ []),
      lines (
          "edit 0 ok 0 0" ∷
          "edit 1 ok 0 0" ∷
          "edit 2 ok 0 0" ∷
          "edit 3 ok 0 0" ∷
          "edit 4 ok 1 0" ∷
          "edit 5 no 13" ∷
          "store 1 1 0 2 2" ∷
          "op 0 block 0 flags 0 res 1 opd 1:0 2:1 suc reg" ∷
          "block 0 region - arg 0 ops 0 pred" ∷
          "value 0 type 7 uses 1" ∷
          "value 1 type 7 uses 2" ∷
          []),
    ) ∷
    -- empty script
    (
      [],
      lines (
          "store 0 0 0 0 0" ∷
          []),
    ) ∷
    -- index 64 inserted into a list of 63: 12; at 63: accepted; into 64: 19
    (
      rec 2 (1 ∷ 7 ∷ []) ++ rec 1 (0 ∷ 0 ∷ 63 ∷ 0 ∷ 0 ∷ replicate 63 0) ++ rec 4 (0 ∷ 64 ∷ 0 ∷ []) ++ rec 4 (0 ∷ 63 ∷ 0 ∷ []) ++ rec 4 (0 ∷ 64 ∷ 0 ∷ []),
      lines (
          "edit 0 ok 0 0" ∷
          "edit 1 ok 0 0" ∷
          "edit 2 no 12" ∷
          "edit 3 ok 0 0" ∷
          "edit 4 no 19" ∷
          "store 1 1 0 1 64" ∷
          "op 0 block - flags 0 res opd 0:0 1:0 2:0 3:0 4:0 5:0 6:0 7:0 8:0 9:0 10:0 11:0 12:0 13:0 14:0 15:0 16:0 17:0 18:0 19:0 20:0 21:0 22:0 23:0 24:0 25:0 26:0 27:0 28:0 29:0 30:0 31:0 32:0 33:0 34:0 35:0 36:0 37:0 38:0 39:0 40:0 41:0 42:0 43:0 44:0 45:0 46:0 47:0 48:0 49:0 50:0 51:0 52:0 53:0 54:0 55:0 56:0 57:0 58:0 59:0 60:0 61:0 62:0 63:0 suc reg" ∷
          "block 0 region - arg 0 ops pred" ∷
          "value 0 type 7 uses 0 1 2 3 4 5 6 7 8 9 10 11 12 13 14 15 16 17 18 19 20 21 22 23 24 25 26 27 28 29 30 31 32 33 34 35 36 37 38 39 40 41 42 43 44 45 46 47 48 49 50 51 52 53 54 55 56 57 58 59 60 61 62 63" ∷
          []),
    ) ∷
    -- own result pushed as operand, then erase: accepted, B = 1
    (
      rec 1 (0 ∷ 1 ∷ 0 ∷ 0 ∷ 0 ∷ 7 ∷ []) ++ rec 3 (0 ∷ 0 ∷ []) ++ rec 39 (0 ∷ []),
      lines (
          "edit 0 ok 0 0" ∷
          "edit 1 ok 0 0" ∷
          "edit 2 ok 1 1" ∷
          "store 0 0 0 0 0" ∷
          []),
    ) ∷
    -- insert after itself, unlinked: 16; linked: 15
    (
      rec 2 (0 ∷ []) ++ rec 1 (0 ∷ 0 ∷ 0 ∷ 0 ∷ 0 ∷ []) ++ rec 21 (0 ∷ 0 ∷ []) ++ rec 24 (0 ∷ 0 ∷ []) ++ rec 21 (0 ∷ 0 ∷ []),
      lines (
          "edit 0 ok 0 0" ∷
          "edit 1 ok 0 0" ∷
          "edit 2 no 16" ∷
          "edit 3 ok 0 0" ∷
          "edit 4 no 15" ∷
          "store 1 1 0 0 0" ∷
          "op 0 block 0 flags 0 res opd suc reg" ∷
          "block 0 region - arg ops 0 pred" ∷
          []),
    ) ∷
    -- regions 0, 1, 2, move 0 away: 2, 1
    (
      rec 1 (0 ∷ 0 ∷ 0 ∷ 0 ∷ 3 ∷ []) ++ rec 1 (0 ∷ 0 ∷ 0 ∷ 0 ∷ 0 ∷ []) ++ rec 31 (0 ∷ 1 ∷ []),
      lines (
          "edit 0 ok 0 0" ∷
          "edit 1 ok 1 0" ∷
          "edit 2 ok 0 0" ∷
          "store 2 0 3 0 0" ∷
          "op 0 block - flags 0 res opd suc reg 2 1" ∷
          "op 1 block - flags 0 res opd suc reg 0" ∷
          "region 0 op 1 blocks" ∷
          "region 1 op 0 blocks" ∷
          "region 2 op 0 blocks" ∷
          []),
    ) ∷
    -- inner result used outside, outer erased: 14
    (
      rec 1 (0 ∷ 0 ∷ 0 ∷ 0 ∷ 1 ∷ []) ++ rec 2 (0 ∷ []) ++ rec 29 (0 ∷ 0 ∷ []) ++ rec 1 (0 ∷ 1 ∷ 0 ∷ 0 ∷ 0 ∷ 5 ∷ []) ++ rec 24 (1 ∷ 0 ∷ []) ++ rec 1 (0 ∷ 0 ∷ 1 ∷ 0 ∷ 0 ∷ 0 ∷ []) ++ rec 39 (0 ∷ []),
      lines (
          "edit 0 ok 0 0" ∷
          "edit 1 ok 0 0" ∷
          "edit 2 ok 0 0" ∷
          "edit 3 ok 1 0" ∷
          "edit 4 ok 0 0" ∷
          "edit 5 ok 2 0" ∷
          "edit 6 no 14" ∷
          "store 3 1 1 1 1" ∷
          "op 0 block - flags 0 res opd suc reg 0" ∷
          "op 1 block 0 flags 0 res 0 opd suc reg" ∷
          "op 2 block - flags 0 res opd 0:0 suc reg" ∷
          "block 0 region 0 arg ops 1 pred" ∷
          "region 0 op 0 blocks 0" ∷
          "value 0 type 5 uses 0" ∷
          []),
    ) ∷
    -- a moved use keeps its number
    (
      rec 2 (2 ∷ 7 ∷ 7 ∷ []) ++ rec 1 (0 ∷ 0 ∷ 1 ∷ 0 ∷ 0 ∷ 0 ∷ []) ++ rec 32 (0 ∷ 0 ∷ 1 ∷ []),
      lines (
          "edit 0 ok 0 0" ∷
          "edit 1 ok 0 0" ∷
          "edit 2 ok 0 0" ∷
          "store 1 1 0 2 1" ∷
          "op 0 block - flags 0 res opd 0:1 suc reg" ∷
          "block 0 region - arg 0 1 ops pred" ∷
          "value 0 type 7 uses" ∷
          "value 1 type 7 uses 0" ∷
          []),
    ) ∷
    -- a block named twice by one operation has two uses, and both are retargeted
    (
      rec 2 (0 ∷ []) ++ rec 2 (0 ∷ []) ++ rec 1 (1 ∷ 0 ∷ 0 ∷ 2 ∷ 0 ∷ 0 ∷ 0 ∷ []) ++ rec 24 (0 ∷ 1 ∷ []) ++ rec 35 (0 ∷ 1 ∷ 1 ∷ []),
      lines (
          "edit 0 ok 0 0" ∷
          "edit 1 ok 1 0" ∷
          "edit 2 ok 0 0" ∷
          "edit 3 ok 0 0" ∷
          "edit 4 ok 0 0" ∷
          "store 1 2 0 0 2" ∷
          "op 0 block 1 flags 1 res opd suc 0:1 1:1 reg" ∷
          "block 0 region - arg ops pred" ∷
          "block 1 region - arg ops 0 pred 0 1" ∷
          []),
    ) ∷
    -- a user in no block is met before a predecessor that does not lead here: 18, not verdict 4; linked, it is verdict 4
    (
      rec 1 (2 ∷ 0 ∷ 0 ∷ 0 ∷ 1 ∷ []) ++ rec 2 (0 ∷ []) ++ rec 29 (0 ∷ 0 ∷ []) ++ rec 1 (0 ∷ 0 ∷ 0 ∷ 1 ∷ 0 ∷ 0 ∷ []) ++ rec 43 (0 ∷ []) ++ rec 24 (1 ∷ 0 ∷ []) ++ rec 43 (0 ∷ []),
      lines (
          "edit 0 ok 0 0" ∷
          "edit 1 ok 0 0" ∷
          "edit 2 ok 0 0" ∷
          "edit 3 ok 1 0" ∷
          "edit 4 no 18" ∷
          "edit 5 ok 0 0" ∷
          "edit 6 ok 4 0" ∷
          "store 2 1 1 0 1" ∷
          "op 0 block - flags 2 res opd suc reg 0" ∷
          "op 1 block 0 flags 0 res opd suc 0:0 reg" ∷
          "block 0 region 0 arg ops 1 pred 0" ∷
          "region 0 op 0 blocks 0" ∷
          []),
    ) ∷
    []

-- every row is right, by computation
pub examples_right : T (right examples)
unfolding computing le32 rec same lines right examples
examples_right = tt

-- 21, which no script reaches: a store whose next use is the last number there is
unfoldable pub nearly_spent : State
nearly_spent =
    let s : State = (run 9 (start program_capacities) (rec 2 (1 ∷ 7 ∷ []) ++ rec 1 (0 ∷ 0 ∷ 0 ∷ 0 ∷ 0 ∷ []))).state in
    record {
      history = bear (record { operations = 1; blocks = 1; regions = 0; values = 1; uses = 4294967294 }) s.history;
      orders = s.orders;
      flags = s.flags;
      types = s.types;
      capacities = s.capacities;
    }

-- the refusals of the answers
unfoldable pub refusals : List Reply → List ℕ
refusals [] = []
refusals (r ∷ rs) = r.refusal ∷ refusals rs

-- push: accepted; push: 21; replace: 21; remove: accepted; insert: 21
pub last_number : T (same (refusals (run 9 nearly_spent (rec 3 (0 ∷ 0 ∷ []) ++ rec 3 (0 ∷ 0 ∷ []) ++ rec 5 (0 ∷ 0 ∷ 0 ∷ []) ++ rec 6 (0 ∷ 0 ∷ []) ++ rec 4 (0 ∷ 0 ∷ 0 ∷ []))).answers) (0 ∷ 21 ∷ 21 ∷ 0 ∷ 21 ∷ []))
unfolding computing le32 rec same nearly_spent refusals
last_number = tt
