-- The table of edits by kind: each line computes. And the edit of each kind that the code names. Assumes nothing.
use mathlib.Core.Path.{◌≡◌, refl}
use mathlib.Core.List.{List}
use Prim.Native.Nat.{ℕ, ◌+◌}
use lib.ListN.{get_or, drop}
use Rattle.edit.specs.Record as spec
use Rattle.edit.specs.Record.{operand, successor, operation, block, the_operation, the_block, the_region, field, edits, part, new_operation, new_block, push_use, insert_use, replace_use, remove_use, pop_use, push_value, insert_value, remove_value, pop_value, link_after, link_before, link_front, link_back, unlink, move_region, move_use, replace_some, retarget_some, drop_uses, erase_operation, erase_block, erase_region, verdict}
use Rattle.edit.specs.Kinds.{slot_of, member_of, thing_of}
use Rattle.edit.specs.declared.Slot.{Slot}
use Rattle.edit.specs.declared.Member.{Member}
use Rattle.edit.specs.declared.Member.TheVariants as members
use Rattle.edit.specs.declared.Nested.{Nested}
use Rattle.edit.specs.declared.Nested.TheVariants as nested
use Rattle.edit.specs.declared.Kind.TheVariants.{NewOperation, NewBlock, PushUse, InsertUse, ReplaceUse, RemoveUse, PopUse, PushValue, InsertValue, RemoveValue, PopValue, LinkAfter, LinkBefore, LinkFront, LinkBack, Unlink, MoveRegion, MoveUse, ReplaceSome, RetargetSome, DropUses, Erase, EraseRegion, Verdict}
use Rattle.edit.specs.Taken.{edit_of, edit_by}
use Rattle.edit.specs.ByKind.{Kinds}

for_slots : (P : spec.Slot → Type 0) → P operand → P successor → (s : spec.Slot) → P s
for_slots P a b operand = a
for_slots P a b successor = b

for_members : (P : spec.Member → Type 0) → P operation → P block → (m : spec.Member) → P m
for_members P a b operation = a
for_members P a b block = b

pub kinds : (fs : List ℕ) → Kinds fs
unfolding edit_of edits field
kinds fs = record {
  operation_new = refl;
  block_new = refl;
  use_push = for_slots _ refl refl;
  use_insert = for_slots _ refl refl;
  use_replace = for_slots _ refl refl;
  use_remove = for_slots _ refl refl;
  use_pop = for_slots _ refl refl;
  value_push = for_members _ refl refl;
  value_insert = for_members _ refl refl;
  value_remove = for_members _ refl refl;
  value_pop = for_members _ refl refl;
  after_mark = for_members _ refl refl;
  before_mark = for_members _ refl refl;
  at_front = for_members _ refl refl;
  at_back = for_members _ refl refl;
  taken_out = for_members _ refl refl;
  region_move = refl;
  use_move = for_slots _ refl refl;
  some_uses = refl;
  some_predecessors = refl;
  operation_drop = refl;
  block_drop = refl;
  region_drop = refl;
  operation_erase = refl;
  block_erase = refl;
  region_erase = refl;
  operation_verdict = refl;
  block_verdict = refl;
  region_verdict = refl;
}

-- ---- the edit of each kind that the code names
module _ (fs : List ℕ) where
  pub by_new_operation : edit_by NewOperation fs ≡ new_operation (get_or fs 0 0) (part fs 5 (get_or fs 1 0)) (part fs (5 + get_or fs 1 0) (get_or fs 2 0)) (part fs (5 + get_or fs 1 0 + get_or fs 2 0) (get_or fs 3 0)) (get_or fs 4 0)
  unfolding edit_by
  by_new_operation = (kinds fs).operation_new

  pub by_new_block : edit_by NewBlock fs ≡ new_block (part fs 1 (get_or fs 0 0))
  unfolding edit_by
  by_new_block = (kinds fs).block_new

  module _ (s : Slot) where
    pub by_push_use : edit_by (PushUse s) fs ≡ push_use (slot_of s) (get_or fs 0 0) (get_or fs 1 0)
    unfolding edit_by
    by_push_use = (kinds fs).use_push (slot_of s)

    pub by_insert_use : edit_by (InsertUse s) fs ≡ insert_use (slot_of s) (get_or fs 0 0) (get_or fs 1 0) (get_or fs 2 0)
    unfolding edit_by
    by_insert_use = (kinds fs).use_insert (slot_of s)

    pub by_replace_use : edit_by (ReplaceUse s) fs ≡ replace_use (slot_of s) (get_or fs 0 0) (get_or fs 1 0) (get_or fs 2 0)
    unfolding edit_by
    by_replace_use = (kinds fs).use_replace (slot_of s)

    pub by_remove_use : edit_by (RemoveUse s) fs ≡ remove_use (slot_of s) (get_or fs 0 0) (get_or fs 1 0)
    unfolding edit_by
    by_remove_use = (kinds fs).use_remove (slot_of s)

    pub by_pop_use : edit_by (PopUse s) fs ≡ pop_use (slot_of s) (get_or fs 0 0)
    unfolding edit_by
    by_pop_use = (kinds fs).use_pop (slot_of s)

    pub by_move_use : edit_by (MoveUse s) fs ≡ move_use (slot_of s) (get_or fs 0 0) (get_or fs 1 0) (get_or fs 2 0)
    unfolding edit_by
    by_move_use = (kinds fs).use_move (slot_of s)

  module _ (m : Member) where
    pub by_push_value : edit_by (PushValue m) fs ≡ push_value (member_of m) (get_or fs 0 0) (get_or fs 1 0)
    unfolding edit_by
    by_push_value = (kinds fs).value_push (member_of m)

    pub by_insert_value : edit_by (InsertValue m) fs ≡ insert_value (member_of m) (get_or fs 0 0) (get_or fs 1 0) (get_or fs 2 0)
    unfolding edit_by
    by_insert_value = (kinds fs).value_insert (member_of m)

    pub by_remove_value : edit_by (RemoveValue m) fs ≡ remove_value (member_of m) (get_or fs 0 0) (get_or fs 1 0)
    unfolding edit_by
    by_remove_value = (kinds fs).value_remove (member_of m)

    pub by_pop_value : edit_by (PopValue m) fs ≡ pop_value (member_of m) (get_or fs 0 0)
    unfolding edit_by
    by_pop_value = (kinds fs).value_pop (member_of m)

    pub by_link_after : edit_by (LinkAfter m) fs ≡ link_after (member_of m) (get_or fs 0 0) (get_or fs 1 0)
    unfolding edit_by
    by_link_after = (kinds fs).after_mark (member_of m)

    pub by_link_before : edit_by (LinkBefore m) fs ≡ link_before (member_of m) (get_or fs 0 0) (get_or fs 1 0)
    unfolding edit_by
    by_link_before = (kinds fs).before_mark (member_of m)

    pub by_link_front : edit_by (LinkFront m) fs ≡ link_front (member_of m) (get_or fs 0 0) (get_or fs 1 0)
    unfolding edit_by
    by_link_front = (kinds fs).at_front (member_of m)

    pub by_link_back : edit_by (LinkBack m) fs ≡ link_back (member_of m) (get_or fs 0 0) (get_or fs 1 0)
    unfolding edit_by
    by_link_back = (kinds fs).at_back (member_of m)

    pub by_unlink : edit_by (Unlink m) fs ≡ unlink (member_of m) (get_or fs 0 0)
    unfolding edit_by
    by_unlink = (kinds fs).taken_out (member_of m)

  pub by_move_region : edit_by MoveRegion fs ≡ move_region (get_or fs 0 0) (get_or fs 1 0)
  unfolding edit_by
  by_move_region = (kinds fs).region_move

  pub by_replace_some : edit_by ReplaceSome fs ≡ replace_some (get_or fs 0 0) (get_or fs 1 0) (drop 2 fs)
  unfolding edit_by
  by_replace_some = (kinds fs).some_uses

  pub by_retarget_some : edit_by RetargetSome fs ≡ retarget_some (get_or fs 0 0) (get_or fs 1 0) (drop 2 fs)
  unfolding edit_by
  by_retarget_some = (kinds fs).some_predecessors

  pub by_drop_uses : (n : Nested) → edit_by (DropUses n) fs ≡ drop_uses (thing_of n (get_or fs 0 0))
  unfolding edit_by
  by_drop_uses nested.Operation = (kinds fs).operation_drop
  by_drop_uses nested.Block = (kinds fs).block_drop
  by_drop_uses nested.Region = (kinds fs).region_drop

  pub by_erase_operation : edit_by (Erase members.Operation) fs ≡ erase_operation (get_or fs 0 0)
  unfolding edit_by
  by_erase_operation = (kinds fs).operation_erase

  pub by_erase_block : edit_by (Erase members.Block) fs ≡ erase_block (get_or fs 0 0)
  unfolding edit_by
  by_erase_block = (kinds fs).block_erase

  pub by_erase_region : edit_by EraseRegion fs ≡ erase_region (get_or fs 0 0) (get_or fs 1 0)
  unfolding edit_by
  by_erase_region = (kinds fs).region_erase

  pub by_verdict : (n : Nested) → edit_by (Verdict n) fs ≡ verdict (thing_of n (get_or fs 0 0))
  unfolding edit_by
  by_verdict nested.Operation = (kinds fs).operation_verdict
  by_verdict nested.Block = (kinds fs).block_verdict
  by_verdict nested.Region = (kinds fs).region_verdict
