-- The edit of each kind in terms of the record's fields, one line to a shape: operands and successors, results and
-- arguments, operations and blocks differ in a parameter. Assumes nothing: these are definitions.
use Rattle.std.specs.Prelude.{◌≡◌, List, ℕ, ◌+◌, get_or, drop}
use Rattle.edit.specs.Record.{Slot, Member, the_operation, the_block, the_region, new_operation, new_block, push_use, insert_use, replace_use, remove_use, pop_use, push_value, insert_value, remove_value, pop_value, link_after, link_before, link_front, link_back, unlink, move_region, move_use, replace_some, retarget_some, drop_uses, erase_operation, erase_block, erase_region, verdict, part}
use Rattle.edit.specs.Kinds.{use_kinds, value_kinds, link_kinds, move_kind}
use Rattle.edit.specs.Taken.{edit_of}

module _ (fs : List ℕ) where
  abbrev f₀ : ℕ
  f₀ = get_or fs 0 0

  abbrev f₁ : ℕ
  f₁ = get_or fs 1 0

  abbrev f₂ : ℕ
  f₂ = get_or fs 2 0

  abbrev f₃ : ℕ
  f₃ = get_or fs 3 0

  abbrev f₄ : ℕ
  f₄ = get_or fs 4 0

  pub record Kinds : Type 0 where
    pub operation_new : edit_of 1 fs ≡ new_operation f₀ (part fs 5 f₁) (part fs (5 + f₁) f₂) (part fs (5 + f₁ + f₂) f₃) f₄
    pub block_new : edit_of 2 fs ≡ new_block (part fs 1 f₀)
    pub use_push : (s : Slot) → edit_of (use_kinds s) fs ≡ push_use s f₀ f₁
    pub use_insert : (s : Slot) → edit_of (use_kinds s + 1) fs ≡ insert_use s f₀ f₁ f₂
    pub use_replace : (s : Slot) → edit_of (use_kinds s + 2) fs ≡ replace_use s f₀ f₁ f₂
    pub use_remove : (s : Slot) → edit_of (use_kinds s + 3) fs ≡ remove_use s f₀ f₁
    pub use_pop : (s : Slot) → edit_of (use_kinds s + 4) fs ≡ pop_use s f₀
    pub value_push : (m : Member) → edit_of (value_kinds m) fs ≡ push_value m f₀ f₁
    pub value_insert : (m : Member) → edit_of (value_kinds m + 1) fs ≡ insert_value m f₀ f₁ f₂
    pub value_remove : (m : Member) → edit_of (value_kinds m + 2) fs ≡ remove_value m f₀ f₁
    pub value_pop : (m : Member) → edit_of (value_kinds m + 3) fs ≡ pop_value m f₀
    pub after_mark : (m : Member) → edit_of (link_kinds m) fs ≡ link_after m f₀ f₁
    pub before_mark : (m : Member) → edit_of (link_kinds m + 1) fs ≡ link_before m f₀ f₁
    pub at_front : (m : Member) → edit_of (link_kinds m + 2) fs ≡ link_front m f₀ f₁
    pub at_back : (m : Member) → edit_of (link_kinds m + 3) fs ≡ link_back m f₀ f₁
    pub taken_out : (m : Member) → edit_of (link_kinds m + 4) fs ≡ unlink m f₀
    pub region_move : edit_of 31 fs ≡ move_region f₀ f₁
    pub use_move : (s : Slot) → edit_of (move_kind s) fs ≡ move_use s f₀ f₁ f₂
    pub some_uses : edit_of 34 fs ≡ replace_some f₀ f₁ (drop 2 fs)
    pub some_predecessors : edit_of 35 fs ≡ retarget_some f₀ f₁ (drop 2 fs)
    pub operation_drop : edit_of 36 fs ≡ drop_uses (the_operation f₀)
    pub block_drop : edit_of 37 fs ≡ drop_uses (the_block f₀)
    pub region_drop : edit_of 38 fs ≡ drop_uses (the_region f₀)
    pub operation_erase : edit_of 39 fs ≡ erase_operation f₀
    pub block_erase : edit_of 40 fs ≡ erase_block f₀
    pub region_erase : edit_of 41 fs ≡ erase_region f₀ f₁
    pub operation_verdict : edit_of 42 fs ≡ verdict (the_operation f₀)
    pub block_verdict : edit_of 43 fs ≡ verdict (the_block f₀)
    pub region_verdict : edit_of 44 fs ≡ verdict (the_region f₀)
