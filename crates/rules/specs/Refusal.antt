-- Refusals from the state: 7 to 10 over the fields from left to right, then 11 to 21 rising; the first that holds is the reply.
-- (6 and 22 belong to the buffers: docs/FORMAT.md.) Assumes nothing: these are definitions.
use Rattle.std.specs.Prelude.{Bool, true, false, cond, ◌||◌, List, [], ◌∷◌, ◌++◌, map, ℕ, ◌-◌, eqb, leb, ltb, length, get_or}
use Rattle.std.proofs.Math.Option.{Option, none, some}
use Rattle.rules.specs.Table.{keep, any, is_some, some_and, find, items, concat, gather}
use Rattle.edit.specs.Record.{Slot, operand, successor, Member, operation, block, Thing, the_operation, the_block, the_region, Definition, of_value, of_block, Edit, new_operation, new_block, push_use, insert_use, replace_use, remove_use, pop_use, push_value, insert_value, remove_value, pop_value, link_after, link_before, link_front, link_back, unlink, move_region, move_use, replace_some, retarget_some, drop_uses, erase_operation, erase_block, erase_region, verdict}
use Rattle.rules.specs.History.{Five, zeros, Operation, Block, History, live_operation, live_block, live_region, live_value, parent, uses_of, slot_of, regions_of, same_definition, defined, operation_in, block_in, region_in, births, values_at, container, region_index, drop_inside}
use Rattle.rules.specs.State.{State}
use Rattle.rules.specs.Verdict.{sight, verdict_on, stray_user}

-- a number with its kind, as a field gives it
pub data Name : Type 0 where
  operation_named block_named region_named value_named : ℕ → Name

-- the first field of 13 to 30: an operation, or a block
unfoldable pub member_named : Member → ℕ → Name
member_named operation n = operation_named n
member_named block n = block_named n

-- the second field of 23, 24, 28 and 29: a block, or a region
unfoldable pub container_named : Member → ℕ → Name
container_named operation n = block_named n
container_named block n = region_named n

-- the value of an operand field, or the block of a successor field
unfoldable pub definition_named : Slot → ℕ → Name
definition_named operand n = value_named n
definition_named successor n = block_named n

-- the field of 36 to 38 and 42 to 44
unfoldable pub thing_named : Thing → Name
thing_named (the_operation n) = operation_named n
thing_named (the_block n) = block_named n
thing_named (the_region n) = region_named n

-- the names in an edit's fields, from left to right. Index, flags, count, type and use fields name nothing here, nor do the listed numbers of 34
-- and 35
unfoldable pub named : Edit → List Name
named (new_operation fl ts vs bs g) = map value_named vs ++ map block_named bs
named (new_block ts) = []
named (push_use sl o d) = operation_named o ∷ definition_named sl d ∷ []
named (insert_use sl o i d) = operation_named o ∷ definition_named sl d ∷ []
named (replace_use sl o i d) = operation_named o ∷ definition_named sl d ∷ []
named (remove_use sl o i) = operation_named o ∷ []
named (pop_use sl o) = operation_named o ∷ []
named (push_value m o ty) = member_named m o ∷ []
named (insert_value m o i ty) = member_named m o ∷ []
named (remove_value m o i) = member_named m o ∷ []
named (pop_value m o) = member_named m o ∷ []
named (link_after m x k) = member_named m x ∷ member_named m k ∷ []
named (link_before m x k) = member_named m x ∷ member_named m k ∷ []
named (link_front m x c) = member_named m x ∷ container_named m c ∷ []
named (link_back m x c) = member_named m x ∷ container_named m c ∷ []
named (unlink m x) = member_named m x ∷ []
named (move_region r o) = region_named r ∷ operation_named o ∷ []
named (move_use sl a u b) = definition_named sl a ∷ definition_named sl b ∷ []
named (replace_some a b us) = value_named a ∷ value_named b ∷ []
named (retarget_some a b ps) = block_named a ∷ block_named b ∷ []
named (drop_uses t) = thing_named t ∷ []
named (erase_operation n) = operation_named n ∷ []
named (erase_block n) = block_named n ∷ []
named (erase_region o i) = operation_named o ∷ []
named (verdict t) = thing_named t ∷ []

-- n if the test holds, and else what follows
unfoldable pub check : Bool → ℕ → ℕ → ℕ
check true n rest = n
check false n rest = rest

-- the first of the two that is not 0
unfoldable pub or_else : ℕ → ℕ → ℕ
or_else m r = cond (eqb m 0) r m

module _ (h : History) where
  -- 7, 8, 9, 10: no live operation, block, region, value of this number
  unfoldable pub missing : Name → ℕ
  missing (operation_named n) = check (live_operation h n) 0 7
  missing (block_named n) = check (live_block h n) 0 8
  missing (region_named n) = check (live_region h n) 0 9
  missing (value_named n) = check (live_value h n) 0 10

  -- the first that is not live
  unfoldable pub first_missing : List Name → ℕ
  first_missing [] = 0
  first_missing (x ∷ xs) = let r = first_missing xs in or_else (missing x) r

  -- what is used from outside t: by the uses that are left when all in t are dropped
  unfoldable pub used_outside : Thing → List Definition
  used_outside t = items (drop_inside t h).uses

  -- the definitions in t: its blocks, their arguments, and its operations' results
  unfoldable pub definitions_in : Thing → List Definition
  definitions_in t =
      gather (block_in h t) (λ n (b : Block). of_block n ∷ map of_value b.arguments) h.blocks
      ++ gather (operation_in h t) (λ n (o : Operation). map of_value o.results) h.operations

  -- those of 13 for a block: itself, its arguments and its own operations' results
  unfoldable pub direct : ℕ → List Definition
  direct b = of_block b ∷ map of_value (values_at block b h) ++ concat (map (λ (o : Operation). map of_value o.results) (keep (λ (o : Operation). some_and o.block (eqb b)) (items h.operations)))

  -- is one of the definitions among those used?
  unfoldable pub meets : List Definition → List Definition → Bool
  meets [] ds = false
  meets (x ∷ xs) ds = let r = meets xs ds in any (same_definition x) ds || r

  -- is it in a list?
  unfoldable pub is_linked : Member → ℕ → Bool
  is_linked m x = is_some (container m h x)

  -- 17: the container c lies in the thing x, or is it
  unfoldable pub contained_in : Member → ℕ → ℕ → Bool
  contained_in operation x c = block_in h (the_operation x) c
  contained_in block x c = region_in h (the_block x) c

  -- how many operands or successors operation o has
  unfoldable pub slot_length : Slot → ℕ → ℕ
  slot_length sl o = length (slot_of sl (find h.operations o))

  -- how many results an operation, or arguments a block has
  unfoldable pub values_length : Member → ℕ → ℕ
  values_length m o = length (values_at m o h)

  -- 13 for 15, 16, 19 and 20: the value at index i has a use, its own operation's too
  unfoldable pub value_used : Member → ℕ → ℕ → Bool
  value_used m o i = ltb 0 (length (uses_of h (of_value (get_or (values_at m o h) i 0))))

-- of some kind, less is left than wanted
unfoldable pub lacks : Five → Five → Five → Bool
lacks cap live want =
    ltb (cap.operations - live.operations) want.operations
    || ltb (cap.blocks - live.blocks) want.blocks
    || ltb (cap.regions - live.regions) want.regions
    || ltb (cap.values - live.values) want.values
    || ltb (cap.uses - live.uses) want.uses

-- birth numbers go from 0 to 4,294,967,294
unfoldable pub numbers : Five
numbers = record { operations = 4294967295; blocks = 4294967295; regions = 4294967295; values = 4294967295; uses = 4294967295 }

-- the places that an edit wants: its births, but none for 5 and 10, where the new use takes the old one's
unfoldable pub places : Edit → Five
places (new_operation fl ts vs bs g) = births (new_operation fl ts vs bs g)
places (new_block ts) = births (new_block ts)
places (push_use sl o d) = births (push_use sl o d)
places (insert_use sl o i d) = births (insert_use sl o i d)
places (replace_use sl o i d) = zeros
places (remove_use sl o i) = zeros
places (pop_use sl o) = zeros
places (push_value m o ty) = births (push_value m o ty)
places (insert_value m o i ty) = births (insert_value m o i ty)
places (remove_value m o i) = zeros
places (pop_value m o) = zeros
places (link_after m x k) = zeros
places (link_before m x k) = zeros
places (link_front m x c) = zeros
places (link_back m x c) = zeros
places (unlink m x) = zeros
places (move_region r o) = zeros
places (move_use sl a u b) = zeros
places (replace_some a b us) = zeros
places (retarget_some a b ps) = zeros
places (drop_uses t) = zeros
places (erase_operation n) = zeros
places (erase_block n) = zeros
places (erase_region o i) = zeros
places (verdict t) = zeros

module _ (s : State) where
  -- how many of each kind are live
  unfoldable pub live_counts : Five
  live_counts =
      record { operations = length s.history.operations; blocks = length s.history.blocks; regions = length s.orders.blocks_of; values = length s.types; uses = length s.history.uses }

  -- 20: a table lacks the places wanted; 21: too few birth numbers left
  unfoldable pub no_room : Edit → ℕ
  no_room e = check (lacks s.capacities live_counts (places e)) 20 (check (lacks numbers s.history.born (births e)) 21 0)

  -- 16: the mark is not linked; 17: its container lies in the thing to insert
  unfoldable pub mark_tests : Member → ℕ → Option ℕ → ℕ
  mark_tests m x none = 16
  mark_tests m x (some c) = check (contained_in s.history m x c) 17 0

  -- 11 to 21, rising, for each edit:
  -- insert 12 (over the length), 19, 20, 21; push 19, 20, 21; replace 12, 21; remove and pop 12, and 13 for a value;
  -- linking 15, 16, 17; unlinking 16; kind 31 nothing to the present parent, else 17, 19; kinds 32 and 33 nothing where this = other, else 11;
  -- kind 35: 18 for every use of this; erasing 13, 14, and kind 41: 12, 14; verdicts 18
  unfoldable pub from_state : Edit → ℕ
  from_state (new_operation fl ts vs bs g) = no_room (new_operation fl ts vs bs g)
  from_state (new_block ts) = no_room (new_block ts)
  from_state (push_use sl o d) = check (leb 64 (slot_length s.history sl o)) 19 (no_room (push_use sl o d))
  from_state (insert_use sl o i d) =
      check (ltb (slot_length s.history sl o) i) 12 (check (leb 64 (slot_length s.history sl o)) 19 (no_room (insert_use sl o i d)))
  from_state (replace_use sl o i d) = check (leb (slot_length s.history sl o) i) 12 (no_room (replace_use sl o i d))
  from_state (remove_use sl o i) = check (leb (slot_length s.history sl o) i) 12 0
  from_state (pop_use sl o) = check (eqb (slot_length s.history sl o) 0) 12 0
  from_state (push_value m o ty) = check (leb 64 (values_length s.history m o)) 19 (no_room (push_value m o ty))
  from_state (insert_value m o i ty) =
      check (ltb (values_length s.history m o) i) 12 (check (leb 64 (values_length s.history m o)) 19 (no_room (insert_value m o i ty)))
  from_state (remove_value m o i) = check (leb (values_length s.history m o) i) 12 (check (value_used s.history m o i) 13 0)
  from_state (pop_value m o) =
      check (eqb (values_length s.history m o) 0) 12 (check (value_used s.history m o (values_length s.history m o - 1)) 13 0)
  from_state (link_after m x k) = check (is_linked s.history m x) 15 (mark_tests m x (container m s.history k))
  from_state (link_before m x k) = check (is_linked s.history m x) 15 (mark_tests m x (container m s.history k))
  from_state (link_front m x c) = check (is_linked s.history m x) 15 (check (contained_in s.history m x c) 17 0)
  from_state (link_back m x c) = check (is_linked s.history m x) 15 (check (contained_in s.history m x c) 17 0)
  from_state (unlink m x) = check (is_linked s.history m x) 0 16
  from_state (move_region r o) =
      check (some_and (parent s.history r) (eqb o)) 0
      (check (operation_in s.history (the_region r) o) 17
      (check (leb 64 (length (regions_of (find s.history.operations o)))) 19 0))
  from_state (move_use sl a u b) =
      check (eqb a b) 0 (check (some_and (find s.history.uses u) (same_definition (defined sl a))) 0 11)
  from_state (replace_some a b us) = 0
  from_state (retarget_some a b ps) = check (stray_user (sight s) a) 18 0
  from_state (drop_uses t) = 0
  from_state (erase_operation n) =
      let out : List Definition = used_outside s.history (the_operation n) in
      check (meets s.history (map of_value (values_at operation n s.history)) out) 13
      (check (meets s.history (definitions_in s.history (the_operation n)) out) 14 0)
  from_state (erase_block n) =
      let out : List Definition = used_outside s.history (the_block n) in
      check (meets s.history (direct s.history n) out) 13
      (check (meets s.history (definitions_in s.history (the_block n)) out) 14 0)
  from_state (erase_region o i) =
      let t : Thing = the_region (region_index o i s.history) in
      check (leb (length (regions_of (find s.history.operations o))) i) 12
      (check (meets s.history (definitions_in s.history t) (used_outside s.history t)) 14 0)
  from_state (verdict t) = (verdict_on (sight s) t).refusal

  -- the refusal of an edit, or 0
  unfoldable pub refusal_of : Edit → ℕ
  refusal_of e = let r = from_state e in or_else (first_missing s.history (named e)) r
