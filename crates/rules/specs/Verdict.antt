-- Local verdicts, kinds 42 to 44 (corner: verdicts), over what a verdict looks at: flags, blocks, regions, successors and orders, but no value,
-- no operand and no type. Assumes nothing: these are definitions.
use Rattle.std.specs.Prelude.{Bool, true, false, not, ◌&&◌, ◌||◌, List, [], ◌∷◌, map, ℕ, zero, suc, ◌%◌, eqb, leb, length}
use Rattle.std.proofs.Math.Option.{Option, none, some}
use Rattle.rules.specs.Table.{Table, any, some_and, find, find_key, items, remake, is_some, member, last_item, has_next}
use Rattle.edit.specs.Record.{Thing, the_operation, the_block, the_region, Definition, of_value, of_block}
use Rattle.rules.specs.History.{Operation, Block}
use Rattle.rules.specs.Orders.{Orders, list_at}
use Rattle.rules.specs.State.{State, number_at}
use Rattle.edit.specs.Answer.{Reply, clean, refuse, found}

-- neither a refusal nor a verdict
unfoldable pub is_clean : Reply → Bool
is_clean r = eqb r.refusal 0 && eqb r.a 0

-- the first reply over the list that is not clean
unfoldable pub first_met : (ℕ → Reply) → List ℕ → Reply
first_met f [] = clean
first_met f (x ∷ xs) = let r : Reply = f x in elim (is_clean r) [ true ↦ first_met f xs | false ↦ r ]

-- ---- what a verdict sees

-- of an operation: its flags, its block, its regions, and the blocks that its successors name, in order
pub record Seen : Type 0 where
  pub flags : ℕ
  pub block : Option ℕ
  pub regions : List ℕ
  pub targets : List ℕ

-- of a store: that, each block's region, and the orders
pub record Sight : Type 0 where
  pub operations : Table Seen
  pub region_over : Table (Option ℕ)
  pub orders : Orders

-- the block of which a use is a use
unfoldable pub target : Option Definition → ℕ
target none = 0
target (some (of_value n)) = 0
target (some (of_block n)) = n

-- what a verdict looks at of a state
unfoldable pub sight : State → Sight
sight s =
    record {
      operations =
          remake (λ n (o : Operation). record { flags = number_at s.flags n; block = o.block; regions = o.regions; targets = map (λ u. target (find s.history.uses u)) o.successors }) s.history.operations;
      region_over = remake (λ n (b : Block). b.region) s.history.blocks;
      orders = s.orders;
    }

-- a region that may be there, of a block that may be there
unfoldable pub flat : Option (Option ℕ) → Option ℕ
flat none = none
flat (some o) = o

-- the block of an operation that may be there
unfoldable pub seen_block : Option Seen → Option ℕ
seen_block none = none
seen_block (some x) = x.block

-- its regions
unfoldable pub seen_regions : Option Seen → List ℕ
seen_regions none = []
seen_regions (some x) = x.regions

-- ---- the verdicts

module _ (v : Sight) where
  -- flags 1 and 3: a terminator
  unfoldable pub is_terminator : ℕ → Bool
  is_terminator o = some_and (find v.operations o) (λ x. eqb (x.flags % 2) 1)

  -- flags 2 and 3: its blocks may lack a terminator
  unfoldable pub may_lack : ℕ → Bool
  may_lack o = some_and (find v.operations o) (λ x. leb 2 x.flags)

  -- is the last operation of the block a terminator?
  unfoldable pub ends_well : ℕ → Bool
  ends_well b = some_and (last_item (list_at v.orders.ops_of b)) is_terminator

  -- does a successor of operation o name block b?
  unfoldable pub names_block : ℕ → ℕ → Bool
  names_block b o = some_and (find v.operations o) (λ x. member b x.targets)

  -- does the predecessor p end in a terminator that names b?
  unfoldable pub leads_to : ℕ → ℕ → Bool
  leads_to b p = some_and (last_item (list_at v.orders.ops_of p)) (λ o. is_terminator o && names_block b o)

  -- 18: a user of the block is in no block
  unfoldable pub stray_user : ℕ → Bool
  stray_user b = any (λ (x : Seen). member b x.targets && not (is_some x.block)) (items v.operations)

  -- 4: a predecessor whose last operation is no terminator, or names b by no successor (not necessarily by this use)
  unfoldable pub lost_pred : ℕ → Bool
  lost_pred b = any (λ (x : Seen). member b x.targets && not (some_and x.block (leads_to b))) (items v.operations)

  module _ (verdict-of-op : ℕ → Reply) where
    -- a block: 1 in no region; 2 no terminator, unless the parent operation's blocks may lack one; 18; 4; then its operations in order
    unfoldable pub in_block : ℕ → Option ℕ → Reply
    in_block b none = found 1 b
    in_block b (some r) =
        elim (some_and (find_key (λ (x : Seen). member r x.regions) v.operations) may_lack || ends_well b) [
          | false ↦ found 2 b
          | true ↦ elim (stray_user b) [
            | true ↦ refuse 18
            | false ↦ elim (lost_pred b) [
              | true ↦ found 4 b
              | false ↦ first_met verdict-of-op (list_at v.orders.ops_of b)
            ]
          ]
        ]

    -- a block, by its region
    unfoldable pub block_verdict_by : ℕ → Reply
    block_verdict_by b = in_block b (flat (find v.region_over b))

    -- a region: its blocks in order
    unfoldable pub region_verdict_by : ℕ → Reply
    region_verdict_by r = first_met block_verdict_by (list_at v.orders.blocks_of r)

  -- 3: a terminator with a next operation
  unfoldable pub too_early : ℕ → Reply
  too_early o =
      elim (is_terminator o && some_and (seen_block (find v.operations o)) (λ b. has_next o (list_at v.orders.ops_of b))) [
        | true ↦ found 3 o
        | false ↦ clean
      ]

  -- an operation: its regions in order, then 3; depth ends the descent, and the number of live operations is enough
  unfoldable pub operation_verdict : ℕ → ℕ → Reply
  operation_verdict zero o = clean
  operation_verdict (suc depth) o =
      let r : Reply = first_met (region_verdict_by (operation_verdict depth)) (seen_regions (find v.operations o)) in
      elim (is_clean r) [ true ↦ too_early o | false ↦ r ]

  -- kinds 42, 43, 44: the first verdict met, or 18, or a clean reply
  unfoldable pub verdict_on : Thing → Reply
  verdict_on (the_operation o) = operation_verdict (length v.operations) o
  verdict_on (the_block b) = block_verdict_by (operation_verdict (length v.operations)) b
  verdict_on (the_region r) = region_verdict_by (operation_verdict (length v.operations)) r
