-- The order of the operations in each block and of the blocks in each region: where 21 to 30 put a thing, and what endings take out.
-- Kept beside the history, by one function for both sorts of list. Assumes nothing: these are definitions.
use Rattle.std.specs.Prelude.{Bool, List, [], ◌∷◌, ◌++◌, ℕ, replicate}
use Rattle.std.proofs.Math.Option.{Option, none, some}
use Rattle.rules.specs.Table.{Table, keep, change, change_all, keep_keys, number, find, without, put_after, put_before}
use Rattle.edit.specs.Record.{Member, operation, block, Edit, new_operation, new_block, push_use, insert_use, replace_use, remove_use, pop_use, push_value, insert_value, remove_value, pop_value, link_after, link_before, link_front, link_back, unlink, move_region, move_use, replace_some, retarget_some, drop_uses, erase_operation, erase_block, erase_region, verdict}
use Rattle.rules.specs.History.{Five, History, births, live_operation, live_block, live_region}

-- by block the operations in it, and by region the blocks in it, each in order
pub record Orders : Type 0 where
  pub ops_of : Table (List ℕ)
  pub blocks_of : Table (List ℕ)

-- no block and no region
unfoldable pub no_orders : Orders
no_orders = record { ops_of = []; blocks_of = [] }

-- the lists in which things of a sort stand
unfoldable pub lists : Member → Orders → Table (List ℕ)
lists operation o = o.ops_of
lists block o = o.blocks_of

-- a list that may be there
unfoldable pub or_empty : Option (List ℕ) → List ℕ
or_empty none = []
or_empty (some xs) = xs

-- the list of a container
unfoldable pub list_at : Table (List ℕ) → ℕ → List ℕ
list_at t n = or_empty (find t n)

-- of five numbers, the one for the containers: blocks hold operations, regions hold blocks
unfoldable pub containers : Member → Five → ℕ
containers operation k = k.blocks
containers block k = k.regions

-- is a thing of this sort live?
unfoldable pub live_member : Member → History → ℕ → Bool
live_member operation h n = live_operation h n
live_member block h n = live_block h n

-- is a container of such things live?
unfoldable pub live_container : Member → History → ℕ → Bool
live_container operation h n = live_block h n
live_container block h n = live_region h n

-- a if the edit is about things of this sort, and else b
unfoldable pub if_same : {A : Type 0} → Member → Member → A → A → A
if_same operation operation a b = a
if_same operation block a b = b
if_same block operation a b = b
if_same block block a b = a

-- what has ended leaves the lists, and its own list goes
unfoldable pub still_live : Member → History → Table (List ℕ) → Table (List ℕ)
still_live m k t = change_all (λ _. keep (live_member m k)) (keep_keys (live_container m k) t)

-- an empty list for each new block or region
unfoldable pub new_lists : Member → Edit → History → Table (List ℕ) → Table (List ℕ)
new_lists m e h t = t ++ number (containers m h.born) (replicate (containers m (births e)) [])

-- the lists of things of the sort m after the edit; h is the history before it, k the one after it
unfoldable pub order : Member → Edit → History → History → Table (List ℕ) → Table (List ℕ)
order m (new_operation fl ts vs bs g) h k t = new_lists m (new_operation fl ts vs bs g) h t
order m (new_block ts) h k t = new_lists m (new_block ts) h t
order m (push_use sl o d) h k t = t
order m (insert_use sl o i d) h k t = t
order m (replace_use sl o i d) h k t = t
order m (remove_use sl o i) h k t = t
order m (pop_use sl o) h k t = t
order m (push_value w o ty) h k t = t
order m (insert_value w o i ty) h k t = t
order m (remove_value w o i) h k t = t
order m (pop_value w o) h k t = t
order m (link_after w x mark) h k t = if_same m w (change_all (λ _. put_after mark x) t) t
order m (link_before w x mark) h k t = if_same m w (change_all (λ _. put_before mark x) t) t
order m (link_front w x c) h k t = if_same m w (change c (λ xs. x ∷ xs) t) t
order m (link_back w x c) h k t = if_same m w (change c (λ xs. xs ++ (x ∷ [])) t) t
order m (unlink w x) h k t = if_same m w (change_all (λ _. without x) t) t
order m (move_region r o) h k t = t
order m (move_use sl a u b) h k t = t
order m (replace_some a b us) h k t = t
order m (retarget_some a b ps) h k t = t
order m (drop_uses th) h k t = t
order m (erase_operation n) h k t = still_live m k t
order m (erase_block n) h k t = still_live m k t
order m (erase_region o i) h k t = still_live m k t
order m (verdict th) h k t = t

-- both sorts of lists after the edit
unfoldable pub reorder : Edit → History → History → Orders → Orders
reorder e h k o = record { ops_of = order operation e h k o.ops_of; blocks_of = order block e h k o.blocks_of }
