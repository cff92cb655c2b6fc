-- The state of a store: the history, and what it does not keep: the orders, flags, types and capacities.
-- Flags are kept by operation, types by value. Assumes nothing: these are definitions.
use Rattle.std.specs.Prelude.{List, [], ◌∷◌, ◌++◌, ℕ}
use Rattle.std.proofs.Math.Option.{Option, none, some}
use Rattle.rules.specs.Table.{Table, keep_keys, number, find}
use Rattle.edit.specs.Record.{Edit, new_operation, new_block, push_use, insert_use, replace_use, remove_use, pop_use, push_value, insert_value, remove_value, pop_value, link_after, link_before, link_front, link_back, unlink, move_region, move_use, replace_some, retarget_some, drop_uses, erase_operation, erase_block, erase_region, verdict}
use Rattle.rules.specs.History.{Five, History, begin, remember, live_operation, live_value}
use Rattle.rules.specs.Orders.{Orders, no_orders, reorder}

-- the history, the orders, the flags of each live operation, the type of each live value, and the five capacities
pub record State : Type 0 where
  pub history : History
  pub orders : Orders
  pub flags : Table ℕ
  pub types : Table ℕ
  pub capacities : Five

-- a store newly started
unfoldable pub start : Five → State
start c = record { history = begin; orders = no_orders; flags = []; types = []; capacities = c }

-- a number that may be there, or 0
unfoldable pub or_zero : Option ℕ → ℕ
or_zero none = 0
or_zero (some x) = x

-- the number that the table has for n
unfoldable pub number_at : Table ℕ → ℕ → ℕ
number_at t n = or_zero (find t n)

-- the flags of the operation that the edit gives birth to
unfoldable pub new_flags : Edit → List ℕ
new_flags (new_operation fl ts vs bs g) = fl ∷ []
new_flags (new_block ts) = []
new_flags (push_use sl o d) = []
new_flags (insert_use sl o i d) = []
new_flags (replace_use sl o i d) = []
new_flags (remove_use sl o i) = []
new_flags (pop_use sl o) = []
new_flags (push_value m o ty) = []
new_flags (insert_value m o i ty) = []
new_flags (remove_value m o i) = []
new_flags (pop_value m o) = []
new_flags (link_after m x k) = []
new_flags (link_before m x k) = []
new_flags (link_front m x c) = []
new_flags (link_back m x c) = []
new_flags (unlink m x) = []
new_flags (move_region r o) = []
new_flags (move_use sl a u b) = []
new_flags (replace_some a b us) = []
new_flags (retarget_some a b ps) = []
new_flags (drop_uses t) = []
new_flags (erase_operation n) = []
new_flags (erase_block n) = []
new_flags (erase_region o i) = []
new_flags (verdict t) = []

-- the types of the values that it gives birth to
unfoldable pub new_types : Edit → List ℕ
new_types (new_operation fl ts vs bs g) = ts
new_types (new_block ts) = ts
new_types (push_use sl o d) = []
new_types (insert_use sl o i d) = []
new_types (replace_use sl o i d) = []
new_types (remove_use sl o i) = []
new_types (pop_use sl o) = []
new_types (push_value m o ty) = ty ∷ []
new_types (insert_value m o i ty) = ty ∷ []
new_types (remove_value m o i) = []
new_types (pop_value m o) = []
new_types (link_after m x k) = []
new_types (link_before m x k) = []
new_types (link_front m x c) = []
new_types (link_back m x c) = []
new_types (unlink m x) = []
new_types (move_region r o) = []
new_types (move_use sl a u b) = []
new_types (replace_some a b us) = []
new_types (retarget_some a b ps) = []
new_types (drop_uses t) = []
new_types (erase_operation n) = []
new_types (erase_block n) = []
new_types (erase_region o i) = []
new_types (verdict t) = []

-- the state after an accepted edit: the history's own step, the orders, new flags and types, and those of what has ended gone
unfoldable pub accept : Edit → State → State
accept e s =
    let h : History = s.history in
    let k : History = remember e h in
    record {
      history = k;
      orders = reorder e h k s.orders;
      flags = keep_keys (live_operation k) (s.flags ++ number h.born.operations (new_flags e));
      types = keep_keys (live_value k) (s.types ++ number h.born.values (new_types e));
      capacities = s.capacities;
    }
