-- The history of uses (corner: history): what accepted edits, and nothing else, say of operations, blocks and uses.
-- It begins empty and never looks at a store. Assumes nothing: these are definitions.
use Rattle.std.specs.Prelude.{Bool, false, not, cond, ◌&&◌, ◌||◌, List, [], ◌∷◌, ◌++◌, map, ℕ, zero, suc, ◌+◌, ◌-◌, eqb, length, get_or, set}
use Rattle.std.proofs.Math.Option.{Option, none, some}
use Rattle.rules.specs.Table.{Table, keys_where, gather, any, insert_at, remove_at, is_some, some_and, find, find_key, items, change, change_all, keep_keys, number, up, member, swap_out}
use Rattle.edit.specs.Record.{Slot, operand, successor, Member, operation, block, Thing, the_operation, the_block, the_region, Definition, of_value, of_block, Edit, new_operation, new_block, push_use, insert_use, replace_use, remove_use, pop_use, push_value, insert_value, remove_value, pop_value, link_after, link_before, link_front, link_back, unlink, move_region, move_use, replace_some, retarget_some, drop_uses, erase_operation, erase_block, erase_region, verdict}

-- an operation: its results (values), its operands and successors (uses), its regions, and its block or none
pub record Operation : Type 0 where
  pub results : List ℕ
  pub operands : List ℕ
  pub successors : List ℕ
  pub regions : List ℕ
  pub block : Option ℕ

-- a block: its arguments (values), and its region or none
pub record Block : Type 0 where
  pub arguments : List ℕ
  pub region : Option ℕ

-- a number for each of the five kinds
pub record Five : Type 0 where
  pub operations : ℕ
  pub blocks : ℕ
  pub regions : ℕ
  pub values : ℕ
  pub uses : ℕ

-- the live operations, blocks and uses, each use with its definition; how many of each kind were born; how many uses were ended
pub record History : Type 0 where
  pub operations : Table Operation
  pub blocks : Table Block
  pub uses : Table Definition
  pub born : Five
  pub ended : ℕ

-- none of each kind
unfoldable pub zeros : Five
zeros = record { operations = 0; blocks = 0; regions = 0; values = 0; uses = 0 }

-- the sum, kind by kind
unfoldable pub plus : Five → Five → Five
plus a b =
    record { operations = a.operations + b.operations; blocks = a.blocks + b.blocks; regions = a.regions + b.regions; values = a.values + b.values; uses = a.uses + b.uses }

-- the empty history
unfoldable pub begin : History
begin = record { operations = []; blocks = []; uses = []; born = zeros; ended = 0 }

-- ---- what is live, and where it stands

-- are they the same value, or the same block?
unfoldable pub same_definition : Definition → Definition → Bool
same_definition (of_value a) (of_value b) = eqb a b
same_definition (of_value a) (of_block b) = false
same_definition (of_block a) (of_value b) = false
same_definition (of_block a) (of_block b) = eqb a b

-- the operands, or the successors
unfoldable pub uses_in : Slot → Operation → List ℕ
uses_in operand o = o.operands
uses_in successor o = o.successors

-- operands, then successors
unfoldable pub all_uses_in : Operation → List ℕ
all_uses_in o = o.operands ++ o.successors

-- what a number names in an operand field, and in a successor field
unfoldable pub defined : Slot → ℕ → Definition
defined operand n = of_value n
defined successor n = of_block n

-- the block of an operation that may be there
unfoldable pub block_of_op : Option Operation → Option ℕ
block_of_op none = none
block_of_op (some o) = o.block

-- the region of a block that may be there
unfoldable pub region_of : Option Block → Option ℕ
region_of none = none
region_of (some b) = b.region

-- the operands or successors of an operation that may be there
unfoldable pub slot_of : Slot → Option Operation → List ℕ
slot_of sl none = []
slot_of sl (some o) = uses_in sl o

-- its results
unfoldable pub results_of : Option Operation → List ℕ
results_of none = []
results_of (some o) = o.results

-- the arguments of a block that may be there
unfoldable pub arguments_of : Option Block → List ℕ
arguments_of none = []
arguments_of (some b) = b.arguments

-- the regions of an operation that may be there
unfoldable pub regions_of : Option Operation → List ℕ
regions_of none = []
regions_of (some o) = o.regions

module _ (h : History) where
  -- born and not ended: an operation
  unfoldable pub live_operation : ℕ → Bool
  live_operation n = is_some (find h.operations n)

  -- a block
  unfoldable pub live_block : ℕ → Bool
  live_block n = is_some (find h.blocks n)

  -- the operation whose region it is
  unfoldable pub parent : ℕ → Option ℕ
  parent r = find_key (λ (o : Operation). member r o.regions) h.operations

  -- a region is live while an operation has it
  unfoldable pub live_region : ℕ → Bool
  live_region r = is_some (parent r)

  -- a value is live while it is a result or an argument
  unfoldable pub live_value : ℕ → Bool
  live_value v =
      any (λ (o : Operation). member v o.results) (items h.operations)
      || any (λ (b : Block). member v b.arguments) (items h.blocks)

  -- a definition is live: the value, or the block
  unfoldable pub live_definition : Definition → Bool
  live_definition (of_value v) = live_value v
  live_definition (of_block b) = live_block b

  -- the operation at which the use stands
  unfoldable pub user : ℕ → Option ℕ
  user u = find_key (λ (o : Operation). member u (all_uses_in o)) h.operations

  -- the block in which an operation is
  unfoldable pub block_at : ℕ → Option ℕ
  block_at n = block_of_op (find h.operations n)

  -- the region in which a block is
  unfoldable pub region_at : ℕ → Option ℕ
  region_at n = region_of (find h.blocks n)

  -- the uses of a definition, in rising number
  unfoldable pub uses_of : Definition → List ℕ
  uses_of d = keys_where (same_definition d) h.uses

-- ---- inside a thing: the climb from parent to parent

-- is the thing this operation?
unfoldable pub is_operation : Thing → ℕ → Bool
is_operation (the_operation a) n = eqb a n
is_operation (the_block a) n = false
is_operation (the_region a) n = false

-- is it this block?
unfoldable pub is_block : Thing → ℕ → Bool
is_block (the_operation a) n = false
is_block (the_block a) n = eqb a n
is_block (the_region a) n = false

-- is it this region?
unfoldable pub is_region : Thing → ℕ → Bool
is_region (the_operation a) n = false
is_region (the_block a) n = false
is_region (the_region a) n = eqb a n

module _ (h : History) (t : Thing) where
  -- one step of the climb, where up says whether an operation lies in t: the region is t, or its operation lies in t
  unfoldable pub region_climb : (ℕ → Bool) → ℕ → Bool
  region_climb up r = is_region t r || some_and (parent h r) up

  -- the block is t, or its region lies in t
  unfoldable pub block_climb : (ℕ → Bool) → ℕ → Bool
  block_climb up b = is_block t b || some_and (region_at h b) (region_climb up)

  -- the climb from parent to parent (corner: the test behind 17); depth ends it, and the number of live operations is enough
  unfoldable pub climb : ℕ → ℕ → Bool
  climb zero n = false
  climb (suc depth) n = is_operation t n || some_and (block_at h n) (block_climb (climb depth))

  -- does the operation lie in t, or is it t?
  unfoldable pub operation_in : ℕ → Bool
  operation_in n = climb (length h.operations) n

  -- the same of a block
  unfoldable pub block_in : ℕ → Bool
  block_in b = block_climb operation_in b

  -- the same of a region
  unfoldable pub region_in : ℕ → Bool
  region_in r = region_climb operation_in r

  -- all operands and successors in t, its own included
  unfoldable pub uses_inside : List ℕ
  uses_inside = gather operation_in (λ _ o. all_uses_in o) h.operations

-- ---- what an accepted edit changes

-- the history with other operations
unfoldable pub with_operations : History → Table Operation → History
with_operations h os = record { operations = os; blocks = h.blocks; uses = h.uses; born = h.born; ended = h.ended }

-- with other blocks
unfoldable pub with_blocks : History → Table Block → History
with_blocks h bs = record { operations = h.operations; blocks = bs; uses = h.uses; born = h.born; ended = h.ended }

-- with other uses
unfoldable pub with_uses : History → Table Definition → History
with_uses h us = record { operations = h.operations; blocks = h.blocks; uses = us; born = h.born; ended = h.ended }

-- with other counts of births
unfoldable pub bear : Five → History → History
bear k h = record { operations = h.operations; blocks = h.blocks; uses = h.uses; born = k; ended = h.ended }

-- how many of each kind an accepted edit gives birth to: kinds 1 and 2 the thing and what the record counts; 3, 4, 5, 8, 9 and 10 a use; 13, 14, 17
-- and 18 a value
unfoldable pub births : Edit → Five
births (new_operation fl ts vs bs g) = record { operations = 1; blocks = 0; regions = g; values = length ts; uses = length vs + length bs }
births (new_block ts) = record { operations = 0; blocks = 1; regions = 0; values = length ts; uses = 0 }
births (push_use sl o d) = record { operations = 0; blocks = 0; regions = 0; values = 0; uses = 1 }
births (insert_use sl o i d) = record { operations = 0; blocks = 0; regions = 0; values = 0; uses = 1 }
births (replace_use sl o i d) = record { operations = 0; blocks = 0; regions = 0; values = 0; uses = 1 }
births (remove_use sl o i) = zeros
births (pop_use sl o) = zeros
births (push_value m o ty) = record { operations = 0; blocks = 0; regions = 0; values = 1; uses = 0 }
births (insert_value m o i ty) = record { operations = 0; blocks = 0; regions = 0; values = 1; uses = 0 }
births (remove_value m o i) = zeros
births (pop_value m o) = zeros
births (link_after m x k) = zeros
births (link_before m x k) = zeros
births (link_front m x c) = zeros
births (link_back m x c) = zeros
births (unlink m x) = zeros
births (move_region r o) = zeros
births (move_use sl a u b) = zeros
births (replace_some a b us) = zeros
births (retarget_some a b ps) = zeros
births (drop_uses t) = zeros
births (erase_operation n) = zeros
births (erase_block n) = zeros
births (erase_region o i) = zeros
births (verdict t) = zeros

-- the operands, or the successors, changed by f
unfoldable pub change_slot : Slot → (List ℕ → List ℕ) → Operation → Operation
change_slot operand f o = record { results = o.results; operands = f o.operands; successors = o.successors; regions = o.regions; block = o.block }
change_slot successor f o = record { results = o.results; operands = o.operands; successors = f o.successors; regions = o.regions; block = o.block }

-- the results changed by f
unfoldable pub change_results : (List ℕ → List ℕ) → Operation → Operation
change_results f o = record { results = f o.results; operands = o.operands; successors = o.successors; regions = o.regions; block = o.block }

-- the regions changed by f
unfoldable pub change_regions : (List ℕ → List ℕ) → Operation → Operation
change_regions f o = record { results = o.results; operands = o.operands; successors = o.successors; regions = f o.regions; block = o.block }

-- the block set
unfoldable pub into_block : Option ℕ → Operation → Operation
into_block b o = record { results = o.results; operands = o.operands; successors = o.successors; regions = o.regions; block = b }

-- the arguments changed by f
unfoldable pub change_arguments : (List ℕ → List ℕ) → Block → Block
change_arguments f b = record { arguments = f b.arguments; region = b.region }

-- the region set
unfoldable pub into_region : Option ℕ → Block → Block
into_region r b = record { arguments = b.arguments; region = r }

-- the uses of the list end, and are counted as ended
unfoldable pub end_uses : List ℕ → History → History
end_uses us h =
    record { operations = h.operations; blocks = h.blocks; uses = keep_keys (λ u. not (member u us)) h.uses; born = h.born; ended = h.ended + length us }

-- one new use of d, put into the list of operation o by f
unfoldable pub add_use : Slot → ℕ → ℕ → (ℕ → List ℕ → List ℕ) → History → History
add_use sl o d f h =
    let n : ℕ = h.born.uses in
    record {
      operations = change o (change_slot sl (f n)) h.operations;
      blocks = h.blocks;
      uses = h.uses ++ ((n, defined sl d) ∷ []);
      born = h.born;
      ended = h.ended;
    }

-- the use at index i of the list of operation o is taken out and ends
unfoldable pub take_use : Slot → ℕ → ℕ → History → History
take_use sl o i h =
    end_uses (get_or (slot_of sl (find h.operations o)) i 0 ∷ []) (with_operations h (change o (change_slot sl (remove_at i)) h.operations))

-- the results of an operation, or the arguments of a block, changed by f
unfoldable pub change_values : Member → ℕ → (List ℕ → List ℕ) → History → History
change_values operation n f h = with_operations h (change n (change_results f) h.operations)
change_values block n f h = with_blocks h (change n (change_arguments f) h.blocks)

-- the results of an operation, or the arguments of a block
unfoldable pub values_at : Member → ℕ → History → List ℕ
values_at operation n h = results_of (find h.operations n)
values_at block n h = arguments_of (find h.blocks n)

-- the block of an operation, or the region of a block, set
unfoldable pub put_in : Member → ℕ → Option ℕ → History → History
put_in operation x c h = with_operations h (change x (into_block c) h.operations)
put_in block x c h = with_blocks h (change x (into_region c) h.blocks)

-- the block of an operation, or the region of a block
unfoldable pub container : Member → History → ℕ → Option ℕ
container operation h x = block_at h x
container block h x = region_at h x

-- an operation without operands and successors
unfoldable pub emptied : Operation → Operation
emptied o = change_slot operand (λ _. []) (change_slot successor (λ _. []) o)

-- 36 to 38: all operands and successors in the thing are taken out and end; results stay
unfoldable pub drop_inside : Thing → History → History
drop_inside t h =
    end_uses (uses_inside h t)
    (with_operations h
    (change_all (λ n. cond (operation_in h t n) emptied (λ o. o)) h.operations))

-- 39 to 41: their uses end, and then the thing and all inside it
unfoldable pub end_inside : Thing → History → History
end_inside t h =
    let dropped : History = drop_inside t h in
    record {
      operations = keep_keys (λ n. not (operation_in h t n)) h.operations;
      blocks = keep_keys (λ n. not (block_in h t n)) h.blocks;
      uses = dropped.uses;
      born = h.born;
      ended = dropped.ended;
    }

-- the region at index i of operation o
unfoldable pub region_index : ℕ → ℕ → History → ℕ
region_index o i h = get_or (regions_of (find h.operations o)) i 0

-- 31: region r from its parent p to operation o. To the present parent: nothing changes; else the last region takes the gap, and r goes last
unfoldable pub hand_over : ℕ → Option ℕ → ℕ → History → History
hand_over r none o h = h
hand_over r (some p) o h =
    cond (eqb p o) h (with_operations h (change o (change_regions (λ xs. xs ++ (r ∷ []))) (change p (change_regions (swap_out r)) h.operations)))

-- 34 and 35: the uses of a that pass the test are placed at b and keep their numbers
unfoldable pub place_some : Definition → Definition → (ℕ → Bool) → History → History
place_some a b p h =
    with_uses h (change_all (λ u d. cond (same_definition d a && p u) b d) h.uses)

-- what each accepted edit does, its births not yet counted. Births are numbered on from those before: an operation's operands before its
-- successors. Kinds 5 and 10 put a new use in place of the one there, which ends; 15, 16, 19 and 20 take a value out; 21 to 30 set the block or
-- region: the mark's, the record's, or none; 32 and 33 with this = other do nothing; 41 closes the gap in order
unfoldable pub carry_out : Edit → History → History
carry_out (new_operation fl ts vs bs g) h =
    record {
      operations =
          h.operations
          ++ ((
            h.born.operations,
            record {
              results = up h.born.values (length ts);
              operands = up h.born.uses (length vs);
              successors = up (h.born.uses + length vs) (length bs);
              regions = up h.born.regions g;
              block = none;
            },
          ) ∷ []);
      blocks = h.blocks;
      uses = h.uses ++ number h.born.uses (map of_value vs ++ map of_block bs);
      born = h.born;
      ended = h.ended;
    }
carry_out (new_block ts) h =
    with_blocks h (h.blocks ++ ((h.born.blocks, record { arguments = up h.born.values (length ts); region = none }) ∷ []))
carry_out (push_use sl o d) h = add_use sl o d (λ n xs. xs ++ (n ∷ [])) h
carry_out (insert_use sl o i d) h = add_use sl o d (insert_at i) h
carry_out (replace_use sl o i d) h =
    end_uses (get_or (slot_of sl (find h.operations o)) i 0 ∷ []) (add_use sl o d (λ n xs. set xs i n) h)
carry_out (remove_use sl o i) h = take_use sl o i h
carry_out (pop_use sl o) h = take_use sl o (length (slot_of sl (find h.operations o)) - 1) h
carry_out (push_value m o ty) h = change_values m o (λ xs. xs ++ (h.born.values ∷ [])) h
carry_out (insert_value m o i ty) h = change_values m o (insert_at i h.born.values) h
carry_out (remove_value m o i) h = change_values m o (remove_at i) h
carry_out (pop_value m o) h = change_values m o (λ xs. remove_at (length xs - 1) xs) h
carry_out (link_after m x k) h = put_in m x (container m h k) h
carry_out (link_before m x k) h = put_in m x (container m h k) h
carry_out (link_front m x c) h = put_in m x (some c) h
carry_out (link_back m x c) h = put_in m x (some c) h
carry_out (unlink m x) h = put_in m x none h
carry_out (move_region r o) h = hand_over r (parent h r) o h
carry_out (move_use sl a u b) h =
    cond (eqb a b) h (with_uses h (change u (λ _. defined sl b) h.uses))
carry_out (replace_some a b us) h = place_some (of_value a) (of_value b) (λ u. member u us) h
carry_out (retarget_some a b ps) h =
    place_some (of_block a) (of_block b) (λ u. some_and (user h u) (λ o. some_and (block_at h o) (λ c. member c ps))) h
carry_out (drop_uses t) h = drop_inside t h
carry_out (erase_operation n) h = end_inside (the_operation n) h
carry_out (erase_block n) h = end_inside (the_block n) h
carry_out (erase_region o i) h =
    let ended : History = end_inside (the_region (region_index o i h)) h in
    with_operations ended (change o (change_regions (remove_at i)) ended.operations)
carry_out (verdict t) h = h

-- the history after an accepted edit
unfoldable pub remember : Edit → History → History
remember e h = bear (plus h.born (births e)) (carry_out e h)
