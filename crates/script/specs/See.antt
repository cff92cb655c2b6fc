-- What can be seen of a store in memory, read off its words: who lives from the tables' orders, slots, use sets and members from the lists, what a thing
-- lies in from the home cells, what stands beside it from the link cells. A use set is in the order of its chain. Assumes nothing: these are definitions.
use Rattle.std.specs.Prelude.{Bool, List, [], ◌++◌, map, ℕ, suc, get_or}
use Rattle.std.proofs.Math.Option.{Option, none, some}
use Rattle.edit.specs.Record.{Member, operation, block, Thing, the_operation, the_block, the_region, Definition, of_value, of_block}
use Rattle.rules.specs.Table.{find, is_some, concat}
use Rattle.rules.specs.Demand.{View, as_thing}
use Rattle.linked_list.specs.Links.{after, before}
use Rattle.places.specs.Store.{Kind, op, blk, reg, val, usg, Role, value_uses, block_uses, results, arguments, ops, blocks, Fam, ops_in, blocks_in, State, up}
use Rattle.places.specs.View.{num}
use Rattle.places.specs.Parts.{node_in}
use Rattle.places.specs.Roles.{slot_role, container_kind}
use Rattle.context.specs.declared.Layout.{Layout}
use Rattle.context.specs.Layout.{nc_of, nn_of, fam_part}
use Rattle.context.specs.Memory.{part, decode, state_of, layout_of}

-- the family of the lists that operations, or blocks, stand in, and what the list is to its holder
abbrev pub member_fam : Member → Fam
member_fam operation = ops_in
member_fam block = blocks_in

abbrev pub member_role : Member → Role
member_role operation = ops
member_role block = blocks

-- the kind and number that are named
abbrev pub thing_key : Thing → Kind × ℕ
thing_key (the_operation n) = (op, n)
thing_key (the_block n) = (blk, n)
thing_key (the_region n) = (reg, n)

abbrev pub definition_key : Definition → Kind × ℕ
definition_key (of_value n) = (val, n)
definition_key (of_block n) = (blk, n)

-- the set of uses of a value, of a block
abbrev pub definition_role : Definition → Role
definition_role (of_value n) = value_uses
definition_role (of_block n) = block_uses

module _ (P : State) where
  -- the place of the live thing of the kind with this number
  unfoldable pub place_of : Kind → ℕ → Option ℕ
  place_of k n = find (map (λ p. (num P (k, p), p)) (P.tab k).order) n

  -- does a thing of this kind with this number live?
  unfoldable pub lives : Kind × ℕ → Bool
  lives a = is_some (place_of a.0 a.1)

  -- the numbers in a list of the thing at the place
  unfoldable pub numbers_in : Kind → Role → Option ℕ → List ℕ
  numbers_in k r none = []
  numbers_in k r (some p) = map (num P) (P.list (k, p) r)

  -- the numbers in a list of the thing with this number
  unfoldable pub list_of_role : Role → Kind × ℕ → List ℕ
  list_of_role r a = numbers_in a.0 r (place_of a.0 a.1)

  -- the number of a thing that may be there
  unfoldable pub number_of : Option (Kind × ℕ) → Option ℕ
  number_of none = none
  number_of (some x) = some (num P x)

  -- the number of what the thing at the place lies in
  unfoldable pub above : Kind → Option ℕ → Option ℕ
  above k none = none
  above k (some p) = number_of (up P (k, p))

  -- every value that stands among the results of an operation or the arguments of a block, and every block
  unfoldable pub all_of : List Definition
  all_of =
      map of_value (concat (map (λ p. map (num P) (P.list (op, p) results)) (P.tab op).order) ++ concat (map (λ p. map (num P) (P.list (blk, p) arguments)) (P.tab blk).order))
      ++ map of_block (map (λ p. num P (blk, p)) (P.tab blk).order)

-- the number of the node of a place that a link cell stands for, if it stands for one
unfoldable pub linked : State → Kind → Option ℕ → Option ℕ
linked P k none = none
linked P k (some p) = some (num P (k, p))

-- where the lists of the family f have the next of the node of a place, and its prev: the same in every container, so also in the container 0
abbrev pub next_cell : Layout → Fam → ℕ → ℕ
next_cell l f p = after (nc_of l f) (suc p) 0

abbrev pub previous_cell : Layout → Fam → ℕ → ℕ
previous_cell l f p = before (nc_of l f) (nn_of l f) (suc p) 0

-- the number of the node that the given cell of the node of the place stands for
unfoldable pub beside : Layout → List ℕ → Fam → (ℕ → ℕ) → Option ℕ → Option ℕ
beside l m f cell none = none
beside l m f cell (some p) = linked (state_of l m) (node_in f) (decode (get_or (part l m (fam_part f)) (cell p) 0))

-- what a thing lies in
unfoldable pub see_up : State → Thing → Option Thing
see_up P (the_operation n) = as_thing the_block (above P op (place_of P op n))
see_up P (the_block n) = as_thing the_region (above P blk (place_of P blk n))
see_up P (the_region n) = as_thing the_operation (above P reg (place_of P reg n))

-- what can be seen of the memory, of a store with these capacities
unfoldable pub see_at : Layout → List ℕ → View
see_at l m =
    record {
      holds_use = λ u. lives (state_of l m) (usg, u);
      holds = λ t. lives (state_of l m) (thing_key t);
      holds_definition = λ d. lives (state_of l m) (definition_key d);
      definitions = all_of (state_of l m);
      use_set = λ d. list_of_role (state_of l m) (definition_role d) (definition_key d);
      uses_at = λ sl o. list_of_role (state_of l m) (slot_role sl) (op, o);
      members = λ w c. list_of_role (state_of l m) (member_role w) (container_kind w, c);
      next = λ w x. beside l m (member_fam w) (next_cell l (member_fam w)) (place_of (state_of l m) (node_in (member_fam w)) x);
      previous = λ w x. beside l m (member_fam w) (previous_cell l (member_fam w)) (place_of (state_of l m) (node_in (member_fam w)) x);
      up = see_up (state_of l m);
    }

-- the same, with the capacities that its header names
unfoldable pub see : List ℕ → View
see m = see_at (layout_of m) m
