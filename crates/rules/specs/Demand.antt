-- Demand 3: what can be seen of a store, and what has to hold of it after the accepted edits that the calls and their answers tell.
-- Assumes nothing: these are definitions.
use Rattle.std.specs.Prelude.{◌≡◌, Bool, not, List, [], ◌∷◌, ◌++◌, map, ℕ, ◌+◌, T, eqb, length}
use Rattle.std.proofs.Math.Option.{Option, none, some}
use Rattle.rules.specs.Table.{find, is_some, some_and, items, keys, concat, nth, sum_over, one, count, next_of, previous_of}
use Rattle.edit.specs.Record.{Slot, operand, successor, Member, operation, block, Thing, the_operation, the_block, the_region, Definition, of_value, of_block, Edit}
use Rattle.rules.specs.History.{Operation, Block, History, live_operation, live_block, live_region, live_definition, same_definition, slot_of, uses_of, block_at, region_at, parent, container}
use Rattle.rules.specs.Orders.{lists, list_at}
use Rattle.rules.specs.State.{State}
use Rattle.rules.specs.Told.{told, born, ended, use_lives, operation_lives, block_lives, placed_at}

-- ---- what can be seen of a store

-- a place for a use: an index of an operation's operands or successors
pub record Place : Type 0 where
  pub slot : Slot
  pub operation : ℕ
  pub index : ℕ

-- what can be seen of a store
pub record View : Type 0 where
  -- is the use held? the operation, block or region? the value or block?
  pub holds_use : ℕ → Bool
  pub holds : Thing → Bool
  pub holds_definition : Definition → Bool
  -- all values and blocks, and the uses of each
  pub definitions : List Definition
  pub use_set : Definition → List ℕ
  -- the operands or successors of an operation
  pub uses_at : Slot → ℕ → List ℕ
  -- the operations of a block, or the blocks of a region; and what stands before and after a thing in its list
  pub members : Member → ℕ → List ℕ
  pub next : Member → ℕ → Option ℕ
  pub previous : Member → ℕ → Option ℕ
  -- the block of an operation, the region of a block, the operation of a region
  pub up : Thing → Option Thing

-- the use at a place
unfoldable pub stands_at : View → Place → Option ℕ
stands_at v p = nth (v.uses_at p.slot p.operation) p.index

-- a lies in b: b is what a is directly in, or that lies in b
pub data LiesIn (up : Thing → Option Thing) : Thing → Thing → Type 0 where
  directly : {a b : Thing} → up a ≡ some b → LiesIn up a b
  further : {a b c : Thing} → up a ≡ some b → LiesIn up b c → LiesIn up a c

-- ---- the view of a state

-- a number that may be there, as a thing
unfoldable pub as_thing : (ℕ → Thing) → Option ℕ → Option Thing
as_thing f none = none
as_thing f (some n) = some (f n)

-- the block of an operation, the region of a block, the operation of a region
unfoldable pub up_from : History → Thing → Option Thing
up_from h (the_operation n) = as_thing the_block (block_at h n)
up_from h (the_block b) = as_thing the_region (region_at h b)
up_from h (the_region r) = as_thing the_operation (parent h r)

-- is it live?
unfoldable pub live_thing : History → Thing → Bool
live_thing h (the_operation n) = live_operation h n
live_thing h (the_block n) = live_block h n
live_thing h (the_region n) = live_region h n

-- every live value and block, once for each place of a value
unfoldable pub all_definitions : History → List Definition
all_definitions h =
    map of_value (concat (map (λ (o : Operation). o.results) (items h.operations)) ++ concat (map (λ (b : Block). b.arguments) (items h.blocks)))
    ++ map of_block (keys h.blocks)

-- the list of a container that may be there
unfoldable pub members_of : Member → State → Option ℕ → List ℕ
members_of m s none = []
members_of m s (some c) = list_at (lists m s.orders) c

-- what can be seen of a state
unfoldable pub view : State → View
view s =
    record {
      holds_use = λ u. is_some (find s.history.uses u);
      holds = live_thing s.history;
      holds_definition = live_definition s.history;
      definitions = all_definitions s.history;
      use_set = uses_of s.history;
      uses_at = λ sl o. slot_of sl (find s.history.operations o);
      members = λ m c. list_at (lists m s.orders) c;
      next = λ m x. next_of x (members_of m s (container m s.history x));
      previous = λ m x. previous_of x (members_of m s (container m s.history x));
      up = up_from s.history;
    }

-- ---- the demand

-- a use is a use of a value in an operand, and of a block in a successor
unfoldable pub sort_of : Definition → Slot
sort_of (of_value v) = operand
sort_of (of_block b) = successor

-- the block in which operations stand, the region in which blocks stand
unfoldable pub container_thing : Member → ℕ → Thing
container_thing operation n = the_block n
container_thing block n = the_region n

-- how often a definition stands in the list
unfoldable pub tally : Definition → List Definition → ℕ
tally d [] = 0
tally d (x ∷ xs) = one (same_definition x d) + tally d xs

module _ (v : View) (log : List Edit) where
  -- demand 3, second sentence, first half, of one held use: its definition is the one that the last accepted edit to place it named; that is live; and the use
  -- stands once in its use set and in no other
  pub record HeldBy (u : ℕ) : Type 0 where
    pub definition : Definition
    pub named : placed_at log u ≡ some definition
    pub live : T (v.holds_definition definition)
    pub only : (d : Definition) → count u (v.use_set d) ≡ one (same_definition definition d)

  -- demand 3, second sentence, second half, of one held use: its place is the one that the history gives it, and it stands at no other; an operand place is for
  -- a use of a value, a successor place for one of a block
  pub record StandsAt (u : ℕ) : Type 0 where
    pub place : Place
    pub told_here : nth (slot_of place.slot (find (told log).operations place.operation)) place.index ≡ some u
    pub here : stands_at v place ≡ some u
    pub only : (p : Place) → stands_at v p ≡ some u → p ≡ place
    pub sort : (d : Definition) → placed_at log u ≡ some d → sort_of d ≡ place.slot

  -- demand 3 of what is seen, where log is the list of the accepted edits, the latest first. The fields marked + say more than is asked: they
  -- bind what is seen to the history, so that no empty view passes
  pub record Demand3 : Type 0 where
    -- first sentence: a use, operation or block is held just if an accepted edit gave birth to it and none since has ended it
    pub use_held : (u : ℕ) → v.holds_use u ≡ use_lives log u
    pub operation_held : (n : ℕ) → v.holds (the_operation n) ≡ operation_lives log n
    pub block_held : (n : ℕ) → v.holds (the_block n) ≡ block_lives log n
    -- second sentence, first half: a held use is in one use set, of a live definition, the one last placed at
    pub use_defined : (u : ℕ) → T (v.holds_use u) → HeldBy u
    -- + live is live by the history
    pub live_told : (d : Definition) → v.holds_definition d ≡ live_definition (told log) d
    -- second sentence, second half: a held use stands at one place, the one that the history gives
    pub use_stands : (u : ℕ) → T (v.holds_use u) → StandsAt u
    -- + no other use stands in a use set or at a place
    pub no_other_held : (u : ℕ) (d : Definition) → T (not (v.holds_use u)) → count u (v.use_set d) ≡ 0
    pub no_other_stands : (u : ℕ) (p : Place) → stands_at v p ≡ some u → T (v.holds_use u)
    -- third sentence: all use sets together have as many uses as were born and not ended, by the history's count
    pub sizes : sum_over (λ d. length (v.use_set d)) v.definitions + ended log ≡ (born log).uses
    -- + each live definition is summed once, and no other
    pub all_sizes : (d : Definition) → tally d v.definitions ≡ one (v.holds_definition d)
    -- fourth sentence: an operation or block stands once in the list of the block or region that the history names, in no other list, and in none
    -- where it names none; and that block or region is held
    pub listed : (m : Member) (x c : ℕ) → count x (v.members m c) ≡ one (some_and (container m (told log) x) (λ d. eqb d c))
    pub list_held : (m : Member) (x c : ℕ) → container m (told log) x ≡ some c → T (v.holds (container_thing m c))
    -- fourth sentence: what follows x has x before it, and the other way round
    pub neighbours : (m : Member) (x y : ℕ) → v.next m x ≡ some y → v.previous m y ≡ some x
    pub neighbours_back : (m : Member) (x y : ℕ) → v.previous m y ≡ some x → v.next m x ≡ some y
    -- + they are the neighbours in the list
    pub next_follows : (m : Member) (x c : ℕ) → container m (told log) x ≡ some c → v.next m x ≡ next_of x (v.members m c)
    pub previous_precedes : (m : Member) (x c : ℕ) → container m (told log) x ≡ some c → v.previous m x ≡ previous_of x (v.members m c)
    -- + each thing is in what the history has it in
    pub up_told : (t : Thing) → v.up t ≡ up_from (told log) t
    -- fourth sentence: no thing lies in itself, over however many steps
    pub outside_itself : (t : Thing) → LiesIn v.up t t → ⊥
