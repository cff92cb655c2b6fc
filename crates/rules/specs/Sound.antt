-- A sound store, of a state: what the check of refusal 6 looks for, but for the buffer's length and the capacities' own limits (refusal 5).
-- Assumes nothing: these are definitions.
use Rattle.std.specs.Prelude.{◌≡◌, ℕ, ◌+◌, ◌≤◌, T, eqb, length}
use Rattle.std.proofs.Math.Option.{some}
use Rattle.rules.specs.Table.{Rising, spread, find, keys, some_and, one, count}
use Rattle.edit.specs.Record.{Slot, operand, successor, Member, Thing, Definition}
use Rattle.rules.specs.History.{Operation, Block, History, uses_in, container, live_definition}
use Rattle.rules.specs.Orders.{lists, list_at}
use Rattle.rules.specs.State.{State}
use Rattle.rules.specs.Demand.{LiesIn, up_from, sort_of}

-- how often a region stands at a place of an operation
unfoldable pub region_places : ℕ → History → ℕ
region_places r h = spread (λ (o : Operation). o.regions) r h.operations

-- how often a value stands at a place of an operation or a block
unfoldable pub value_places : ℕ → History → ℕ
value_places v h = spread (λ (o : Operation). o.results) v h.operations + spread (λ (b : Block). b.arguments) v h.blocks

-- how often a use stands at an operand or successor place
unfoldable pub use_places : ℕ → History → ℕ
use_places u h = spread (uses_in operand) u h.operations + spread (uses_in successor) u h.operations

-- the parts of a sound store
pub record Sound (s : State) : Type 0 where
  -- no table has more than its capacity
  pub operations_fit : length s.history.operations ≤ s.capacities.operations
  pub blocks_fit : length s.history.blocks ≤ s.capacities.blocks
  pub regions_fit : length s.orders.blocks_of ≤ s.capacities.regions
  pub values_fit : length s.types ≤ s.capacities.values
  pub uses_fit : length s.history.uses ≤ s.capacities.uses
  -- no ordered list of an operation or block has more than 64 entries
  pub results_short : (n : ℕ) (o : Operation) → find s.history.operations n ≡ some o → length o.results ≤ 64
  pub slots_short : (sl : Slot) (n : ℕ) (o : Operation) → find s.history.operations n ≡ some o → length (uses_in sl o) ≤ 64
  pub regions_short : (n : ℕ) (o : Operation) → find s.history.operations n ≡ some o → length o.regions ≤ 64
  pub arguments_short : (n : ℕ) (b : Block) → find s.history.blocks n ≡ some b → length b.arguments ≤ 64
  -- flags go up to 3
  pub flags_low : (n f : ℕ) → find s.flags n ≡ some f → f ≤ 3
  -- numbers of a kind are given once, and lie below the next to be given
  pub operations_rise : Rising 0 s.history.born.operations s.history.operations
  pub blocks_rise : Rising 0 s.history.born.blocks s.history.blocks
  pub uses_rise : Rising 0 s.history.born.uses s.history.uses
  pub flags_rise : Rising 0 s.history.born.operations s.flags
  pub types_rise : Rising 0 s.history.born.values s.types
  pub ops_of_rise : Rising 0 s.history.born.blocks s.orders.ops_of
  pub blocks_of_rise : Rising 0 s.history.born.regions s.orders.blocks_of
  -- a region is live if it has a list of blocks, a value if it has a type, an operation if it has flags, a block if it has a list of operations.
  -- What is live stands at one place of one owner, or is in its own table; and nothing else does
  pub regions_stand : (r : ℕ) → region_places r s.history ≡ count r (keys s.orders.blocks_of)
  pub values_stand : (v : ℕ) → value_places v s.history ≡ count v (keys s.types)
  pub operations_flagged : (n : ℕ) → count n (keys s.flags) ≡ count n (keys s.history.operations)
  pub blocks_listed : (n : ℕ) → count n (keys s.orders.ops_of) ≡ count n (keys s.history.blocks)
  -- a thing stands in the list of its own container, once, and in no other list
  pub links : (m : Member) (x c : ℕ) → count x (list_at (lists m s.orders) c) ≡ one (some_and (container m s.history x) (λ d. eqb d c))
  -- a live use stands at one place, no other stands anywhere, its definition is live, a value for an operand and a block for a successor; and uses
  -- live and ended are the uses born
  pub uses_stand : (u : ℕ) → use_places u s.history ≡ count u (keys s.history.uses)
  pub uses_held : (u : ℕ) (d : Definition) → find s.history.uses u ≡ some d → T (live_definition s.history d)
  pub uses_sorted : (sl : Slot) (u : ℕ) (d : Definition) → find s.history.uses u ≡ some d → 1 ≤ spread (uses_in sl) u s.history.operations → sort_of d ≡ sl
  pub ended_rest : length s.history.uses + s.history.ended ≡ s.history.born.uses
  -- no thing lies in itself
  pub outside_itself : (t : Thing) → LiesIn (up_from s.history) t t → ⊥
