-- The store by places as the rules see it. Assumes nothing.
use Rattle.std.specs.Prelude.{List, map, ℕ, ◌-◌, length}
use Rattle.std.proofs.Math.Option.{Option, none, some}
use Rattle.places.specs.Store.{Kind, op, blk, reg, val, usg, Role, operands, successors, value_uses, block_uses, results, arguments, regions, ops, blocks, ops_in, blocks_in, use_sets, Thing, State}
use Rattle.places.specs.View.{Rec, Names, num, view}
use Rattle.edit.specs.Record.{Definition, of_value, of_block, the_operation, the_block, the_region}
use Rattle.places.specs.Alias.{RThing, RState}
use Rattle.rules.specs.History.{Five, Operation, Block, History}
use Rattle.rules.specs.Orders.{Orders}

-- what a thing lies in, by its number
abbrev pub number : Option (Role × ℕ) → Option ℕ
number none = none
number (some c) = some c.1

-- what a use is a use of: the holder of the set in which it stands
abbrev pub def_by : Role → ℕ → Definition
def_by operands n = of_value n
def_by successors n = of_value n
def_by value_uses n = of_value n
def_by block_uses n = of_block n
def_by results n = of_value n
def_by arguments n = of_value n
def_by regions n = of_value n
def_by ops n = of_value n
def_by blocks n = of_value n

abbrev pub def_of : Option (Role × ℕ) → Definition
def_of none = of_value 0
def_of (some c) = def_by c.0 c.1

-- the entries of a table: a record's number, and what f reads of it
abbrev pub tabled : {A : Type 0} → (Rec → A) → List Rec → List (ℕ × A)
tabled f l = map (λ e. (e.num, f e)) l

abbrev pub op_of : Rec → Operation
op_of e = record { results = e.lists results; operands = e.lists operands; successors = e.lists successors; regions = e.lists regions; block = number (e.homes ops_in) }

abbrev pub block_of : Rec → Block
block_of e = record { arguments = e.lists arguments; region = number (e.homes blocks_in) }

abbrev pub use_of : Rec → Definition
use_of e = def_of (e.homes use_sets)

-- the next numbers
abbrev pub born_of : Names → Five
born_of N = record { operations = N.next op; blocks = N.next blk; regions = N.next reg; values = N.next val; uses = N.next usg }

unfoldable pub hist : ℕ → Names → History
hist n N = record { operations = tabled op_of (N.things op); blocks = tabled block_of (N.things blk); uses = tabled use_of (N.things usg); born = born_of N; ended = n }

abbrev pub thing_named : Kind → ℕ → RThing
thing_named op n = the_operation n
thing_named blk n = the_block n
thing_named reg n = the_region n
thing_named val n = the_region n
thing_named usg n = the_region n

abbrev pub the_thing : State → Thing → RThing
the_thing P x = thing_named x.0 (num P x)

-- the order of the operations in each block, and of the blocks in each region
unfoldable pub orders_of : Names → Orders
orders_of N = record { ops_of = tabled (λ e. e.lists ops) (N.things blk); blocks_of = tabled (λ e. e.lists blocks) (N.things reg) }

abbrev pub caps_of : State → Five
caps_of P = record { operations = (P.tab op).cap; blocks = (P.tab blk).cap; regions = (P.tab reg).cap; values = (P.tab val).cap; uses = (P.tab usg).cap }

-- the store as the rules see it, where n uses have ended
unfoldable pub rule_state : ℕ → State → RState
rule_state n P =
    record {
      history = hist n (view P);
      orders = orders_of (view P);
      flags = tabled (λ e. e.tag) ((view P).things op);
      types = tabled (λ e. e.tag) ((view P).things val);
      capacities = caps_of P;
    }

-- the same, where the uses that have ended are those born and not live
unfoldable pub meaning : State → RState
meaning P = rule_state ((P.tab usg).next - length (P.tab usg).order) P
