-- The parts of the memory as the lower crates read them, and the store that they are. Assumes nothing.
use Rattle.std.proofs.Math.Logic.{ite}
use Rattle.std.specs.Prelude.{List, [], ◌∷◌, ◌++◌, map, ℕ, suc, ◌+◌, ◌-◌, ◌*◌, ◌/◌, ◌%◌}
use Rattle.std.proofs.Math.Option.{Option, none, some}
use Rattle.std.proofs.Math.Decide.{ℕ_discrete, dec_lt}
use Rattle.seqs.specs.Seqs.{upd, without_by}
pub use Rattle.seqs.specs.Entries.{lookup, places}
use Rattle.places.specs.Store.{Kind, Kind-dec, op, blk, reg, val, usg, Role, operands, successors, value_uses, block_uses, results, arguments, regions, ops, blocks, Fam, Fam-dec, slots, use_sets, vals, regs, ops_in, blocks_in, fam, node_of, Thing, Thing-dec, Con, Con-dec, Table, State}

-- a table: its live things, number and place, in rising number
pub record Book : Type 0 where
  pub cap : ℕ
  pub next : ℕ
  pub live : List (ℕ × ℕ)

pub record Parts : Type 0 where
  pub books : Kind → Book
  -- each family's rows of nodes, and the row in which a node stands
  pub rows : Fam → ℕ → List ℕ
  pub homes : Fam → ℕ → Option ℕ
  pub tags : Thing → ℕ

-- where a role's list of the thing at place p stands in its family, and back: `row` and `con` know the capacities
pub record Rows : Type 0 where
  pub row : Role → ℕ → ℕ
  pub con : Fam → ℕ → Con

abbrev pub table_of : Book → Table
table_of b = record { cap = b.cap; next = b.next; num = lookup b.live; order = places b.live }

abbrev pub node_in : Fam → Kind
node_in slots = usg
node_in use_sets = usg
node_in vals = val
node_in regs = reg
node_in ops_in = op
node_in blocks_in = blk

abbrev pub con_of : (ℕ → Con) → Option ℕ → Option Con
con_of d none = none
con_of d (some k) = some (d k)

-- A role's list of a thing is a row of its family, if that row is read back as it: so a row is one thing's.
unfoldable pub store : Rows → Parts → State
store R M =
    record {
      tab = λ k. table_of (M.books k);
      list = λ a r. ite (Con-dec (R.con (fam r) (R.row r a.1)) (r, a)) (map (λ q. (node_of r, q)) (M.rows (fam r) (R.row r a.1))) [];
      own = λ a f. ite (Kind-dec a.0 (node_in f)) (con_of (R.con f) (M.homes f a.1)) none;
      tag = M.tags;
    }

-- ---- the changes that the lower crates make

-- the row k becomes l, and the node q comes to stand in o
unfoldable pub set_row : Fam → ℕ → List ℕ → ℕ → Option ℕ → Parts → Parts
set_row f k l q o M = record { books = M.books; rows = upd Fam-dec M.rows f (upd ℕ_discrete (M.rows f) k l); homes = upd Fam-dec M.homes f (upd ℕ_discrete (M.homes f) q o); tags = M.tags }

-- the rows of a store with v values and o operations
unfoldable pub rows_of : ℕ → ℕ → Rows
rows_of v o = record { row = row; con = con }
  where
    row : Role → ℕ → ℕ
    row operands p = 2 * p
    row successors p = 2 * p + 1
    row value_uses p = p
    row block_uses p = v + p
    row results p = p
    row arguments p = o + p
    row regions p = p
    row ops p = p
    row blocks p = p

    con : Fam → ℕ → Con
    con slots k = ite (ℕ_discrete (k % 2) 0) (operands, (op, k / 2)) (successors, (op, k / 2))
    con use_sets k = ite (dec_lt k v) (value_uses, (val, k)) (block_uses, (blk, k - v))
    con vals k = ite (dec_lt k o) (results, (op, k)) (arguments, (blk, k - o))
    con regs k = (regions, (op, k))
    con ops_in k = (ops, (blk, k))
    con blocks_in k = (blocks, (reg, k))

-- a thing is born at the place p, last in its book; a thing ends
abbrev pub born_book : ℕ → Book → Book
born_book p b = record { cap = b.cap; next = suc b.next; live = b.live ++ (b.next, p) ∷ [] }

abbrev pub gone_book : ℕ → Book → Book
gone_book p b = record { cap = b.cap; next = b.next; live = without_by ℕ_discrete (λ e. e.1) p b.live }

unfoldable pub book_birth : Thing → ℕ → Parts → Parts
book_birth a t M = record { books = upd Kind-dec M.books a.0 (born_book a.1 (M.books a.0)); rows = M.rows; homes = M.homes; tags = upd Thing-dec M.tags a t }

unfoldable pub book_end : Thing → Parts → Parts
book_end a M = record { books = upd Kind-dec M.books a.0 (gone_book a.1 (M.books a.0)); rows = M.rows; homes = M.homes; tags = upd Thing-dec M.tags a 0 }
