-- The texts of the functions, of a store by places: its lists, its things, and what the rules' listing has for them.
-- Assumes nothing: these are definitions.
use Rattle.std.specs.Prelude.{◌≡◌, List, [], ◌∷◌, ◌++◌, map, ℕ, zero, suc, ◌+◌, ◌*◌, get_or}
use Rattle.std.specs.Prelude as Rust
use Rattle.std.specs.Prelude.{Some, None}
use Rattle.std.proofs.Math.Option.{Option}
use Rattle.places.specs.Store.{Kind, op, blk, reg, val, usg, blocks, Fam, slots, use_sets, vals, regs, ops_in, blocks_in, Thing, State}
use Rattle.places.specs.View.{num, home_by, rec_of}
use Rattle.places.specs.Hist.{number, def_by, op_of, block_of, use_of}
use Rattle.places.specs.Alias.{RState}
use Rattle.edit.specs.Record.{Definition}
use Rattle.edit.specs.Answer.{Reply}
use Rattle.rules.specs.Table.{find, keys_where}
use Rattle.rules.specs.History.{same_definition}
use Rattle.rules.specs.Step.{definition_number}
use Rattle.rules.specs.Listing as rules
use Rattle.context.specs.declared.Layout.{Layout}
use Rattle.context.specs.Memory.{con, state_of}
use Rattle.context.specs.Reading.{list_of}

-- a number in a list: a use in an operation's list with its definition, all else alone
abbrev pub node_text : RState → Fam → ℕ → List ℕ
node_text s slots n = rules.num n ++ (58 ∷ rules.digits 10 (definition_number (find s.history.uses n)) [])
node_text s use_sets n = rules.num n
node_text s vals n = rules.num n
node_text s regs n = rules.num n
node_text s ops_in n = rules.num n
node_text s blocks_in n = rules.num n

-- the numbers of a list
abbrev pub row_text : RState → Fam → List ℕ → List ℕ
row_text s f [] = []
row_text s f (n ∷ ns) = node_text s f n ++ row_text s f ns

-- the numbers in the list k of the family f
abbrev pub numbers_among : Layout → List ℕ → Fam → ℕ → List ℕ
numbers_among l m f k = map (num (state_of l m)) (list_of l m (con l f k))

-- the number of what the thing x stands in, of the family f
abbrev pub home_number : State → Thing → Fam → Option ℕ
home_number P x f = number (home_by (num P) (P.own x f))

-- the containers of the family f are things of the kind k, each at the place that is its number among them
abbrev pub Holders : Layout → Fam → Kind → Type 0
Holders l f k = (d : ℕ) → (con l f d).1 ≡ (k, d)

-- the definition whose set of uses is the container k
abbrev pub definition_at : Layout → List ℕ → ℕ → Definition
definition_at l m k = def_by (con l use_sets k).0 (num (state_of l m) (con l use_sets k).1)

-- a use by its place, with its definition
abbrev pub use_entry : State → ℕ → ℕ × Definition
use_entry P u = (num P (usg, u), use_of (rec_of P (usg, u)))

-- the uses of d among those at the places us
abbrev pub uses_among : State → Definition → List ℕ → List ℕ
uses_among P d us = keys_where (same_definition d) (map (use_entry P) us)

-- what Rust's option says
abbrev pub listed : Rust.Option ℕ → List ℕ
listed None = []
listed (Some x) = x ∷ []

-- the lines of the things of the kind k at the places ps
abbrev pub lines : RState → State → Kind → List ℕ → List ℕ
lines s P op ps = rules.op_lines s (map (λ p. (num P (op, p), op_of (rec_of P (op, p)))) ps)
lines s P blk ps = rules.block_lines s (map (λ p. (num P (blk, p), block_of (rec_of P (blk, p)))) ps)
lines s P reg ps = rules.region_lines s (map (λ p. (num P (reg, p), (rec_of P (reg, p)).lists blocks)) ps)
lines s P val ps = rules.value_lines s (map (λ p. (num P (val, p), (rec_of P (val, p)).tag)) ps)
lines s P usg ps = []

-- the three numbers of the i-th answer
abbrev pub reply_listed : List ℕ → ℕ → Reply
reply_listed ws i = record { refusal = get_or ws (3 * i) 0; a = get_or ws (3 * i + 1) 0; b = get_or ws (3 * i + 2) 0 }

-- n replies from the i-th on
abbrev pub replies_from : List ℕ → ℕ → ℕ → List Reply
replies_from ws i zero = []
replies_from ws i (suc n) = reply_listed ws i ∷ replies_from ws (suc i) n
