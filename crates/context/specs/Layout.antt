-- The parts of the one memory: their sizes, of the five capacities. Assumes nothing: these are definitions.
use Rattle.std.specs.Prelude.{◌≡◌, List, [], ◌∷◌, ℕ, ◌+◌, ◌*◌, ◌/◌, ◌≤◌, ◌<◌}
use Rattle.seqs.specs.Split.{start}
use Rattle.places.specs.Store.{Kind, op, blk, reg, val, usg, Fam, slots, use_sets, vals, regs, ops_in, blocks_in}
use Rattle.places.specs.Parts.{node_in}
use Rattle.context.specs.declared.Layout.{Layout}
use Rattle.context.specs.declared.Span.{Span}
use Rattle.context.specs.declared.Table.{Table}

abbrev pub cap_of : Layout → Kind → ℕ
cap_of l op = l.ops
cap_of l blk = l.blocks
cap_of l reg = l.regions
cap_of l val = l.values
cap_of l usg = l.uses

-- a family's containers, and its nodes
abbrev pub nc_of : Layout → Fam → ℕ
nc_of l slots = 2 * l.ops
nc_of l use_sets = l.values + l.blocks
nc_of l vals = l.ops + l.blocks
nc_of l regs = l.ops
nc_of l ops_in = l.blocks
nc_of l blocks_in = l.regions

abbrev pub nn_of : Layout → Fam → ℕ
nn_of l f = cap_of l (node_in f)

unfoldable pub arena : ℕ → ℕ
arena n = 2 + n + n + (n + 63) / 64 * 2

abbrev pub family : ℕ → ℕ → ℕ
family nc nn = 2 * nc + 3 * nn

-- the header, the five tables, the six families, flags, types
abbrev pub sizes : Layout → List ℕ
sizes l =
    5
    ∷ arena l.ops ∷ arena l.blocks ∷ arena l.regions ∷ arena l.values ∷ arena l.uses
    ∷ family (2 * l.ops) l.uses
    ∷ family (l.values + l.blocks) l.uses
    ∷ family (l.ops + l.blocks) l.values
    ∷ family l.ops l.regions
    ∷ family l.blocks l.ops
    ∷ family l.regions l.blocks
    ∷ l.ops ∷ l.values ∷ []

abbrev pub total : Layout → ℕ
total l = start (sizes l) 14

abbrev pub kind_part : Kind → ℕ
kind_part op = 1
kind_part blk = 2
kind_part reg = 3
kind_part val = 4
kind_part usg = 5

abbrev pub fam_part : Fam → ℕ
fam_part slots = 6
fam_part use_sets = 7
fam_part vals = 8
fam_part regs = 9
fam_part ops_in = 10
fam_part blocks_in = 11

-- the part that holds the flags of operations, and the types of values; the other kinds have none
abbrev pub tag_part : Kind → ℕ
tag_part op = 12
tag_part blk = 14
tag_part reg = 14
tag_part val = 13
tag_part usg = 14

pub data HasTag : Kind → Type 0 where
  flags : HasTag op
  types : HasTag val

-- the limits
pub record Caps (l : Layout) : Type 0 where
  pub ops : l.ops ≤ 4096
  pub blocks : l.blocks ≤ 1024
  pub regions : l.regions ≤ 1024
  pub values : l.values ≤ 8192
  pub uses : l.uses ≤ 16384
  pub some_ops : 0 < l.ops
  pub some_blocks : 0 < l.blocks
  pub some_regions : 0 < l.regions
  pub some_values : 0 < l.values
  pub some_uses : 0 < l.uses

-- where the families start
pub record FamiliesAt (l : Layout) (r : ℕ) : Type 0 where
  pub is : r ≡ start (sizes l) 6
  pub small : r ≤ 300000

-- r is the table of n places that starts at a
pub record TableAt (a n : ℕ) (r : Table) : Type 0 where
  pub at : r.at ≡ a
  pub end : r.end ≡ a + arena n
  pub places : r.places ≡ n

-- r is the family of nc lists and nn nodes that starts at a
pub record FamilyAt (a nc nn : ℕ) (r : Span) : Type 0 where
  pub at : r.at ≡ a
  pub end : r.end ≡ a + family nc nn
  pub containers : r.lists.nc ≡ nc
  pub nodes : r.lists.nn ≡ nn

-- r is where the family f stands
pub record SpanOf (l : Layout) (f : Fam) (r : Span) : Type 0 where
  pub starts : r.at ≡ start (sizes l) (fam_part f)
  pub ends : r.end ≡ r.at + family r.lists.nc r.lists.nn
  pub containers : r.lists.nc ≡ nc_of l f
  pub nodes : r.lists.nn ≡ nn_of l f
  pub fits : r.end ≤ total l
  pub small : r.end ≤ 600000
  pub nc≤ : r.lists.nc ≤ 24576
  pub nn≤ : r.lists.nn ≤ 16384

-- r is where the table of the kind k stands, with its capacity
pub record RoomOf (l : Layout) (k : Kind) (r : Table) : Type 0 where
  pub starts : r.at ≡ start (sizes l) (kind_part k)
  pub ends : r.end ≡ r.at + arena r.places
  pub capacity : r.places ≡ cap_of l k
  pub fits : r.end ≤ total l
  pub small : r.places ≤ 16384

-- r is where the flags, or the types, start
pub record TagsAt (l : Layout) (k : Kind) (r : ℕ) : Type 0 where
  pub starts : r ≡ start (sizes l) (tag_part k)
  pub fits : r + cap_of l k ≤ total l
  pub small : r ≤ 1000000

pub record TotalIs (l : Layout) (r : ℕ) : Type 0 where
  pub is : r ≡ total l
