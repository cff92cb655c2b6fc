-- The parts of a lent store as slices; the cells and the parts that they are; when the store is checked, and when it is sound. Assumes nothing.
use Rattle.std.specs.Prelude.{List, [], ℕ, length, get_or}
use Rattle.places.specs.Store.{Kind, op, blk, reg, val, usg, Fam, slots, use_sets, vals, regs, ops_in, blocks_in}
use Rattle.places.specs.Parts.{Parts, node_in}
use Rattle.table.specs.Table as T
use Rattle.linked_list.specs.Links as L
use Rattle.sound_parts.specs.Cross.{Cells, conts, Crossed, code_of, SoundBy}

pub record Mem : Type 0 where
  pub cap : Kind → ℕ
  pub table : Kind → List ℕ
  pub family : Fam → List ℕ
  pub flags : List ℕ
  pub types : List ℕ

-- containers and nodes of a family
abbrev pub nc : (Kind → ℕ) → Fam → ℕ
nc cap f = conts cap f

abbrev pub nn : (Kind → ℕ) → Fam → ℕ
nn cap f = cap (node_in f)

-- the container of a node, as stored
abbrev pub home_at : (Kind → ℕ) → (Fam → List ℕ) → Fam → ℕ → ℕ
home_at cap s f q = get_or (s f) (L.home (nc cap f) (nn cap f) q) 0

-- the list of a container
abbrev pub row_at : (Kind → ℕ) → (Fam → List ℕ) → Fam → ℕ → List ℕ
row_at cap s f c = get_or (L.lists (nc cap f) (nn cap f) (s f)) c []

abbrev pub cells_of : Mem → Cells
cells_of m =
    record {
      cap = m.cap;
      stamp = λ k p. T.stamp (m.cap k) (m.table k) p;
      home = home_at m.cap m.family;
      len = λ f c. length (row_at m.cap m.family f c);
      flag = λ p. get_or m.flags p 0;
      depth = T.count (m.table op);
    }

abbrev pub tag_in : Mem → Kind → ℕ → ℕ
tag_in m op p = get_or m.flags p 0
tag_in m blk p = 0
tag_in m reg p = 0
tag_in m val p = get_or m.types p 0
tag_in m usg p = 0

unfoldable pub parts_of : Mem → Parts
parts_of m =
    record {
      books = λ k. record { cap = m.cap k; next = T.next (m.table k); live = T.live (m.cap k) (m.table k) };
      rows = row_at m.cap m.family;
      homes = λ f q. code_of (home_at m.cap m.family f q);
      tags = λ a. tag_in m a.0 a.1;
    }

-- each part is well formed in itself
pub record Formed (m : Mem) : Type 0 where
  pub tables : (k : Kind) → T.Table (m.cap k) (m.table k)
  pub links : (f : Fam) → L.Linked (nc m.cap f) (nn m.cap f) (m.family f)

-- what the check tests
pub record Checked (m : Mem) : Type 0 where
  pub formed : Formed m
  pub crossed : Crossed (cells_of m)

-- the parts are well formed, and the store that they are is sound
pub record SoundMem (m : Mem) : Type 0 where
  pub formed : Formed m
  pub sound : SoundBy (cells_of m) (parts_of m)

-- ---- the same from twelve slices

abbrev pub cap_of : ℕ → ℕ → ℕ → ℕ → ℕ → Kind → ℕ
cap_of o b r v u op = o
cap_of o b r v u blk = b
cap_of o b r v u reg = r
cap_of o b r v u val = v
cap_of o b r v u usg = u

abbrev pub tables_of : List ℕ → List ℕ → List ℕ → List ℕ → List ℕ → Kind → List ℕ
tables_of to tb tr tv tu op = to
tables_of to tb tr tv tu blk = tb
tables_of to tb tr tv tu reg = tr
tables_of to tb tr tv tu val = tv
tables_of to tb tr tv tu usg = tu

abbrev pub families_of : List ℕ → List ℕ → List ℕ → List ℕ → List ℕ → List ℕ → Fam → List ℕ
families_of ss su sv sr so sb slots = ss
families_of ss su sv sr so sb use_sets = su
families_of ss su sv sr so sb vals = sv
families_of ss su sv sr so sb regs = sr
families_of ss su sv sr so sb ops_in = so
families_of ss su sv sr so sb blocks_in = sb

abbrev pub mem_of : (o b r v u : ℕ) (to tb tr tv tu ss su sv sr so sb fl ty : List ℕ) → Mem
mem_of o b r v u to tb tr tv tu ss su sv sr so sb fl ty =
    record { cap = cap_of o b r v u; table = tables_of to tb tr tv tu; family = families_of ss su sv sr so sb; flags = fl; types = ty }
