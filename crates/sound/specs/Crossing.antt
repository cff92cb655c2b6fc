-- What the parts of a lent buffer, each well formed, must say of each other. Assumes nothing: these are definitions.
use Rattle.std.specs.Prelude.{◌≡◌, List, ℕ}
use Rattle.arena.specs.Packed.{front}
use Rattle.places.specs.Store.{Kind, op, blk, reg, val, usg, Fam}
use Rattle.context.specs.declared.Layout.{Layout}
use Rattle.context.specs.Layout.{cap_of, nc_of, nn_of, kind_part, fam_part}
use Rattle.context.specs.Memory.{part}
use Rattle.sound_parts.specs.declared.parts.Births.{Births}
use Rattle.sound_parts.specs.declared.parts.Rows.{Rows}
use Rattle.sound_parts.specs.Tests.{UsesOk, ValsOk, NestOk}

-- the order and the stamps of a table
abbrev pub table_in : Layout → List ℕ → Kind → List ℕ
table_in l m k = front (cap_of l k) (part l m (kind_part k))

-- r is the table of the kind k, and the lists of the family f
pub record BirthsOf (l : Layout) (k : Kind) (m : List ℕ) (r : Births) : Type 0 where
  pub words : r.words.now ≡ table_in l m k
  pub places : r.places ≡ cap_of l k

pub record RowsOf (l : Layout) (f : Fam) (m : List ℕ) (r : Rows) : Type 0 where
  pub words : r.words.now ≡ part l m (fam_part f)
  pub lists : r.lists.nc ≡ nc_of l f
  pub nodes : r.lists.nn ≡ nn_of l f

-- the uses, the values, and the nest
abbrev pub UsesCross : Layout → List ℕ → Type 0
UsesCross l m = UsesOk l.ops l.blocks l.values l.uses (table_in l m op) (table_in l m blk) (table_in l m val) (table_in l m usg) (part l m 6) (part l m 7)

abbrev pub ValsCross : Layout → List ℕ → Type 0
ValsCross l m = ValsOk l.ops l.blocks l.values (table_in l m op) (table_in l m blk) (table_in l m val) (part l m 8)

abbrev pub NestCross : Layout → List ℕ → Type 0
NestCross l m = NestOk l.ops l.blocks l.regions (table_in l m op) (table_in l m blk) (table_in l m reg) (part l m 10) (part l m 11) (part l m 9) (part l m 12)
