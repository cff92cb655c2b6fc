-- What a check of the parts finds. Assumes nothing: these are definitions.
use Rattle.std.specs.Prelude.{◌≡◌, List, [], ◌∷◌, ℕ, ◌≤◌, ◌<◌, length, get_or}
use Rattle.linked_list.specs.Links.{Linked}
use Rattle.arena.specs.Packed.{Packed, front}
use Rattle.places.specs.Store.{Kind, Fam, alive}
use Rattle.context.specs.declared.Layout.{Layout}
use Rattle.context.specs.Layout.{cap_of, nc_of, nn_of, total, kind_part, fam_part}
use Rattle.table.specs.Table.{stamp}
use Rattle.context.specs.Memory.{part, state_of}

-- the capacities stand in the header
pub record Headed (l : Layout) (m : List ℕ) : Type 0 where
  pub head : part l m 0 ≡ l.ops ∷ l.blocks ∷ l.regions ∷ l.values ∷ l.uses ∷ []

pub record Fits (l : Layout) (m : List ℕ) : Type 0 where
  pub fits : total l ≤ length m

abbrev pub TableOk : Layout → List ℕ → Kind → Type 0
TableOk l m k = Packed (cap_of l k) (part l m (kind_part k))

abbrev pub FamilyOk : Layout → List ℕ → Fam → Type 0
FamilyOk l m f = Linked (nc_of l f) (nn_of l f) (part l m (fam_part f))

pub record TablesOk (l : Layout) (m : List ℕ) : Type 0 where
  pub all : (k : Kind) → TableOk l m k

pub record FamiliesOk (l : Layout) (m : List ℕ) : Type 0 where
  pub all : (f : Fam) → FamilyOk l m f

-- a free place of the table t has a 0 among the tags s
pub record SpareAt (n : ℕ) (t s : List ℕ) (p : ℕ) : Type 0 where
  pub is : stamp n (front n t) p ≡ 0 → get_or s p 0 ≡ 0

pub record SpareIn (n : ℕ) (t s : List ℕ) : Type 0 where
  pub all : (p : ℕ) → p < n → SpareAt n t s p

-- a free place of the kind has no flags, or no type
pub record SpareOk (l : Layout) (m : List ℕ) (k : Kind) : Type 0 where
  pub all : (p : ℕ) → alive (state_of l m) (k, p) ≡ 0 → (state_of l m).tag (k, p) ≡ 0
