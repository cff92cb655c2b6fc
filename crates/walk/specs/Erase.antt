-- Erasing, once nothing inside is used: what the three functions over the nest ask, and what they make of the store.
-- Assumes nothing: these are definitions.
use Rattle.std.specs.Prelude.{◌≡◌, ◌≢◌, List, [], ℕ, ◌<◌, length, Ok, Err}
use Rattle.seqs.specs.Seqs.{In}
use Rattle.places.specs.Store.{op, Role, vals, Thing, Thing-dec, Con, Con-dec, State, Live}
use Rattle.places.specs.Walk.{sgn, cut_all, walk, place_uses_at, place_values_at, def_sets, drop_list, dropped, innards}
use Rattle.edit.specs.Answer.{Answer}
use Rattle.edit.specs.Kinds.{number_of}
use Rattle.edit.specs.Record.{Member, operation, block, Edit, erase_operation, erase_block}
use Rattle.edit.specs.declared.Nested.{Nested}
use Rattle.edit.specs.declared.Nested.TheVariants.{Operation, Block, Region}
use Rattle.edit.specs.declared.Refusal.{Refusal}
use Rattle.context.specs.declared.Layout.{Layout}
use Rattle.context.specs.Layout.{nc_of}
use Rattle.context.specs.Memory.{part, con, state_of, SoundStore}
use Rattle.context.specs.Reading.{list_of}
use Rattle.walk.specs.Drop.{operations}
use Rattle.walk.specs.Tests.{erase_code}
use Rattle.seqs.specs.Seqs.{count}

-- nothing inside has a use or is used
pub record Unused (P : State) (x : Thing) : Type 0 where
  pub unusing : (z : Thing) → In Thing-dec z (walk P x) → place_uses_at P z ≡ []
  pub unused : (z : Thing) → In Thing-dec z (walk P x) → (c : Con) → In Con-dec c (def_sets P z) → P.list c.1 c.0 ≡ []

pub record CanErase (l : Layout) (x : Thing) (m : List ℕ) : Type 0 where
  pub store : SoundStore l m
  pub live : Live (state_of l m) x
  pub unused : Unused (state_of l m) x

-- x and all inside ended
pub record Erased (l : Layout) (x : Thing) (m m' : List ℕ) : Type 0 where
  pub store : SoundStore l m'
  pub rest : part l m' 14 ≡ part l m 14
  pub state : state_of l m' ≡ cut_all (innards (state_of l m) x) (state_of l m)

-- ---- the values of a list, and those of a thing

-- no value of the list c holds anything
pub record CanEndValues (l : Layout) (c : ℕ) (m : List ℕ) : Type 0 where
  pub store : SoundStore l m
  pub row : c < nc_of l vals
  pub bare : (v : Thing) → In Thing-dec v (list_of l m (con l vals c)) → (r : Role) → (state_of l m).list v r ≡ []

pub record EndedValues (l : Layout) (c : ℕ) (m m' : List ℕ) : Type 0 where
  pub store : SoundStore l m'
  pub rest : part l m' 14 ≡ part l m 14
  pub state : state_of l m' ≡ cut_all (list_of l m (con l vals c)) (state_of l m)

pub record OwnEnded (l : Layout) (x : Thing) (m m' : List ℕ) : Type 0 where
  pub store : SoundStore l m'
  pub rest : part l m' 14 ≡ part l m 14
  pub state : state_of l m' ≡ cut_all (place_values_at (state_of l m) x) (state_of l m)

-- the kind of what lies directly in a thing
abbrev pub inner_kind : Nested → Nested
inner_kind Operation = Region
inner_kind Block = Operation
inner_kind Region = Block

-- by fewer than how many steps a use from outside is one of the thing's own, not of what lies deeper
abbrev pub own_reach : Nested → ℕ
own_reach Operation = 1
own_reach Block = 2
own_reach Region = 0

-- the edit that erases an operation or a block
abbrev pub erase_by : Member → ℕ → Edit
erase_by operation n = erase_operation n
erase_by block n = erase_block n

-- ---- the edit, once the thing is found

pub record EraseDone (l : Layout) (x : Thing) (m m' : List ℕ) (r : Answer) : Type 0 where
  pub store : SoundStore l m'
  pub rest : part l m' 14 ≡ part l m 14
  pub state : state_of l m' ≡ cut_all (innards (state_of l m) x) (dropped (state_of l m) x)
  pub reply : r ≡ Ok (operations (state_of l m) x, length (drop_list (state_of l m) x))

-- refused by 13 or 14, or done; n is the depth of 13
pub record EraseAnswer (l : Layout) (x : Thing) (n : ℕ) (m m' : List ℕ) (r : Answer) : Type 0 where
  pub marks : ℕ → ℕ
  pub right : (o : ℕ) → Live (state_of l m) (op, o) → sgn (marks o) ≡ sgn (count Thing-dec (op, o) (walk (state_of l m) x))
  pub kept : erase_code (state_of l m) marks n x ≢ 0 → (m' ≡ m) × (e : Refusal) × (r ≡ Err e) × (number_of e ≡ erase_code (state_of l m) marks n x)
  pub done : erase_code (state_of l m) marks n x ≡ 0 → EraseDone l x m m' r
