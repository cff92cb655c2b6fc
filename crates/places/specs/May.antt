-- When a step may be taken: the birth of a thing, its end, and its entry into a list. Assumes nothing.
use Rattle.std.specs.Prelude.{◌≡◌, [], ℕ, ◌<◌, ◌≤◌, length}
use Rattle.std.proofs.Math.Option.{none, some}
use Rattle.places.specs.Store.{op, Role, Fam, fam, node_of, holder_of, Limited, Thing, Con, State, alive, Live, nest, up, Clear}

-- a may be born
pub record Fresh (P : State) (a : Thing) (t : ℕ) : Type 0 where
  pub dead : alive P a ≡ 0
  pub room : a.1 < (P.tab a.0).cap
  pub flags : a.0 ≡ op → t ≤ 3

-- a may end: it stands in no list, and its own are empty
pub record Bare (P : State) (a : Thing) : Type 0 where
  pub alone : (f : Fam) → P.own a f ≡ none
  pub empty : (r : Role) → P.list a r ≡ []

-- x may come to stand in c: it stands in no list of that family, c has room, and what has the list does not lie in x
pub record CanEnter (P : State) (c : Con) (x : Thing) : Type 0 where
  pub free : P.own x (fam c.0) ≡ none
  pub node : x.0 ≡ node_of c.0
  pub holder : c.1.0 ≡ holder_of c.0
  pub live : Live P x
  pub home : Live P c.1
  pub limit : Limited c.0 → length (P.list c.1 c.0) < 64
  pub clear : nest x.0 ≡ some (fam c.0) → Clear (up P) x c.1
