-- What the memory holds: the parts, well formed; the store by places. Assumes nothing: these are definitions.
use Rattle.std.specs.Prelude.{◌≡◌, List, [], ◌∷◌, ℕ, zero, suc, ◌≤◌, ◌<◌, leb, ltb, length, get_or, ◌≢◌}
use Rattle.std.proofs.Math.Option.{Option, none, some}
use Rattle.seqs.specs.Split.{split}
use Rattle.linked_list.specs.Links.{home, lists, Linked}
use Rattle.table.specs.Table.{next, live}
use Rattle.arena.specs.Packed.{Packed, front}
use Rattle.seqs.specs.Seqs.{upd}
use Rattle.places.specs.Store.{Thing-dec, Kind, op, blk, reg, val, usg, Fam, Thing, Con, State, alive, Live, Sound, birth, end, enter, leave}
use Rattle.places.specs.View.{num}
use Rattle.rules.specs.Refusal.{check}
use Rattle.std.specs.Prelude as Rust
use Rattle.std.specs.Prelude.{Some, None, Result, Ok, Err}
use Rattle.edit.specs.declared.Refusal.{Refusal}
use Rattle.edit.specs.Kinds.{number_of, code_of}
use Rattle.places.specs.Roles.{missing_code, Unnamed}
use Rattle.std.proofs.Math.Logic.{ite}
use Rattle.std.proofs.Math.Decide.{dec_lt}
use Rattle.places.specs.Parts.{Book, Parts, Rows, node_in, con_of, rows_of, store}
use Rattle.context.specs.declared.Layout.{Layout}
use Rattle.context.specs.Layout.{cap_of, nc_of, nn_of, sizes, total, kind_part, fam_part, Caps}

abbrev pub part : Layout → List ℕ → ℕ → List ℕ
part l m k = get_or (split (sizes l) m) k []

abbrev pub decode : ℕ → Option ℕ
decode zero = none
decode (suc k) = some k

-- what one part says
abbrev pub book_in : ℕ → List ℕ → Book
book_in n s = record { cap = n; next = next (front n s); live = live n (front n s) }

abbrev pub rows_in : ℕ → ℕ → List ℕ → ℕ → List ℕ
rows_in nc nn s k = get_or (lists nc nn s) k []

abbrev pub homes_in : ℕ → ℕ → List ℕ → ℕ → Option ℕ
homes_in nc nn s q = decode (get_or s (home nc nn q) 0)

abbrev pub tag_in : List (List ℕ) → Kind → ℕ → ℕ
tag_in ps op p = get_or (get_or ps 12 []) p 0
tag_in ps blk p = 0
tag_in ps reg p = 0
tag_in ps val p = get_or (get_or ps 13 []) p 0
tag_in ps usg p = 0

unfoldable pub parts_of : Layout → List (List ℕ) → Parts
parts_of l ps =
    record {
      books = λ k. book_in (cap_of l k) (get_or ps (kind_part k) []);
      rows = λ f. rows_in (nc_of l f) (nn_of l f) (get_or ps (fam_part f) []);
      homes = λ f. homes_in (nc_of l f) (nn_of l f) (get_or ps (fam_part f) []);
      tags = λ a. tag_in ps a.0 a.1;
    }

abbrev pub rows_for : Layout → Rows
rows_for l = rows_of l.values l.ops

-- the list whose number among its family's containers is k
abbrev pub con : Layout → Fam → ℕ → Con
con l f k = (rows_for l).con f k

-- k is the number of the list c among those of its family
pub record ListIs (l : Layout) (f : Fam) (c : Con) (k : ℕ) : Type 0 where
  pub row : con l f k ≡ c
  pub inside : k < nc_of l f

abbrev pub state_of : Layout → List ℕ → State
state_of l m = store (rows_for l) (parts_of l (split (sizes l) m))

-- each part is well formed
pub record Well (l : Layout) (m : List ℕ) : Type 0 where
  pub caps : Caps l
  pub fits : total l ≤ length m
  pub head : part l m 0 ≡ l.ops ∷ l.blocks ∷ l.regions ∷ l.values ∷ l.uses ∷ []
  pub tables : (k : Kind) → Packed (cap_of l k) (part l m (kind_part k))
  pub families : (f : Fam) → Linked (nc_of l f) (nn_of l f) (part l m (fam_part f))
  -- a free place has no flags and no type
  pub spare : (a : Thing) → alive (state_of l m) a ≡ 0 → (state_of l m).tag a ≡ 0

pub record SoundStore (l : Layout) (m : List ℕ) : Type 0 where
  pub well : Well l m
  pub sound : Sound (state_of l m)

-- ---- what the thin functions do: the parts stay well formed, and what lies past the store (`rest`) is as it was

-- the node n left its list of the family f
pub record Left (l : Layout) (f : Fam) (n : ℕ) (m m' : List ℕ) : Type 0 where
  pub well : Well l m'
  pub rest : part l m' 14 ≡ part l m 14
  pub state : (c : Con) → (state_of l m).own (node_in f, n) f ≡ some c → state_of l m' ≡ leave c (node_in f, n) (state_of l m)

-- the node n came to stand in the list k of the family f, at index i or last
pub record Entered (l : Layout) (f : Fam) (k i n : ℕ) (m m' : List ℕ) : Type 0 where
  pub well : Well l m'
  pub rest : part l m' 14 ≡ part l m 14
  pub state : state_of l m' ≡ enter (con l f k) i (node_in f, n) (state_of l m)

-- where x stands
pub record Stands (P : State) (x : Thing) (f : Fam) : Type 0 where
  pub list : Con
  pub there : P.own x f ≡ some list

-- the node n left its list of the family f, if it was in one
pub record Freed (l : Layout) (f : Fam) (n : ℕ) (m m' : List ℕ) : Type 0 where
  pub well : Well l m'
  pub rest : part l m' 14 ≡ part l m 14
  pub alone : (state_of l m).own (node_in f, n) f ≡ none → state_of l m' ≡ state_of l m
  pub left : (c : Con) → (state_of l m).own (node_in f, n) f ≡ some c → state_of l m' ≡ leave c (node_in f, n) (state_of l m)

-- a place and a number are left
pub record RoomFor (P : State) (k : Kind) (n : ℕ) : Type 0 where
  pub place : length (P.tab k).order < n
  pub number : (P.tab k).next < 4294967295

-- a thing was born at the place p, the lowest free one; its flags or type are 0
pub record Borne (l : Layout) (k : Kind) (m m' : List ℕ) (p : ℕ) : Type 0 where
  pub well : Well l m'
  pub rest : part l m' 14 ≡ part l m 14
  pub dead : alive (state_of l m) (k, p) ≡ 0
  pub room : p < cap_of l k
  pub lowest : (q : ℕ) → q < p → Live (state_of l m) (k, q)
  pub state : state_of l m' ≡ birth (k, p) 0 (state_of l m)

pub record Finished (l : Layout) (k : Kind) (p : ℕ) (m m' : List ℕ) : Type 0 where
  pub well : Well l m'
  pub rest : part l m' 14 ≡ part l m 14
  pub state : state_of l m' ≡ end (k, p) (state_of l m)

-- the answer of a look-up by number
abbrev pub Finds : State → Kind → ℕ → Rust.Option ℕ → Type 0
Finds P k x (Some p) = Live P (k, p) × (num P (k, p) ≡ x)
Finds P k x None = Unnamed P k x

-- the same, or the refusal
abbrev pub LooksUp : State → Kind → ℕ → Result ℕ Refusal → Type 0
LooksUp P k x (Ok p) = Live P (k, p) × (num P (k, p) ≡ x)
LooksUp P k x (Err e) = Unnamed P k x × (number_of e ≡ missing_code k)

-- what Rust's option says
abbrev pub given : {A : Type 0} → Rust.Option A → Option A
given None = none
given (Some x) = some x

-- the thing a has the flags or the type t
unfoldable pub set_tag : Thing → ℕ → State → State
set_tag a t P = record { tab = P.tab; list = P.list; own = P.own; tag = upd Thing-dec P.tag a t }

-- a thing may get the flags or the type t: a free place only 0
abbrev pub MayTag : State → Thing → ℕ → Type 0
MayTag P a t = alive P a ≡ 0 → t ≡ 0

pub record Tagged (l : Layout) (a : Thing) (t : ℕ) (m m' : List ℕ) : Type 0 where
  pub well : Well l m'
  pub rest : part l m' 14 ≡ part l m 14
  pub state : state_of l m' ≡ set_tag a t (state_of l m)

-- r is the list that the node n of the family f stands in
pub record HomeIs (l : Layout) (f : Fam) (n : ℕ) (m : List ℕ) (r : Rust.Option ℕ) : Type 0 where
  pub own : (state_of l m).own (node_in f, n) f ≡ con_of (con l f) (given r)

-- how long the list k of the family f is; how many things of a kind live; its next number
pub record LengthIs (l : Layout) (f : Fam) (k : ℕ) (m : List ℕ) (r : ℕ) : Type 0 where
  pub is : r ≡ length ((state_of l m).list (con l f k).1 (con l f k).0)

-- 20 where no place is left, 21 where no number is
abbrev pub room_code : ℕ → ℕ → ℕ → ℕ
room_code lives cap next = ite (dec_lt lives cap) (ite (dec_lt next 4294967295) 0 21) 20

pub record RoomIs (l : Layout) (k : Kind) (m : List ℕ) (r : Result (Unit {0}) Refusal) : Type 0 where
  pub is : code_of r ≡ room_code (length ((state_of l m).tab k).order) (cap_of l k) ((state_of l m).tab k).next
  pub some : r ≡ Ok tt → RoomFor (state_of l m) k (cap_of l k)

-- the code of a list of n things of the kind that is to grow at index i: 12, 19, and then 20 and 21
pub record GrowIs (l : Layout) (k : Kind) (n i : ℕ) (m : List ℕ) (r : Result (Unit {0}) Refusal) : Type 0 where
  pub is : code_of r ≡ check (ltb n i) 12 (check (leb 64 n) 19 (room_code (length ((state_of l m).tab k).order) (cap_of l k) ((state_of l m).tab k).next))
  pub short : r ≡ Ok tt → n < 64
  pub room : r ≡ Ok tt → RoomFor (state_of l m) k (cap_of l k)

-- the place of the first of a list
abbrev pub first_place : List Thing → Rust.Option ℕ
first_place [] = None
first_place (x ∷ xs) = Some x.1

pub record FirstIs (l : Layout) (f : Fam) (k : ℕ) (m : List ℕ) (r : Rust.Option ℕ) : Type 0 where
  pub is : r ≡ first_place ((state_of l m).list (con l f k).1 (con l f k).0)

-- the capacities that stand in the header
abbrev pub layout_of : List ℕ → Layout
layout_of m = record { ops = get_or m 0 0; blocks = get_or m 1 0; regions = get_or m 2 0; values = get_or m 3 0; uses = get_or m 4 0 }
