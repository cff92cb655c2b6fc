-- The primitives: what they ask of the store by places, and what they make of it. Assumes nothing: these are definitions.
use Rattle.std.specs.Prelude.{◌≡◌, ◌≢◌, List, [], ◌∷◌, ◌++◌, map, ℕ, ◌+◌, ◌≤◌, ◌<◌, length, get_or}
use Rattle.seqs.specs.Seqs.{seq_swap_out}
use Rattle.std.proofs.Math.Option.{none, some}
use Rattle.places.specs.Store.{Role, op, blk, reg, val, usg, Fam, slots, use_sets, vals, regs, value_uses, regions, Thing, Thing-dec, Con, State, alive, empty, Live, Fit, Clear, up, birth, end, enter, leave, relink}
use Rattle.places.specs.View.{num, Names, view, named, named_c, n_hold, n_enter, n_birth}
use Rattle.places.specs.Edits.{n_drop, birth_use, n_birth_use, end_use, place_move_use}
use Rattle.places.specs.Parts.{node_in}
use Rattle.places.specs.Walk.{cut_all}
use Rattle.context.specs.declared.Layout.{Layout}
use Rattle.context.specs.Layout.{cap_of}
use Rattle.context.specs.Memory.{con, part, state_of, Well, SoundStore, RoomFor}

-- the use at the place u can be held by d
pub record CanMove (P : State) (u : ℕ) (d : Con) : Type 0 where
  pub live : Live P (usg, u)
  pub fit : (s : Con) → P.own (usg, u) slots ≡ some s → Fit s.0 d.0
  pub home : Live P d.1

pub record Moved (l : Layout) (u k : ℕ) (m m' : List ℕ) : Type 0 where
  pub sound : SoundStore l m'
  pub rest : part l m' 14 ≡ part l m 14
  pub state : (d : Con) → (state_of l m).own (usg, u) use_sets ≡ some d → state_of l m' ≡ place_move_use d (con l use_sets k) l.uses (usg, u) (state_of l m)
  pub view : view (state_of l m') ≡ n_hold (named_c (state_of l m) (con l use_sets k)) (named (state_of l m) (usg, u)) (view (state_of l m))

pub record EndedUse (l : Layout) (u : ℕ) (m m' : List ℕ) : Type 0 where
  pub sound : SoundStore l m'
  pub rest : part l m' 14 ≡ part l m 14
  pub state : (s d : Con) → (state_of l m).own (usg, u) slots ≡ some s → (state_of l m).own (usg, u) use_sets ≡ some d → state_of l m' ≡ end_use s d (usg, u) (state_of l m)

-- a use can be born in the slot s, held by d
pub record CanBear (P : State) (n : ℕ) (s d : Con) : Type 0 where
  pub room : RoomFor P usg n
  pub fit : Fit s.0 d.0
  pub slot : Live P s.1
  pub limit : length (P.list s.1 s.0) < 64
  pub home : Live P d.1

pub record BorneUse (l : Layout) (s i d : ℕ) (m m' : List ℕ) (u : ℕ) : Type 0 where
  pub sound : SoundStore l m'
  pub rest : part l m' 14 ≡ part l m 14
  pub dead : alive (state_of l m) (usg, u) ≡ 0
  pub room : u < l.uses
  pub lowest : (q : ℕ) → q < u → Live (state_of l m) (usg, q)
  pub state : state_of l m' ≡ birth_use (con l slots s) i (con l use_sets d) l.uses u (state_of l m)
  pub view : view (state_of l m') ≡ n_birth_use (named_c (state_of l m) (con l slots s)) i (named_c (state_of l m) (con l use_sets d)) (view (state_of l m))

pub record BorneOp (l : Layout) (t : ℕ) (m m' : List ℕ) (p : ℕ) : Type 0 where
  pub sound : SoundStore l m'
  pub rest : part l m' 14 ≡ part l m 14
  pub dead : alive (state_of l m) (op, p) ≡ 0
  pub room : p < l.ops
  pub lowest : (q : ℕ) → q < p → Live (state_of l m) (op, q)
  pub state : state_of l m' ≡ birth (op, p) t (state_of l m)

-- the first n numbers are 0, and the others are as they were
pub record Zeroed (n : ℕ) (m m' : List ℕ) : Type 0 where
  pub long : length m' ≡ length m
  pub zero : (i : ℕ) → i < n → get_or m' i 0 ≡ 0
  pub rest : (i : ℕ) → n ≤ i → get_or m' i 0 ≡ get_or m i 0

-- an empty store; what lies past it is as it was
pub record Started (l : Layout) (m m' : List ℕ) : Type 0 where
  pub sound : SoundStore l m'
  pub rest : part l m' 14 ≡ part l m 14
  pub state : state_of l m' ≡ empty (cap_of l)

-- ---- a loop: all uses of a list of the slots end

abbrev pub slot_list : Layout → ℕ → List ℕ → List Thing
slot_list l s m = (state_of l m).list (con l slots s).1 (con l slots s).0

-- the store once the uses that are in the list have ended
unfoldable pub dropped_to : Layout → ℕ → List ℕ → Names
dropped_to l s m = n_drop (named_c (state_of l m) (con l slots s)) (map (num (state_of l m)) (slot_list l s m)) (view (state_of l m))

-- what is left to do is the whole, and what is counted with it too
pub record Dropping (l : Layout) (s : ℕ) (m m' : List ℕ) (n : ℕ) : Type 0 where
  pub sound : SoundStore l m'
  pub rest : part l m' 14 ≡ part l m 14
  pub state : cut_all (slot_list l s m') (state_of l m') ≡ cut_all (slot_list l s m) (state_of l m)
  pub left : dropped_to l s m' ≡ dropped_to l s m
  pub counted : n + length (slot_list l s m') ≡ length (slot_list l s m)

pub record DroppedAll (l : Layout) (s : ℕ) (m m' : List ℕ) (n : ℕ) : Type 0 where
  pub sound : SoundStore l m'
  pub rest : part l m' 14 ≡ part l m 14
  pub state : state_of l m' ≡ cut_all (slot_list l s m) (state_of l m)
  pub empty : slot_list l s m' ≡ []
  pub view : view (state_of l m') ≡ dropped_to l s m
  pub counted : n ≡ length (slot_list l s m)

-- ---- a region is born into an operation; a value that nothing uses ends

pub record CanHold (P : State) (o n : ℕ) : Type 0 where
  pub room : RoomFor P reg n
  pub home : Live P (op, o)
  pub limit : length (P.list (op, o) regions) < 64

pub record BorneRegion (l : Layout) (o : ℕ) (m m' : List ℕ) (p : ℕ) : Type 0 where
  pub sound : SoundStore l m'
  pub rest : part l m' 14 ≡ part l m 14
  pub dead : alive (state_of l m) (reg, p) ≡ 0
  pub lowest : (q : ℕ) → q < p → Live (state_of l m) (reg, q)
  pub state : state_of l m' ≡ enter (regions, (op, o)) l.regions (reg, p) (birth (reg, p) 0 (state_of l m))
  pub view : view (state_of l m') ≡ n_enter (named_c (state_of l m) (regions, (op, o))) l.regions (reg, (view (state_of l m)).next reg) (n_birth reg 0 (view (state_of l m)))

pub record Unused (P : State) (p : ℕ) : Type 0 where
  pub live : Live P (val, p)
  pub none : P.list (val, p) value_uses ≡ []

pub record EndedValue (l : Layout) (p : ℕ) (m m' : List ℕ) : Type 0 where
  pub sound : SoundStore l m'
  pub rest : part l m' 14 ≡ part l m 14
  pub state : (c : Con) → (state_of l m).own (val, p) vals ≡ some c → state_of l m' ≡ end (val, p) (leave c (val, p) (state_of l m))

-- ---- a block and a value are born

pub record BorneBlock (l : Layout) (m m' : List ℕ) (p : ℕ) : Type 0 where
  pub sound : SoundStore l m'
  pub rest : part l m' 14 ≡ part l m 14
  pub dead : alive (state_of l m) (blk, p) ≡ 0
  pub room : p < l.blocks
  pub lowest : (q : ℕ) → q < p → Live (state_of l m) (blk, q)
  pub state : state_of l m' ≡ birth (blk, p) 0 (state_of l m)

-- a value can be born in the list c, of results or of arguments
pub record CanBearValue (P : State) (n : ℕ) (c : Con) : Type 0 where
  pub room : RoomFor P val n
  pub home : Live P c.1
  pub limit : length (P.list c.1 c.0) < 64

pub record BorneValue (l : Layout) (k i t : ℕ) (m m' : List ℕ) (p : ℕ) : Type 0 where
  pub sound : SoundStore l m'
  pub rest : part l m' 14 ≡ part l m 14
  pub dead : alive (state_of l m) (val, p) ≡ 0
  pub room : p < l.values
  pub lowest : (q : ℕ) → q < p → Live (state_of l m) (val, q)
  pub state : state_of l m' ≡ enter (con l vals k) i (val, p) (birth (val, p) t (state_of l m))
  pub view : view (state_of l m') ≡ n_enter (named_c (state_of l m) (con l vals k)) i (val, (view (state_of l m)).next val) (n_birth val t (view (state_of l m)))

-- ---- an operation, a block or a region ends, that has nothing in its lists

pub record CanEnd (P : State) (a : Thing) : Type 0 where
  pub live : Live P a
  pub empty : (r : Role) → P.list a r ≡ []

-- it is in no list and dead, and its flags are 0
pub record Ended (l : Layout) (a : Thing) (m m' : List ℕ) : Type 0 where
  pub sound : SoundStore l m'
  pub rest : part l m' 14 ≡ part l m 14
  pub state : state_of l m' ≡ cut_all (a ∷ []) (state_of l m)

-- ---- an operation is put into a block and taken out, a block into a region

-- the node n of the family can be put into the list c
pub record CanLinkTo (P : State) (f : Fam) (n : ℕ) (c : Con) : Type 0 where
  pub live : Live P (node_in f, n)
  pub home : Live P c.1
  pub free : P.own (node_in f, n) f ≡ none
  pub clear : Clear (up P) (node_in f, n) c.1

pub record LinkedTo (l : Layout) (f : Fam) (k i n : ℕ) (m m' : List ℕ) : Type 0 where
  pub sound : SoundStore l m'
  pub rest : part l m' 14 ≡ part l m 14
  pub state : state_of l m' ≡ enter (con l f k) i (node_in f, n) (state_of l m)

-- the node n can be put into the list of the mark
pub record CanLinkBy (P : State) (f : Fam) (mark n : ℕ) : Type 0 where
  pub list : Con
  pub there : P.own (node_in f, mark) f ≡ some list
  pub can : CanLinkTo P f n list

-- it stands d after the mark's index now
pub record LinkedBy (l : Layout) (f : Fam) (mark n d : ℕ) (m m' : List ℕ) : Type 0 where
  pub sound : SoundStore l m'
  pub rest : part l m' 14 ≡ part l m 14
  pub state : (c : Con) → (state_of l m).own (node_in f, mark) f ≡ some c → (a b : List Thing) → (state_of l m).list c.1 c.0 ≡ a ++ (node_in f, mark) ∷ b
      → state_of l m' ≡ enter c (length a + d) (node_in f, n) (state_of l m)

pub record Unlinked (l : Layout) (f : Fam) (n : ℕ) (m m' : List ℕ) : Type 0 where
  pub sound : SoundStore l m'
  pub rest : part l m' 14 ≡ part l m 14
  pub state : (c : Con) → (state_of l m).own (node_in f, n) f ≡ some c → state_of l m' ≡ leave c (node_in f, n) (state_of l m)

-- ---- a region moves to another operation

-- the region at r is out of the list c, and the last of the list took its gap
pub record SwappedOut (l : Layout) (r : ℕ) (m m' : List ℕ) : Type 0 where
  pub well : Well l m'
  pub rest : part l m' 14 ≡ part l m 14
  pub state : (h : ℕ) → (state_of l m).own (reg, r) regs ≡ some (regions, (op, h))
      → state_of l m' ≡ relink (regions, (op, h)) (seq_swap_out Thing-dec (reg, r) ((state_of l m).list (op, h) regions)) (reg, r) none (state_of l m)

pub record CanMoveRegion (P : State) (r o : ℕ) : Type 0 where
  pub live : Live P (reg, r)
  pub home : Live P (op, o)
  pub other : P.own (reg, r) regs ≢ some (regions, (op, o))
  pub limit : length (P.list (op, o) regions) < 64
  pub clear : Clear (up P) (reg, r) (op, o)

pub record MovedRegion (l : Layout) (r o : ℕ) (m m' : List ℕ) : Type 0 where
  pub sound : SoundStore l m'
  pub rest : part l m' 14 ≡ part l m 14
  pub state : (h : ℕ) → (state_of l m).own (reg, r) regs ≡ some (regions, (op, h))
      → state_of l m' ≡ enter (regions, (op, o)) l.regions (reg, r) (relink (regions, (op, h)) (seq_swap_out Thing-dec (reg, r) ((state_of l m).list (op, h) regions)) (reg, r) none (state_of l m))
