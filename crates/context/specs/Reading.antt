-- What the readers of lists and tables say of the store by places.
-- Assumes nothing: these are definitions.
use Rattle.std.specs.Prelude.{◌≡◌, Option, Some, None, Bool, List, [], ◌∷◌, ◌++◌, map, ℕ, ◌+◌, ◌≤◌, ◌<◌, length, get_or, nat_eq}
use Rattle.std.specs.Option.{option_eq}
use Rattle.std.proofs.Math.Option as math
use Rattle.std.proofs.Math.Option.{none, some}
use Rattle.seqs.specs.Seqs.{seq_last_of}
use Rattle.places.specs.Store.{Kind, op, blk, usg, Fam, slots, use_sets, Thing, Con, Live, outer, up, enter}
use Rattle.places.specs.Parts.{node_in}
use Rattle.places.specs.View.{num}
use Rattle.rules.specs.Table.{any}
use Rattle.context.specs.declared.Layout.{Layout}
use Rattle.context.specs.Layout.{cap_of, nn_of}
use Rattle.context.specs.Memory.{part, con, state_of, first_place, HomeIs, Well}

-- the list c of the store
abbrev pub list_of : Layout → List ℕ → Con → List Thing
list_of l m c = (state_of l m).list c.1 c.0

-- the place of the last of a list
abbrev pub last_place : List Thing → Option ℕ
last_place [] = None
last_place (x ∷ xs) = Some (seq_last_of x xs).1

-- r is the node after n in its list: none where none follows, and where n is in no list
pub record NextIs (l : Layout) (f : Fam) (n : ℕ) (m : List ℕ) (r : Option ℕ) : Type 0 where
  pub none : (state_of l m).own (node_in f, n) f ≡ none → r ≡ None
  pub after : (c : Con) → (state_of l m).own (node_in f, n) f ≡ some c → (a b : List Thing) → list_of l m c ≡ a ++ (node_in f, n) ∷ b → r ≡ first_place b

-- r is whether the list k of the family f has the node n: whether that is the list that the node stands in
pub record HasIs (l : Layout) (f : Fam) (k n : ℕ) (m : List ℕ) (r : Bool) : Type 0 where
  pub home : Option ℕ
  pub at : HomeIs l f n m home
  pub is : r ≡ option_eq nat_eq home (Some k)

-- r is the places of the nodes of the list k of the family f, from first to last
pub record NodesAre (l : Layout) (f : Fam) (k : ℕ) (m : List ℕ) (r : List ℕ) : Type 0 where
  pub are : list_of l m (con l f k) ≡ map (λ (p : ℕ). (node_in f, p)) r

-- r is the last of the list k of the family f
pub record LastIs (l : Layout) (f : Fam) (k : ℕ) (m : List ℕ) (r : Option ℕ) : Type 0 where
  pub is : r ≡ last_place (list_of l m (con l f k))

-- r is the place of the i-th node of the list k of the family f
pub record NthIs (l : Layout) (f : Fam) (k i : ℕ) (m : List ℕ) (r : ℕ) : Type 0 where
  pub is : get_or (list_of l m (con l f k)) i (node_in f, 0) ≡ (node_in f, r)
  pub inside : r < nn_of l f
  pub own : (state_of l m).own (node_in f, r) f ≡ some (con l f k)

-- the node n came to stand in the list of the mark: d after the mark's index
pub record EnteredBy (l : Layout) (f : Fam) (mark n d : ℕ) (m m' : List ℕ) : Type 0 where
  pub well : Well l m'
  pub rest : part l m' 14 ≡ part l m 14
  pub state : (c : Con) → (state_of l m).own (node_in f, mark) f ≡ some c → (a b : List Thing) → list_of l m c ≡ a ++ (node_in f, mark) ∷ b
      → state_of l m' ≡ enter c (length a + d) (node_in f, n) (state_of l m)

-- r is the birth number of the live thing at the place p
pub record NumberIs (l : Layout) (k : Kind) (p : ℕ) (m : List ℕ) (r : ℕ) : Type 0 where
  pub is : r ≡ num (state_of l m) (k, p)

-- r is how many things of the kind live
pub record LiveIs (l : Layout) (k : Kind) (m : List ℕ) (r : ℕ) : Type 0 where
  pub is : r ≡ length ((state_of l m).tab k).order
  pub small : r ≤ cap_of l k

-- r is the number of the next birth
pub record NextNumberIs (l : Layout) (k : Kind) (m : List ℕ) (r : ℕ) : Type 0 where
  pub is : r ≡ ((state_of l m).tab k).next

-- r is the place of the i-th live thing, in rising number
pub record NthLiveIs (l : Layout) (k : Kind) (i : ℕ) (m : List ℕ) (r : ℕ) : Type 0 where
  pub is : r ≡ get_or ((state_of l m).tab k).order i 0
  pub live : Live (state_of l m) (k, r)
  pub inside : r < cap_of l k

-- r is the flags or the type of the thing a
pub record TagIs (l : Layout) (a : Thing) (m : List ℕ) (r : ℕ) : Type 0 where
  pub is : r ≡ (state_of l m).tag a

-- r is the number of the definition whose uses the set d has
pub record DefNumberIs (l : Layout) (d : ℕ) (m : List ℕ) (r : ℕ) : Type 0 where
  pub is : r ≡ num (state_of l m) (con l use_sets d).1

-- r is the number of what the use at the place u is a use of
pub record DefinitionIs (l : Layout) (u : ℕ) (m : List ℕ) (r : ℕ) : Type 0 where
  pub is : (d : Con) → (state_of l m).own (usg, u) use_sets ≡ some d → r ≡ num (state_of l m) d.1

-- r is the operation at which the use at the place u stands
pub record UserIs (l : Layout) (u : ℕ) (m : List ℕ) (r : ℕ) : Type 0 where
  pub is : outer ((state_of l m).own (usg, u) slots) ≡ some (op, r)

-- the block at a place
abbrev pub block_by : Option ℕ → math.Option Thing
block_by None = none
block_by (Some b) = some (blk, b)

-- r is the block of the operation at which the use at the place u stands
pub record BlockOf (l : Layout) (u : ℕ) (m : List ℕ) (r : Option ℕ) : Type 0 where
  pub user : Thing
  pub at : outer ((state_of l m).own (usg, u) slots) ≡ some user
  pub is : up (state_of l m) user ≡ block_by r

-- H holds at each live place of the family
abbrev pub AtLive : Layout → Fam → List ℕ → (ℕ → Type 0) → Type 0
AtLive l f m H = (p : ℕ) → Live (state_of l m) (node_in f, p) → H p

-- r is whether a place of the list k passes the test, whatever the test says of a thing
abbrev pub AnyOf : Layout → Fam → ℕ → List ℕ → (ℕ → Bool → Type 0) → Bool → Type 0
AnyOf l f k m Says r = (t : Thing → Bool) → AtLive l f m (λ p. (b : Bool) → Says p b → b ≡ t (node_in f, p)) → r ≡ any t (list_of l m (con l f k))
