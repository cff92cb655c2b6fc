-- The store by places: tables, lists, owners; when it is sound; the steps that edits are made of. Assumes nothing.
use Rattle.std.specs.Prelude.{◌≡◌, ◌≢◌, List, [], ◌∷◌, ◌++◌, ℕ, suc, ◌<◌, ◌≤◌, length}
use mathlib.Core.HLevel.{Discrete, ×_discrete}
use Rattle.std.proofs.Math.Option.{Option, none, some}
use Rattle.std.proofs.Math.Decide.{ℕ_discrete}
use Rattle.seqs.specs.Seqs.{upd, tick, seq_insert_at, count, without, In, Rises}

pub data Kind : Type 0 where
  op blk reg val usg : Kind
  deriving Discrete as Kind-dec

-- what a list is to the thing that holds it
pub data Role : Type 0 where
  operands successors value_uses block_uses results arguments regions ops blocks : Role
  deriving Discrete as Role-dec

-- a thing stands in at most one list of each family
pub data Fam : Type 0 where
  slots use_sets vals regs ops_in blocks_in : Fam
  deriving Discrete as Fam-dec

abbrev pub fam : Role → Fam
fam operands = slots
fam successors = slots
fam value_uses = use_sets
fam block_uses = use_sets
fam results = vals
fam arguments = vals
fam regions = regs
fam ops = ops_in
fam blocks = blocks_in

-- the kind of the things in the list
abbrev pub node_of : Role → Kind
node_of operands = usg
node_of successors = usg
node_of value_uses = usg
node_of block_uses = usg
node_of results = val
node_of arguments = val
node_of regions = reg
node_of ops = op
node_of blocks = blk

-- the kind of the thing that has the list
abbrev pub holder_of : Role → Kind
holder_of operands = op
holder_of successors = op
holder_of value_uses = val
holder_of block_uses = blk
holder_of results = op
holder_of arguments = blk
holder_of regions = op
holder_of ops = blk
holder_of blocks = reg

-- the lists with a limit
pub data Limited : Role → Type 0 where
  of_operands : Limited operands
  of_successors : Limited successors
  of_results : Limited results
  of_arguments : Limited arguments
  of_regions : Limited regions

-- a kind and a place; at the level of numbers, a kind and a birth number
abbrev pub Thing : Type 0
Thing = Kind × ℕ

pub Thing-dec : Discrete Thing
Thing-dec = ×_discrete Kind-dec ℕ_discrete

abbrev pub Con : Type 0
Con = Role × Thing

pub Con-dec : Discrete Con
Con-dec = ×_discrete Role-dec Thing-dec

pub record Table : Type 0 where
  pub cap : ℕ
  pub next : ℕ
  -- a place's birth number
  pub num : ℕ → ℕ
  -- the live places, in rising number
  pub order : List ℕ

pub record State : Type 0 where
  pub tab : Kind → Table
  pub list : Thing → Role → List Thing
  pub own : Thing → Fam → Option Con
  -- an operation's flags, a value's type
  pub tag : Thing → ℕ

-- how often a thing stands in its table's order
unfoldable pub alive : State → Thing → ℕ
alive P a = count ℕ_discrete a.1 (P.tab a.0).order

abbrev pub Live : State → Thing → Type 0
Live P a = 0 < alive P a

-- ---- sound

pub record Tab (t : Table) : Type 0 where
  pub rises : Rises t.num t.order
  pub below : (p : ℕ) → In ℕ_discrete p t.order → t.num p < t.next
  pub fits : (p : ℕ) → In ℕ_discrete p t.order → p < t.cap

unfoldable pub owns : Option Con → Con → ℕ
owns none c = 0
owns (some b) c = tick (Con-dec b c)

pub record Link (P : State) (x : Thing) (f : Fam) (c : Con) : Type 0 where
  pub family : fam c.0 ≡ f
  pub node : x.0 ≡ node_of c.0
  pub holder : c.1.0 ≡ holder_of c.0
  pub live : Live P x
  pub home : Live P c.1

-- what a thing lies in
abbrev pub nest : Kind → Option Fam
nest op = some ops_in
nest blk = some blocks_in
nest reg = some regs
nest val = none
nest usg = none

abbrev pub outer : Option Con → Option Thing
outer none = none
outer (some c) = some c.1

abbrev pub up_by : (Fam → Option Con) → Option Fam → Option Thing
up_by h none = none
up_by h (some f) = outer (h f)

unfoldable pub up : State → Thing → Option Thing
up P x = up_by (P.own x) (nest x.0)

-- climbing from x ends
pub data Ends (u : Thing → Option Thing) : Thing → Type 0 where
  top : {x : Thing} → u x ≡ none → Ends u x
  climb : {x y : Thing} → u x ≡ some y → Ends u y → Ends u x

-- climbing from x ends, and o is not met
pub data Clear (u : Thing → Option Thing) (o : Thing) : Thing → Type 0 where
  top : {x : Thing} → x ≢ o → u x ≡ none → Clear u o x
  climb : {x y : Thing} → x ≢ o → u x ≡ some y → Clear u o y → Clear u o x

-- links agree both ways, and only between live things of the right kinds; limits; nothing lies inside itself
pub record Linked (P : State) : Type 0 where
  pub tabs : (k : Kind) → Tab (P.tab k)
  pub held : (r : Role) (c x : Thing) → count Thing-dec x (P.list c r) ≡ owns (P.own x (fam r)) (r, c)
  pub link : (x : Thing) (f : Fam) (c : Con) → P.own x f ≡ some c → Link P x f c
  pub short : (c : Thing) (r : Role) → Limited r → length (P.list c r) ≤ 64
  pub flags : (p : ℕ) → Live P (op, p) → P.tag (op, p) ≤ 3
  pub ends : (x : Thing) → Ends (up P) x

-- an operand's definition is a value, a successor's a block
pub data Fit : Role → Role → Type 0 where
  operand : Fit operands value_uses
  successor : Fit successors block_uses

pub record UseHeld (h : Fam → Option Con) : Type 0 where
  pub slot : Con
  pub def : Con
  pub in_slot : h slots ≡ some slot
  pub in_def : h use_sets ≡ some def
  pub fit : Fit slot.0 def.0

-- the lists that a live thing has to stand in
abbrev pub Placed : Kind → (Fam → Option Con) → Type 0
Placed op h = Unit {0}
Placed blk h = Unit {0}
Placed reg h = (c : Con) × (h regs ≡ some c)
Placed val h = (c : Con) × (h vals ≡ some c)
Placed usg h = UseHeld h

pub record Sound (P : State) : Type 0 where
  pub linked : Linked P
  pub placed : (x : Thing) → Live P x → Placed x.0 (P.own x)

-- ---- the steps

abbrev pub born : ℕ → Table → Table
born p t = record { cap = t.cap; next = suc t.next; num = upd ℕ_discrete t.num p t.next; order = t.order ++ p ∷ [] }

abbrev pub gone : ℕ → Table → Table
gone p t = record { cap = t.cap; next = t.next; num = upd ℕ_discrete t.num p 0; order = without ℕ_discrete p t.order }

-- the thing a is born, with the flags or type t, in no list and with empty lists
unfoldable pub birth : Thing → ℕ → State → State
birth a t P = record { tab = upd Kind-dec P.tab a.0 (born a.1 (P.tab a.0)); list = P.list; own = P.own; tag = upd Thing-dec P.tag a t }

-- the thing a ends; its flags or type are 0 then
unfoldable pub end : Thing → State → State
end a P = record { tab = upd Kind-dec P.tab a.0 (gone a.1 (P.tab a.0)); list = P.list; own = P.own; tag = upd Thing-dec P.tag a 0 }

unfoldable pub set_list : Con → List Thing → State → State
set_list c l P = record { tab = P.tab; list = upd Thing-dec P.list c.1 (upd Role-dec (P.list c.1) c.0 l); own = P.own; tag = P.tag }

unfoldable pub set_own : Thing → Fam → Option Con → State → State
set_own x f o P = record { tab = P.tab; list = P.list; own = upd Thing-dec P.own x (upd Fam-dec (P.own x) f o); tag = P.tag }

-- the list c becomes l, and x comes to stand in o, of c's family
unfoldable pub relink : Con → List Thing → Thing → Option Con → State → State
relink c l x o P = set_own x (fam c.0) o (set_list c l P)

-- x comes to stand at index i of the list c, or last
unfoldable pub enter : Con → ℕ → Thing → State → State
enter c i x P = relink c (seq_insert_at i x (P.list c.1 c.0)) x (some c) P

-- x leaves the list c
unfoldable pub leave : Con → Thing → State → State
leave c x P = relink c (without Thing-dec x (P.list c.1 c.0)) x none P

-- a store with nothing in it
unfoldable pub empty : (Kind → ℕ) → State
empty cap = record { tab = λ k. record { cap = cap k; next = 0; num = λ p. 0; order = [] }; list = λ a r. []; own = λ a f. none; tag = λ a. 0 }
