-- The store by birth numbers, and its steps there. Assumes nothing.
use Rattle.std.proofs.Math.Logic.{ite}
use Rattle.std.specs.Prelude.{List, [], ◌∷◌, ◌++◌, map, ℕ, suc}
use Rattle.std.proofs.Math.Option.{Option, none, some}
use Rattle.std.proofs.Math.Decide.{ℕ_discrete}
use Rattle.seqs.specs.Seqs.{upd, seq_insert_at, without, without_by}
use Rattle.places.specs.Store.{Kind, Role, operands, successors, value_uses, block_uses, results, arguments, regions, ops, blocks, Fam, use_sets, fam, Thing, Con, Kind-dec, Role-dec, Fam-dec, State}

-- What there is to know of a live thing, by numbers: its lists hold numbers, and a home is a list of another thing.
-- The use sets are not shown: they are what the uses' homes say, in an order that is the store's own.
pub record Rec : Type 0 where
  pub num : ℕ
  pub tag : ℕ
  pub lists : Role → List ℕ
  pub homes : Fam → Option (Role × ℕ)

-- the live things of each kind, in rising number
pub record Names : Type 0 where
  pub next : Kind → ℕ
  pub things : Kind → List Rec

abbrev pub shown : Role → List ℕ → List ℕ
shown operands l = l
shown successors l = l
shown value_uses l = []
shown block_uses l = []
shown results l = l
shown arguments l = l
shown regions l = l
shown ops l = l
shown blocks l = l

abbrev pub num : State → Thing → ℕ
num P a = (P.tab a.0).num a.1

-- a thing by its number, and a list
abbrev pub named : State → Thing → Thing
named P a = (a.0, num P a)

abbrev pub named_c : State → Con → Con
named_c P c = (c.0, named P c.1)

abbrev pub home_by : (Thing → ℕ) → Option Con → Option (Role × ℕ)
home_by nm none = none
home_by nm (some c) = some (c.0, nm c.1)

-- the record of a thing, where nm numbers things
abbrev pub rec_by : (Thing → ℕ) → State → Thing → Rec
rec_by nm P a = record { num = nm a; tag = P.tag a; lists = λ r. shown r (map nm (P.list a r)); homes = λ f. home_by nm (P.own a f) }

unfoldable pub rec_of : State → Thing → Rec
rec_of P a = rec_by (num P) P a

unfoldable pub view : State → Names
view P = record { next = λ k. (P.tab k).next; things = λ k. map (λ p. rec_of P (k, p)) (P.tab k).order }

-- ---- the steps by numbers

abbrev pub amend_in : ℕ → (Rec → Rec) → List Rec → List Rec
amend_in n f l = map (λ e. ite (ℕ_discrete e.num n) (f e) e) l

-- the record of the thing of kind k with the number n is changed by f
unfoldable pub amend : Kind → ℕ → (Rec → Rec) → Names → Names
amend k n f N = record { next = N.next; things = upd Kind-dec N.things k (amend_in n f (N.things k)) }

abbrev pub change_list : Role → (List ℕ → List ℕ) → Rec → Rec
change_list r g e = record { num = e.num; tag = e.tag; lists = upd Role-dec e.lists r (g (e.lists r)); homes = e.homes }

abbrev pub set_home : Fam → Option (Role × ℕ) → Rec → Rec
set_home f o e = record { num = e.num; tag = e.tag; lists = e.lists; homes = upd Fam-dec e.homes f o }

abbrev pub bare : ℕ → ℕ → Rec
bare n t = record { num = n; tag = t; lists = λ r. []; homes = λ f. none }

-- a new thing of a kind, with its next number, in no list and with empty lists
unfoldable pub n_birth : Kind → ℕ → Names → Names
n_birth k t N = record { next = upd Kind-dec N.next k (suc (N.next k)); things = upd Kind-dec N.things k (N.things k ++ bare (N.next k) t ∷ []) }

unfoldable pub n_end : Kind → ℕ → Names → Names
n_end k n N = record { next = N.next; things = upd Kind-dec N.things k (without_by ℕ_discrete (λ e. e.num) n (N.things k)) }

-- x comes to stand in the list c, at index i or last; x leaves c; the shown lists only
unfoldable pub n_enter : Con → ℕ → Thing → Names → Names
n_enter c i x N = amend x.0 x.1 (set_home (fam c.0) (some (c.0, c.1.1))) (amend c.1.0 c.1.1 (change_list c.0 (seq_insert_at i x.1)) N)

unfoldable pub n_leave : Con → Thing → Names → Names
n_leave c x N = amend x.0 x.1 (set_home (fam c.0) none) (amend c.1.0 c.1.1 (change_list c.0 (without ℕ_discrete x.1)) N)

-- a use is held by the use set c
unfoldable pub n_hold : Con → Thing → Names → Names
n_hold c x N = amend x.0 x.1 (set_home use_sets (some (c.0, c.1.1))) N
