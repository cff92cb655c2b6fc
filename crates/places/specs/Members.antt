-- What stands in a list of its own sort: an operation in a block, a block in a region; and where in it a mark stands.
-- Assumes nothing: these are definitions.
use Rattle.std.proofs.Math.Logic.{ite}
use mathlib.Core.HLevel.{Discrete}
use Rattle.std.specs.Prelude.{List, [], ◌∷◌, ℕ, suc, length}
use Rattle.std.proofs.Math.Option.{Option, none, some}
use Rattle.std.proofs.Math.Decide.{ℕ_discrete, dec_lt}
use Rattle.seqs.specs.Seqs.{count, seq_swap_out}
use Rattle.places.specs.Store.{op, reg, Role, regions, ops, blocks, fam, node_of, holder_of, Thing, Thing-dec, Con, State, relink, enter}
use Rattle.places.specs.Walk.{pick, walk}
use Rattle.edit.specs.Record.{Member, operation, block}

-- the lists of a sort
abbrev pub role_of : Member → Role
role_of operation = ops
role_of block = blocks

-- the member and the container at a place, and the container's list
abbrev pub member_at : Member → ℕ → Thing
member_at w p = (node_of (role_of w), p)

abbrev pub container_at : Member → ℕ → Thing
container_at w p = (holder_of (role_of w), p)

abbrev pub place_list_at : Member → ℕ → Con
place_list_at w p = (role_of w, container_at w p)

-- the index of the first x, and the length where there is none
abbrev pub position : {A : Type 0} → Discrete A → A → List A → ℕ
position d x [] = 0
position d x (y ∷ l) = ite (d y x) 0 (suc (position d x l))

-- the list that a member stands in
abbrev pub home_of : State → Member → ℕ → Option Con
home_of P w x = P.own (member_at w x) (fam (role_of w))

-- ---- the refusals of 21 to 30, of the store by places: x the member, c the container, k the mark

-- a where it stands in a list, and else b
abbrev pub held_code : Option Con → ℕ → ℕ → ℕ
held_code none a b = b
held_code (some c) a b = a

-- 17 where the container lies in the member
unfoldable pub inside_code : State → Member → ℕ → ℕ → ℕ
inside_code P w x c = pick (count Thing-dec (container_at w c) (walk P (member_at w x))) 0 17

-- the container is the one of the mark, if it stands in one
abbrev pub mark_code : State → Member → ℕ → Option Con → ℕ
mark_code P w x none = 16
mark_code P w x (some c) = inside_code P w x c.1.1

abbrev pub enter_code : State → Member → ℕ → ℕ → ℕ
enter_code P w x c = held_code (home_of P w x) 15 (inside_code P w x c)

abbrev pub beside_code : State → Member → ℕ → ℕ → ℕ
beside_code P w x k = held_code (home_of P w x) 15 (mark_code P w x (home_of P w k))

-- ---- 31

-- the region x moves from the operation o to o': the last region of o takes its gap, and it comes to stand at index i of o', or last
unfoldable pub place_move_region : Thing → Thing → Thing → ℕ → State → State
place_move_region x o o' i P = enter (regions, o') i x (relink (regions, o) (seq_swap_out Thing-dec x (P.list o regions)) x none P)

-- its refusals: p is the present operation of the region at x, o the operation that it is to go to
unfoldable pub move_code : State → ℕ → ℕ → ℕ → ℕ
move_code P x o p = ite (ℕ_discrete o p) 0 (pick (count Thing-dec (op, o) (walk P (reg, x))) (ite (dec_lt (length (P.list (op, o) regions)) 64) 0 19) 17)
