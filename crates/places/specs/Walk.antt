-- The nest walk by places: what lies inside a thing, in order; and the store without some things. Assumes nothing.
use Rattle.std.specs.Prelude.{List, [], ◌∷◌, ◌++◌, map, ℕ, zero, suc, length}
use Rattle.std.proofs.Math.Option.{Option, none, some}
use Rattle.seqs.specs.Seqs.{count, sum}
use Rattle.places.specs.Store.{Kind, op, blk, reg, val, usg, operands, successors, value_uses, block_uses, results, arguments, regions, ops, blocks, slots, use_sets, node_of, Thing, Thing-dec, Con, Table, State, outer}
use Rattle.places.specs.View.{Rec}
use Rattle.places.specs.Edits.{end_use}

-- the first where the number is 0, and else the second
unfoldable pub pick {ℓ} : {A : Type ℓ} → ℕ → A → A → A
pick zero a b = a
pick (suc n) a b = b

-- 0 for 0, and else 1
abbrev pub sgn : ℕ → ℕ
sgn n = pick n 0 1

-- the elements at which p is 0
abbrev pub sift : {A : Type 0} → (A → ℕ) → List A → List A
sift p [] = []
sift p (x ∷ l) = pick (p x) (x ∷ sift p l) (sift p l)

abbrev pub gather : {A B : Type 0} → (A → List B) → List A → List B
gather f [] = []
gather f (x ∷ l) = f x ++ gather f l

-- ---- the store without the things at which p is not 0: they are in no list, and dead

abbrev pub gone_by : (ℕ → ℕ) → Table → Table
gone_by p t = record { cap = t.cap; next = t.next; num = λ q. pick (p q) (t.num q) 0; order = sift p t.order }

unfoldable pub place_cut_by : (Thing → ℕ) → State → State
place_cut_by p P = record { tab = λ k. gone_by (λ q. p (k, q)) (P.tab k); list = λ c r. sift p (P.list c r); own = λ x f. pick (p x) (P.own x f) none; tag = λ x. pick (p x) (P.tag x) 0 }

abbrev pub among : List Thing → Thing → ℕ
among l x = count Thing-dec x l

-- the things of a list leave all lists, and end
abbrev pub cut_all : List Thing → State → State
cut_all l P = place_cut_by (among l) P

-- ---- the walk

-- the regions of an operation, the blocks of a region, the operations of a block
abbrev pub kids : State → Thing → List Thing
kids P x = P.list x regions ++ (P.list x blocks ++ P.list x ops)

-- x and all inside, from the outside in, by a falling depth
abbrev pub walk_by : (Thing → List Thing) → ℕ → Thing → List Thing
walk_by ch zero x = []
walk_by ch (suc n) x = x ∷ gather (walk_by ch n) (ch x)

abbrev pub kinds : List Kind
kinds = op ∷ blk ∷ reg ∷ val ∷ usg ∷ []

abbrev pub things : State → Kind → List Thing
things P k = map (λ p. (k, p)) (P.tab k).order

abbrev pub population : State → ℕ
population P = length (gather (things P) kinds)

unfoldable pub walk : State → Thing → List Thing
walk P x = walk_by (kids P) (suc (population P)) x

-- the uses of a thing, and its values
abbrev pub place_uses_at : State → Thing → List Thing
place_uses_at P x = P.list x operands ++ P.list x successors

abbrev pub place_values_at : State → Thing → List Thing
place_values_at P x = P.list x results ++ P.list x arguments

-- what f says of the thing, if there is one
abbrev pub over : Option Thing → (Thing → ℕ) → ℕ
over none f = 0
over (some z) f = f z

-- ---- dropping

-- the uses inside, in the order of the walk
unfoldable pub drop_list : State → Thing → List Thing
drop_list P x = gather (place_uses_at P) (walk P x)

unfoldable pub dropped : State → Thing → State
dropped P x = cut_all (drop_list P x) P

-- a use leaves its two lists and ends
abbrev pub end_use_by : Option Con → Option Con → Thing → State → State
end_use_by none d u P = P
end_use_by (some s) none u P = P
end_use_by (some s) (some d) u P = end_use s d u P

abbrev pub end_use_at : Thing → State → State
end_use_at u P = end_use_by (P.own u slots) (P.own u use_sets) u P

abbrev pub place_end_uses : List Thing → State → State
place_end_uses [] P = P
place_end_uses (u ∷ us) P = place_end_uses us (end_use_at u P)

-- ---- by numbers: without the things at which p is not 0

abbrev pub trim : (Kind → ℕ → ℕ) → Rec → Rec
trim p e = record { num = e.num; tag = e.tag; lists = λ r. sift (p (node_of r)) (e.lists r); homes = e.homes }

-- ---- used from outside

-- the use sets of the definitions of a thing: the block itself, arguments, results
abbrev pub def_sets : State → Thing → List Con
def_sets P y = (block_uses, y) ∷ map (λ v. (value_uses, v)) (place_values_at P y)

-- the mark of the operation at which the use stands
abbrev pub mark_of : State → (ℕ → ℕ) → Thing → ℕ
mark_of P mk u = over (outer (P.own u slots)) (λ o. mk o.1)

-- how many uses of the set stand at operations without a mark
unfoldable pub stray_at : State → (ℕ → ℕ) → Con → ℕ
stray_at P mk c = length (sift (mark_of P mk) (P.list c.1 c.0))

-- of the definitions of a thing; and of all inside
unfoldable pub strays : State → (ℕ → ℕ) → Thing → ℕ
strays P mk y = sum (stray_at P mk) (def_sets P y)

unfoldable pub strays_in : State → (ℕ → ℕ) → Thing → ℕ
strays_in P mk x = sum (strays P mk) (walk P x)

-- ---- erasing

-- the values of what is inside, and what is inside
unfoldable pub innards : State → Thing → List Thing
innards P x = gather (λ y. place_values_at P y ++ (y ∷ [])) (walk P x)

-- with the uses
abbrev pub everything : State → Thing → List Thing
everything P x = drop_list P x ++ innards P x

unfoldable pub erased : State → Thing → State
erased P x = cut_all (innards P x) (dropped P x)
