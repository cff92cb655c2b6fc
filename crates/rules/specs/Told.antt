-- What the accepted edits say, read off the calls' bytes and answers alone: which edits were accepted, and for each use, operation and block
-- which of them gave it birth, placed it or ended it. Assumes nothing: these are definitions.
use Rattle.std.specs.Prelude.{◌≡◌, Bool, false, not, cond, ◌&&◌, ◌||◌, List, [], ◌∷◌, ◌++◌, map, ℕ, ◌+◌, ◌-◌, T, eqb, leb, ltb, length, get_or}
use Rattle.std.proofs.Math.Option.{Option, none, some}
use Rattle.rules.specs.Table.{find, some_and, member, nth, when, or_before}
use Rattle.edit.specs.Record.{Slot, Thing, the_operation, the_block, the_region, Definition, of_value, of_block, Edit, new_operation, new_block, push_use, insert_use, replace_use, remove_use, pop_use, push_value, insert_value, remove_value, pop_value, link_after, link_before, link_front, link_back, unlink, move_region, move_use, replace_some, retarget_some, drop_uses, erase_operation, erase_block, erase_region, verdict}
use Rattle.edit.specs.Record.{Cut, nothing, broken, whole, cut, Read, refused, asks, read}
use Rattle.rules.specs.History.{Five, History, zeros, plus, begin, births, remember, slot_of, uses_inside, operation_in, block_in, region_index, defined, same_definition, user, block_at}
use Rattle.rules.specs.Orders.{Orders, no_orders, reorder}
use Rattle.edit.specs.Answer.{Reply}
use Rattle.rules.specs.Calls.{Call, bytes_of}

-- ---- the accepted edits, the latest first

-- is it an acceptance?
unfoldable pub accepted : Reply → Bool
accepted r = eqb r.refusal 0

-- an edit noted, if the record asks for one
unfoldable pub note : List Edit → Read → List Edit
note l (refused n) = l
note l (asks e) = e ∷ l

-- one record, if it is one, and on with the rest
unfoldable pub tell_cut : (List Edit → List ℕ → List Edit) → List Edit → Cut → Bool → List Edit
tell_cut on l nothing b = l
tell_cut on l broken b = l
tell_cut on l (whole kind fs rest) b = on (cond b (note l (read kind fs)) l) rest

-- a call's records with their answers, one after another
unfoldable pub tell : List Reply → List Edit → List ℕ → List Edit
tell [] l bytes = l
tell (r ∷ rs) l bytes = tell_cut (tell rs) l (cut bytes) (accepted r)

-- the accepted edits of a list of calls, the latest first, after those of l
unfoldable pub recall : List Edit → List Call → List (List Reply) → List Edit
recall l [] rss = l
recall l (c ∷ cs) [] = l
recall l (c ∷ cs) (rs ∷ rss) = recall (tell rs l (bytes_of c)) cs rss

-- the history of uses after these edits
unfoldable pub told : List Edit → History
told [] = begin
told (e ∷ es) = remember e (told es)

-- the orders after them
unfoldable pub told_orders : List Edit → Orders
told_orders [] = no_orders
told_orders (e ∷ es) = reorder e (told es) (told (e ∷ es)) (told_orders es)

-- ---- births

-- of the kind's numbers, does the edit give n? They go on from those given before it
unfoldable pub gives : (Five → ℕ) → Edit → History → ℕ → Bool
gives kind e h n = leb (kind h.born) n && ltb n (kind h.born + kind (births e))

-- how many were born of each kind
unfoldable pub born : List Edit → Five
born [] = zeros
born (e ∷ es) = plus (born es) (births e)

-- ---- endings

-- the use at index i of an operation's list
unfoldable pub use_at : Slot → ℕ → ℕ → History → ℕ
use_at sl o i h = get_or (slot_of sl (find h.operations o)) i 0

-- the uses that the edit ends: 5 to 7 and 10 to 12 the one taken out, 36 to 41 all operands and successors in the thing
unfoldable pub ended_uses : Edit → History → List ℕ
ended_uses (new_operation fl ts vs bs g) h = []
ended_uses (new_block ts) h = []
ended_uses (push_use sl o d) h = []
ended_uses (insert_use sl o i d) h = []
ended_uses (replace_use sl o i d) h = use_at sl o i h ∷ []
ended_uses (remove_use sl o i) h = use_at sl o i h ∷ []
ended_uses (pop_use sl o) h = use_at sl o (length (slot_of sl (find h.operations o)) - 1) h ∷ []
ended_uses (push_value m o ty) h = []
ended_uses (insert_value m o i ty) h = []
ended_uses (remove_value m o i) h = []
ended_uses (pop_value m o) h = []
ended_uses (link_after m x k) h = []
ended_uses (link_before m x k) h = []
ended_uses (link_front m x c) h = []
ended_uses (link_back m x c) h = []
ended_uses (unlink m x) h = []
ended_uses (move_region r o) h = []
ended_uses (move_use sl a u b) h = []
ended_uses (replace_some a b us) h = []
ended_uses (retarget_some a b ps) h = []
ended_uses (drop_uses t) h = uses_inside h t
ended_uses (erase_operation n) h = uses_inside h (the_operation n)
ended_uses (erase_block n) h = uses_inside h (the_block n)
ended_uses (erase_region o i) h = uses_inside h (the_region (region_index o i h))
ended_uses (verdict t) h = []

-- the thing that 39 to 41 end with all inside it
unfoldable pub erased : Edit → History → Option Thing
erased (new_operation fl ts vs bs g) h = none
erased (new_block ts) h = none
erased (push_use sl o d) h = none
erased (insert_use sl o i d) h = none
erased (replace_use sl o i d) h = none
erased (remove_use sl o i) h = none
erased (pop_use sl o) h = none
erased (push_value m o ty) h = none
erased (insert_value m o i ty) h = none
erased (remove_value m o i) h = none
erased (pop_value m o) h = none
erased (link_after m x k) h = none
erased (link_before m x k) h = none
erased (link_front m x c) h = none
erased (link_back m x c) h = none
erased (unlink m x) h = none
erased (move_region r o) h = none
erased (move_use sl a u b) h = none
erased (replace_some a b us) h = none
erased (retarget_some a b ps) h = none
erased (drop_uses t) h = none
erased (erase_operation n) h = some (the_operation n)
erased (erase_block n) h = some (the_block n)
erased (erase_region o i) h = some (the_region (region_index o i h))
erased (verdict t) h = none

-- does the edit end the use?
unfoldable pub ends_use : Edit → History → ℕ → Bool
ends_use e h u = member u (ended_uses e h)

-- the operation?
unfoldable pub ends_operation : Edit → History → ℕ → Bool
ends_operation e h n = some_and (erased e h) (λ t. operation_in h t n)

-- the block?
unfoldable pub ends_block : Edit → History → ℕ → Bool
ends_block e h n = some_and (erased e h) (λ t. block_in h t n)

-- how many uses were ended
unfoldable pub ended : List Edit → ℕ
ended [] = 0
ended (e ∷ es) = ended es + length (ended_uses e (told es))

-- ---- born and not ended since

-- born and not ended: the latest edit gave it birth, or it lived before that edit and the edit does not end it
unfoldable pub lives : (Edit → History → ℕ → Bool) → (Edit → History → ℕ → Bool) → List Edit → ℕ → Bool
lives births-it ends_it [] n = false
lives births-it ends_it (e ∷ es) n = let r = lives births-it ends_it es n in births-it e (told es) n || (r && not (ends_it e (told es) n))

-- none of these edits, made after those of before, ends n
abbrev pub NoneEnds : (Edit → History → ℕ → Bool) → ℕ → List Edit → List Edit → Type 0
NoneEnds ends_it n [] before = Unit {0}
NoneEnds ends_it n (e ∷ es) before = T (not (ends_it e (told (es ++ before)) n)) × NoneEnds ends_it n es before

-- the same as lives, as demand 3 says it: an edit of the list, by, gave birth to n, and none since has ended it (proofs/Lives: both ways)
pub record BornNotEnded (births-it ends_it : Edit → History → ℕ → Bool) (log : List Edit) (n : ℕ) : Type 0 where
  pub since : List Edit
  pub by : Edit
  pub before : List Edit
  pub all : log ≡ since ++ (by ∷ before)
  pub birth : T (births-it by (told before) n)
  pub no_ending : NoneEnds ends_it n since (by ∷ before)

-- of a use, of an operation, of a block
unfoldable pub use_lives : List Edit → ℕ → Bool
use_lives = lives (gives (λ k. k.uses)) ends_use

unfoldable pub operation_lives : List Edit → ℕ → Bool
operation_lives = lives (gives (λ k. k.operations)) ends_operation

unfoldable pub block_lives : List Edit → ℕ → Bool
block_lives = lives (gives (λ k. k.blocks)) ends_block

-- ---- placing

-- is u a use of d?
unfoldable pub is_use_of : Definition → History → ℕ → Bool
is_use_of d h u = some_and (find h.uses u) (λ x. same_definition x d)

-- where the edit places the use, if it does: a new use at its value or block; 32 to 35 at other
unfoldable pub placing : Edit → History → ℕ → Option Definition
placing (new_operation fl ts vs bs g) h u = cond (leb h.born.uses u) (nth (map of_value vs ++ map of_block bs) (u - h.born.uses)) none
placing (new_block ts) h u = none
placing (push_use sl o d) h u = when (eqb h.born.uses u) (defined sl d)
placing (insert_use sl o i d) h u = when (eqb h.born.uses u) (defined sl d)
placing (replace_use sl o i d) h u = when (eqb h.born.uses u) (defined sl d)
placing (remove_use sl o i) h u = none
placing (pop_use sl o) h u = none
placing (push_value m o ty) h u = none
placing (insert_value m o i ty) h u = none
placing (remove_value m o i) h u = none
placing (pop_value m o) h u = none
placing (link_after m x k) h u = none
placing (link_before m x k) h u = none
placing (link_front m x c) h u = none
placing (link_back m x c) h u = none
placing (unlink m x) h u = none
placing (move_region r o) h u = none
placing (move_use sl a x b) h u = when (not (eqb a b) && eqb x u) (defined sl b)
placing (replace_some a b us) h u = when (is_use_of (of_value a) h u && member u us) (of_value b)
placing (retarget_some a b ps) h u =
    when (is_use_of (of_block a) h u && some_and (user h u) (λ o. some_and (block_at h o) (λ c. member c ps))) (of_block b)
placing (drop_uses t) h u = none
placing (erase_operation n) h u = none
placing (erase_block n) h u = none
placing (erase_region o i) h u = none
placing (verdict t) h u = none

-- the definition that the last edit to place the use named
unfoldable pub placed_at : List Edit → ℕ → Option Definition
placed_at [] u = none
placed_at (e ∷ es) u = let r = placed_at es u in or_before (placing e (told es) u) r
