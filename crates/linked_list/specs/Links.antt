-- Doubly-linked lists over numbers in one slice s, of 2 * nc + 3 * nn numbers for nc containers and nn nodes: head and tail of each container, then
-- next, prev and container of each node. A stored 0 means none, and k + 1 means k.
-- The containers' lists, in order, are a list of lists of nodes, `ls`. `Links nc nn s ls` says that s holds ls, and `lists` reads ls off s.
-- Assumes nothing: these are definitions.
use Rattle.std.specs.Prelude.{◌≡◌, ◌⊎◌, ◌≢◌, ◌↔◌, Bool, true, false, List, [], ◌∷◌, ◌++◌, ℕ, zero, suc, ◌+◌, ◌-◌, ◌*◌, ◌<◌, ◌≤◌, length, get_or, set, replicate, eqb, slice_get, Option, Some, None, option_map}
use Rattle.std.proofs.Math.Decide.{ℕ_discrete}
use Rattle.seqs.specs.Cells.{code}
use Rattle.seqs.specs.Seqs.{seq_insert_at, index_of}

-- what is stored for the i-th node of l: the node + 1, and 0 past the end
abbrev pub at : List ℕ → ℕ → ℕ
at [] i = 0
at (x ∷ xs) zero = suc x
at (x ∷ xs) (suc i) = at xs i

-- what is stored for the node before the i-th: 0 before the first. So l's codes, with a 0 on either side, are place l 0, place l 1, ..
abbrev pub place : List ℕ → ℕ → ℕ
place l zero = 0
place l (suc i) = at l i

-- where s has what follows the code p in container c's list: c's head for 0, and else the node's next
abbrev pub after : ℕ → ℕ → ℕ → ℕ
after nc zero c = c
after nc (suc k) c = 2 * nc + k

-- where s has what precedes the code q in container c's list: c's tail for 0, and else the node's prev
abbrev pub before : ℕ → ℕ → ℕ → ℕ → ℕ
before nc nn zero c = nc + c
before nc nn (suc k) c = 2 * nc + nn + k

-- where s has node k's container
abbrev pub home : ℕ → ℕ → ℕ → ℕ
home nc nn k = 2 * nc + 2 * nn + k

-- container c's list in s is l
pub record Row (nc nn : ℕ) (s : List ℕ) (c : ℕ) (l : List ℕ) : Type 0 where
  pub next : (i : ℕ) → i ≤ length l → get_or s (after nc (place l i) c) 0 ≡ at l i
  pub prev : (i : ℕ) → i ≤ length l → get_or s (before nc nn (at l i) c) 0 ≡ place l i
  pub own : (i x : ℕ) → at l i ≡ suc x → (x < nn) × (get_or s (home nc nn x) 0 ≡ suc c)

-- node n is in no list
pub record Free (nc nn : ℕ) (s : List ℕ) (n : ℕ) : Type 0 where
  pub home0 : get_or s (home nc nn n) 0 ≡ 0
  pub next0 : get_or s (2 * nc + n) 0 ≡ 0
  pub prev0 : get_or s (2 * nc + nn + n) 0 ≡ 0

-- node n is in one of the lists
pub record Held (nc : ℕ) (ls : List (List ℕ)) (n : ℕ) : Type 0 where
  pub cont : ℕ
  pub index : ℕ
  pub cont< : cont < nc
  pub there : at (get_or ls cont []) index ≡ suc n

-- s holds the lists ls, and every node that is in none of them is free
pub record Links (nc nn : ℕ) (s : List ℕ) (ls : List (List ℕ)) : Type 0 where
  pub size : length s ≡ 2 * nc + 3 * nn
  pub count : length ls ≡ nc
  pub row : (c : ℕ) → c < nc → Row nc nn s c (get_or ls c [])
  pub node : (n : ℕ) → n < nn → Free nc nn s n ⊎ Held nc ls n

-- ---- the lists, read off s

-- the nodes from the code k on, along next, at most f of them
unfoldable pub walk : ℕ → List ℕ → ℕ → ℕ → List ℕ
walk nc s zero k = []
walk nc s (suc f) zero = []
walk nc s (suc f) (suc k) = k ∷ walk nc s f (get_or s (2 * nc + k) 0)

-- f 0, f 1, .., f (n - 1)
unfoldable pub tab : ℕ → (ℕ → List ℕ) → List (List ℕ)
tab zero f = []
tab (suc n) f = f zero ∷ tab n (λ k. f (suc k))

-- the containers' lists, in the containers' order
unfoldable pub lists : ℕ → ℕ → List ℕ → List (List ℕ)
unfolding walk tab
lists nc nn s = tab nc (λ c. walk nc s nn (get_or s c 0))

-- s is well linked
abbrev pub Linked : ℕ → ℕ → List ℕ → Type 0
Linked nc nn s = Links nc nn s (lists nc nn s)

-- container c's list
abbrev pub row : ℕ → ℕ → List ℕ → ℕ → List ℕ
row nc nn s c = get_or (lists nc nn s) c []

-- the container that the linked node n is in, and its list
abbrev pub container : ℕ → ℕ → List ℕ → ℕ → ℕ
container nc nn s n = get_or s (home nc nn n) 0 - 1

abbrev pub list_of : ℕ → ℕ → List ℕ → ℕ → List ℕ
list_of nc nn s n = row nc nn s (container nc nn s n)

-- the nodes from k on, where k is none or a node of a list
abbrev pub rest_from : ℕ → ℕ → List ℕ → Option ℕ → List ℕ
rest_from nc nn s k = walk nc s nn (code k)

-- s is well linked, and k is what follows the first nodes of one of its lists
pub record OnRow (nc nn : ℕ) (s : List ℕ) (k : Option ℕ) : Type 0 where
  pub linked : Linked nc nn s
  pub cont : ℕ
  pub index : ℕ
  pub cont< : cont < nc
  pub index≤ : index ≤ length (row nc nn s cont)
  pub there : k ≡ slice_get (row nc nn s cont) index

-- the limits
pub record Sizes (nc nn : ℕ) : Type 0 where
  pub containers : nc ≤ 24576
  pub nodes : nn ≤ 16384

-- ---- what the updates ensure

-- only the container of node n changed, and what is stored for it is v
pub record Homes (nc nn : ℕ) (s s' : List ℕ) (n v : ℕ) : Type 0 where
  pub mine : get_or s' (home nc nn n) 0 ≡ v
  pub others : (m : ℕ) → m ≢ n → get_or s' (home nc nn m) 0 ≡ get_or s (home nc nn m) 0

-- c's list is l now, and what is stored for n's container is v; no other list and no other node's container changed
pub record Rowed (nc nn : ℕ) (s s' : List ℕ) (c : ℕ) (l : List ℕ) (n v : ℕ) : Type 0 where
  pub linked : Linked nc nn s'
  pub c< : c < nc
  pub row : lists nc nn s' ≡ set (lists nc nn s) c l
  pub homes : Homes nc nn s s' n v

-- all of the list `from` stands at the back of the list `to`, and `from` is empty; the nodes of `from` are in `to` now, and no other node's container changed
pub record Appended (nc nn : ℕ) (s s' : List ℕ) (to from : ℕ) : Type 0 where
  pub linked : Linked nc nn s'
  pub rows : lists nc nn s' ≡ set (set (lists nc nn s) to (row nc nn s to ++ row nc nn s from)) from []
  pub moved : (n : ℕ) → get_or s (home nc nn n) 0 ≡ from + 1 → get_or s' (home nc nn n) 0 ≡ to + 1
  pub others : (n : ℕ) → get_or s (home nc nn n) 0 ≢ from + 1 → get_or s' (home nc nn n) 0 ≡ get_or s (home nc nn n) 0

-- every list is empty, and no node is in a list
pub record Emptied (nc nn : ℕ) (s : List ℕ) : Type 0 where
  pub linked : Linked nc nn s
  pub rows : lists nc nn s ≡ replicate nc []
  pub homes : (n : ℕ) → n < nn → get_or s (home nc nn n) 0 ≡ 0

-- n right after m, and right before m
abbrev pub insert_after : ℕ → ℕ → List ℕ → List ℕ
insert_after m n l = seq_insert_at (suc (index_of ℕ_discrete m l)) n l

abbrev pub insert_before : ℕ → ℕ → List ℕ → List ℕ
insert_before m n l = seq_insert_at (index_of ℕ_discrete m l) n l

-- ---- the five stores that take a node in or out, between the codes p and q of container c
unfoldable pub splice : ℕ → ℕ → ℕ → ℕ → ℕ → ℕ → ℕ → ℕ → ℕ → ℕ → ℕ → List ℕ → List ℕ
splice nc nn c p q n u v x y z s =
    set (set (set (set (set s (after nc p c) u) (before nc nn q c) v) (2 * nc + n) x) (2 * nc + nn + n) y) (home nc nn n) z

-- n is put in between p and q, and taken out from between them
abbrev pub put_in : ℕ → ℕ → ℕ → ℕ → ℕ → ℕ → List ℕ → List ℕ
put_in nc nn c p q n s = splice nc nn c p q n (suc n) (suc n) q p (suc c) s

abbrev pub taken_out_of : ℕ → ℕ → ℕ → ℕ → ℕ → ℕ → List ℕ → List ℕ
taken_out_of nc nn c p q n s = splice nc nn c p q n q p 0 0 0 s

-- ---- what the getters read, on lists

abbrev pub choose : {A : Type 0} → Bool → A → A → A
choose true a b = a
choose false a b = b

-- does n stand in the list?
unfoldable pub has : ℕ → List ℕ → Bool
has n [] = false
has n (x ∷ xs) = choose (eqb x n) true (has n xs)

-- the list that has n: none where no list has it
unfoldable pub row_of : ℕ → List (List ℕ) → List ℕ
row_of n [] = []
row_of n (l ∷ ls) = choose (has n l) l (row_of n ls)

-- the container whose list has n: none where no list has it
unfoldable pub cont_of : ℕ → List (List ℕ) → Option ℕ
cont_of n [] = None
cont_of n (l ∷ ls) = choose (has n l) (Some 0) (option_map suc (cont_of n ls))

-- r says which list has n: none exactly where none has it, and c exactly where c's has it
pub record HomeIn (nc : ℕ) (ls : List (List ℕ)) (n : ℕ) (r : Option ℕ) : Type 0 where
  pub none : (r ≡ None) ↔ ((c : ℕ) → c < nc → has n (get_or ls c []) ≡ false)
  pub one : (c : ℕ) → c < nc → (r ≡ Some c) ↔ (has n (get_or ls c []) ≡ true)

-- the node before the i-th of l: none before the first
abbrev pub preceding : List ℕ → ℕ → Option ℕ
preceding l zero = None
preceding l (suc i) = slice_get l i

-- the node after n in l, and the one before it
abbrev pub next_in : ℕ → List ℕ → Option ℕ
next_in n l = slice_get l (suc (index_of ℕ_discrete n l))

abbrev pub prev_in : ℕ → List ℕ → Option ℕ
prev_in n l = preceding l (index_of ℕ_discrete n l)

-- the last node of l
abbrev pub last_in : List ℕ → Option ℕ
last_in l = preceding l (length l)
