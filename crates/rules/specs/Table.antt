-- Lists of numbers, and tables: lists of pairs of a number and what it names, numbers rising.
-- The small functions that the rules are written with. Assumes nothing: these are definitions.
use Rattle.std.specs.Prelude.{Bool, true, false, not, cond, ◌||◌, List, [], ◌∷◌, ◌++◌, ℕ, zero, suc, ◌+◌, ◌≤◌, eqb}
use Rattle.std.proofs.Math.Option.{Option, none, some}

-- numbers with what they name
abbrev pub Table : Type 0 → Type 0
Table A = List (ℕ × A)

-- 1 where the test holds, 0 where not
abbrev pub one : Bool → ℕ
one true = 1
one false = 0

-- how often n stands in the list
abbrev pub count : ℕ → List ℕ → ℕ
count n [] = 0
count n (x ∷ xs) = one (eqb x n) + count n xs

module _ {A : Type 0} where
  -- the table's numbers rise from lo on and stay below b: no two entries share one
  abbrev pub Rising : ℕ → ℕ → Table A → Type 0
  Rising lo b [] = lo ≤ b
  Rising lo b (e ∷ t) = (lo ≤ e.0) × Rising (suc e.0) b t

  -- the sum of what w gives for the entries
  abbrev pub weigh : (A → ℕ) → Table A → ℕ
  weigh w [] = 0
  weigh w (e ∷ t) = w e.1 + weigh w t

  -- how often n stands in the lists that g takes from the entries
  abbrev pub spread : (A → List ℕ) → ℕ → Table A → ℕ
  spread g n t = weigh (λ a. count n (g a)) t

  -- those that pass the test, in order
  unfoldable pub keep : (A → Bool) → List A → List A
  keep p [] = []
  keep p (x ∷ xs) = let r = keep p xs in cond (p x) (x ∷ r) r

  -- does one of the list pass the test?
  unfoldable pub any : (A → Bool) → List A → Bool
  any p [] = false
  any p (x ∷ xs) = let r = any p xs in p x || r

  -- a put in at the index; at the end where the list is shorter
  unfoldable pub insert_at : ℕ → A → List A → List A
  insert_at zero a xs = a ∷ xs
  insert_at (suc i) a [] = a ∷ []
  insert_at (suc i) a (x ∷ xs) = x ∷ insert_at i a xs

  -- the list without what stands at the index
  unfoldable pub remove_at : ℕ → List A → List A
  remove_at i [] = []
  remove_at zero (x ∷ xs) = xs
  remove_at (suc i) (x ∷ xs) = x ∷ remove_at i xs

  -- is anything there?
  unfoldable pub is_some : Option A → Bool
  is_some none = false
  is_some (some a) = true

  -- the test, passed by what is there
  unfoldable pub some_and : Option A → (A → Bool) → Bool
  some_and none p = false
  some_and (some a) p = p a

  -- what the number names, if anything
  unfoldable pub find : Table A → ℕ → Option A
  find [] n = none
  find (e ∷ t) n = let r = find t n in cond (eqb e.0 n) (some e.1) r

  -- the first number that names something that passes the test
  unfoldable pub find_key : (A → Bool) → Table A → Option ℕ
  find_key p [] = none
  find_key p (e ∷ t) = let r = find_key p t in cond (p e.1) (some e.0) r

  -- the numbers, in order
  unfoldable pub keys : Table A → List ℕ
  keys [] = []
  keys (e ∷ t) = e.0 ∷ keys t

  -- the numbers of what passes the test
  unfoldable pub keys_where : (A → Bool) → Table A → List ℕ
  keys_where p [] = []
  keys_where p (e ∷ t) = let r = keys_where p t in cond (p e.1) (e.0 ∷ r) r

  -- what they name, in order
  unfoldable pub items : Table A → List A
  items [] = []
  items (e ∷ t) = e.1 ∷ items t

  -- what the number names, changed, at every entry with that number
  unfoldable pub change : ℕ → (A → A) → Table A → Table A
  change n f [] = []
  change n f (e ∷ t) = let r = change n f t in cond (eqb e.0 n) ((e.0, f e.1) ∷ r) (e ∷ r)

  -- every entry changed, by its number
  unfoldable pub change_all : (ℕ → A → A) → Table A → Table A
  change_all f [] = []
  change_all f (e ∷ t) = (e.0, f e.0 e.1) ∷ change_all f t

  -- the entries whose numbers pass the test
  unfoldable pub keep_keys : (ℕ → Bool) → Table A → Table A
  keep_keys p [] = []
  keep_keys p (e ∷ t) = let r = keep_keys p t in cond (p e.0) (e ∷ r) r

  -- the list, numbered from n on
  unfoldable pub number : ℕ → List A → Table A
  number n [] = []
  number n (x ∷ xs) = (n, x) ∷ number (suc n) xs

  -- the lists that f gives for the entries whose numbers pass the test, one after another
  unfoldable pub gather {κ} : {B : Type κ} → (ℕ → Bool) → (ℕ → A → List B) → Table A → List B
  gather p f [] = []
  gather p f (e ∷ t) = let r = gather p f t in cond (p e.0) (f e.0 e.1 ++ r) r

  -- every entry made anew
  unfoldable pub remake : {B : Type 0} → (ℕ → A → B) → Table A → Table B
  remake f [] = []
  remake f (e ∷ t) = (e.0, f e.0 e.1) ∷ remake f t

  -- what stands at the index, if anything
  unfoldable pub nth : List A → ℕ → Option A
  nth [] i = none
  nth (x ∷ xs) zero = some x
  nth (x ∷ xs) (suc i) = nth xs i

  -- a where the test holds
  unfoldable pub when : Bool → A → Option A
  when true a = some a
  when false a = none

  -- the first of the two that is there
  unfoldable pub or_before : Option A → Option A → Option A
  or_before (some a) o = some a
  or_before none o = o

  -- the sum of what f gives for the elements
  unfoldable pub sum_over : (A → ℕ) → List A → ℕ
  sum_over f [] = 0
  sum_over f (x ∷ xs) = f x + sum_over f xs

  -- one list after another
  unfoldable pub concat : List (List A) → List A
  concat [] = []
  concat (xs ∷ xss) = xs ++ concat xss

-- k numbers from n on
unfoldable pub up : ℕ → ℕ → List ℕ
up n zero = []
up n (suc k) = n ∷ up (suc n) k

-- does n stand in the list?
unfoldable pub member : ℕ → List ℕ → Bool
member n [] = false
member n (x ∷ xs) = let r = member n xs in eqb x n || r

-- all but n
unfoldable pub without : ℕ → List ℕ → List ℕ
without n xs = keep (λ x. not (eqb x n)) xs

-- what follows n in the list
unfoldable pub next_of : ℕ → List ℕ → Option ℕ
next_of n [] = none
next_of n (x ∷ []) = none
next_of n (x ∷ y ∷ ys) = let r = next_of n (y ∷ ys) in cond (eqb x n) (some y) r

-- what stands before n in the list
unfoldable pub previous_of : ℕ → List ℕ → Option ℕ
previous_of n [] = none
previous_of n (x ∷ []) = none
previous_of n (x ∷ y ∷ ys) = let r = previous_of n (y ∷ ys) in cond (eqb y n) (some x) r

-- a put behind m; the list as it is where m is not in it
unfoldable pub put_after : ℕ → ℕ → List ℕ → List ℕ
put_after m a [] = []
put_after m a (x ∷ xs) = let r = put_after m a xs in cond (eqb x m) (x ∷ a ∷ xs) (x ∷ r)

-- a put in front of m; the list as it is where m is not in it
unfoldable pub put_before : ℕ → ℕ → List ℕ → List ℕ
put_before m a [] = []
put_before m a (x ∷ xs) = let r = put_before m a xs in cond (eqb x m) (a ∷ x ∷ xs) (x ∷ r)

-- the last of x and xs
unfoldable pub last_of : ℕ → List ℕ → ℕ
last_of x [] = x
last_of x (y ∷ ys) = last_of y ys

-- all of x and xs but the last
unfoldable pub front_of : ℕ → List ℕ → List ℕ
front_of x [] = []
front_of x (y ∷ ys) = x ∷ front_of y ys

-- a in place of n
unfoldable pub swap : ℕ → ℕ → List ℕ → List ℕ
swap n a [] = []
swap n a (x ∷ xs) = let r = swap n a xs in cond (eqb x n) (a ∷ xs) (x ∷ r)

-- n taken out, and the last one put into the gap
unfoldable pub swap_out : ℕ → List ℕ → List ℕ
swap_out n [] = []
swap_out n (x ∷ xs) = swap n (last_of x xs) (front_of x xs)

-- does something follow n?
unfoldable pub has_next : ℕ → List ℕ → Bool
has_next n [] = false
has_next n (x ∷ []) = false
has_next n (x ∷ y ∷ ys) = let r = has_next n (y ∷ ys) in eqb x n || r

-- the last of a list, if it has one
unfoldable pub last_item : List ℕ → Option ℕ
last_item [] = none
last_item (x ∷ xs) = some (last_of x xs)
