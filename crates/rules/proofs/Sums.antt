-- Each definition is counted once, and the sizes of all use sets add up to the live uses. Assumes nothing.
use mathlib.Core.Path.{◌≡◌, refl, ap, ◌∙◌}
use mathlib.Core.Bool.{Bool, true, false, cond, ◌||◌}
use mathlib.Core.List.{List, [], ◌∷◌, ◌++◌, map}
use mathlib.Core.Option.{none, some}
use Prim.Native.Nat.{ℕ, zero, suc, ◌+◌, ◌≤◌}
use native.Mathlib.Omega.{arith}
use lib.Dec.{T, eqb}
use lib.ListN.{length}
use Rattle.rules.specs.Table.{Table, find, items, keys, keys_where, concat, any, member, sum_over, one, count}
use Rattle.edit.specs.Record.{Definition, of_value, of_block}
use Rattle.rules.specs.History.{Operation, Block, History, same_definition, uses_of, live_definition, live_value, live_block}
use Rattle.rules.specs.Demand.{tally, all_definitions}
use Rattle.rules.proofs.Tables.{Every, Every-map, or_l, or_r}
use Rattle.rules.proofs.Live.{IsLive, Held}
use Rattle.rules.proofs.Places.{count_append, eqb_comm}
use Rattle.rules.proofs.Rising.{Sorted}
use Rattle.rules.proofs.Inside.{rising_once}
use Rattle.rules.proofs.Laws.{none_some, is_true, spread, any_spread, spread_any}
use Rattle.rules.proofs.Values.{results_in, arguments_in, owners, Valued}
use Rattle.rules.proofs.Listed.{key_none, key_found, found_count}

pub same_flip : (a b : Definition) → same_definition a b ≡ same_definition b a
unfolding same_definition
same_flip (of_value a) (of_value b) = eqb_comm a b
same_flip (of_value a) (of_block b) = refl
same_flip (of_block a) (of_value b) = refl
same_flip (of_block a) (of_block b) = eqb_comm a b

-- ---- each definition once

tally_append : (d : Definition) (xs ys : List Definition) → tally d (xs ++ ys) ≡ tally d xs + tally d ys
unfolding tally
tally_append d [] ys = omega arith
tally_append d (x ∷ xs) ys = omega (arith, tally_append d xs ys)

tally_values : (v : ℕ) (xs : List ℕ) → tally (of_value v) (map of_value xs) ≡ count v xs
unfolding tally same_definition
tally_values v [] = refl
tally_values v (x ∷ xs) = omega (arith, tally_values v xs)

tally_blocks : (b : ℕ) (xs : List ℕ) → tally (of_block b) (map of_block xs) ≡ count b xs
unfolding tally same_definition
tally_blocks b [] = refl
tally_blocks b (x ∷ xs) = omega (arith, tally_blocks b xs)

no_blocks : (v : ℕ) (xs : List ℕ) → tally (of_value v) (map of_block xs) ≡ 0
unfolding tally same_definition
no_blocks v [] = refl
no_blocks v (x ∷ xs) = omega (arith, no_blocks v xs)

no_values : (b : ℕ) (xs : List ℕ) → tally (of_block b) (map of_value xs) ≡ 0
unfolding tally same_definition
no_values b [] = refl
no_values b (x ∷ xs) = omega (arith, no_values b xs)

-- how often a number stands in all the lists that g takes from a table
pub count_lists : {A : Type 0} (g : A → List ℕ) (v : ℕ) (t : Table A) → count v (concat (map g (items t))) ≡ spread g v t
unfolding concat items
count_lists g v [] = refl
count_lists g v (e ∷ t) = omega (arith, count_append v (g e.1) (concat (map g (items t))), count_lists g v t)

at_most : (n : ℕ) (b : Bool) → n ≤ 1 → (T b → 1 ≤ n) → (1 ≤ n → T b) → n ≡ one b
at_most n true h f g = omega (arith, f tt)
at_most zero false h f g = refl
at_most (suc n) false h f g = absurd (g (omega arith))

pub live_owners : (h : History) (v : ℕ) → T (live_value h v) → 1 ≤ owners v h
live_owners h v t = go (any (λ (o : Operation). member v o.results) (items h.operations)) refl (unfold live_value in t)
  where
    go : (x : Bool) → any (λ (o : Operation). member v o.results) (items h.operations) ≡ x → T (x || any (λ (q : Block). member v q.arguments) (items h.blocks)) → 1 ≤ owners v h
    go true z q = omega (arith, spread_any results_in v h.operations (is_true z))
    go false z q = omega (arith, spread_any arguments_in v h.blocks q)

pub owners_live : (h : History) (v : ℕ) → 1 ≤ owners v h → T (live_value h v)
owners_live h v k = unfold live_value in (go (spread results_in v h.operations) refl)
  where
    go : (n : ℕ) → spread results_in v h.operations ≡ n → T (any (λ (o : Operation). member v o.results) (items h.operations) || any (λ (q : Block). member v q.arguments) (items h.blocks))
    go zero z = or_r (any (λ (o : Operation). member v o.results) (items h.operations)) (any (λ (q : Block). member v q.arguments) (items h.blocks)) (any_spread arguments_in v h.blocks (omega arith))
    go (suc n) z = or_l (any (λ (o : Operation). member v o.results) (items h.operations)) (any (λ (q : Block). member v q.arguments) (items h.blocks)) (any_spread results_in v h.operations (omega arith))

pub once_each : (h : History) (b c : ℕ) → Valued b h → Sorted c h.blocks → (d : Definition) → tally d (all_definitions h) ≡ one (live_definition h d)
unfolding all_definitions live_definition
once_each h b c w so (of_value v) =
    let n : tally (of_value v) (map of_value (concat (map results_in (items h.operations)) ++ concat (map arguments_in (items h.blocks))) ++ map of_block (keys h.blocks)) ≡ owners v h = omega (
      arith,
      tally_append (of_value v) (map of_value (concat (map results_in (items h.operations)) ++ concat (map arguments_in (items h.blocks)))) (map of_block (keys h.blocks)),
      tally_values v (concat (map results_in (items h.operations)) ++ concat (map arguments_in (items h.blocks))),
      no_blocks v (keys h.blocks),
      count_append v (concat (map results_in (items h.operations))) (concat (map arguments_in (items h.blocks))),
      count_lists results_in v h.operations,
      count_lists arguments_in v h.blocks,
    ) in
    n ∙ at_most (owners v h) (live_value h v) (w.once v) (live_owners h v) (owners_live h v)
once_each h b c w so (of_block n) =
    let k : tally (of_block n) (map of_value (concat (map results_in (items h.operations)) ++ concat (map arguments_in (items h.blocks))) ++ map of_block (keys h.blocks)) ≡ count n (keys h.blocks) = omega (
      arith,
      tally_append (of_block n) (map of_value (concat (map results_in (items h.operations)) ++ concat (map arguments_in (items h.blocks)))) (map of_block (keys h.blocks)),
      no_values n (concat (map results_in (items h.operations)) ++ concat (map arguments_in (items h.blocks))),
      tally_blocks n (keys h.blocks),
    ) in
    k ∙ at_most (count n (keys h.blocks)) (live_block h n) (rising_once 0 c n h.blocks so.rising) (λ t. found_count h.blocks n (unfold live_block in t)) (λ q. unfold live_block in (key_found h.blocks n q))

-- ---- the sizes

sum_none : (ds : List Definition) → sum_over (λ d. length (keys_where (same_definition d) [])) ds ≡ 0
unfolding sum_over keys_where
sum_none [] = refl
sum_none (d ∷ ds) = omega (arith, sum_none ds)

sum_one : (u : ℕ) (a : Definition) (t : Table Definition) (ds : List Definition) → sum_over (λ d. length (keys_where (same_definition d) ((u, a) ∷ t))) ds ≡ tally a ds + sum_over (λ d. length (keys_where (same_definition d) t)) ds
unfolding sum_over keys_where tally
sum_one u a t [] = refl
sum_one u a t (d ∷ ds) = go (same_definition d a) (sum_one u a t ds)
  where
    go : (b : Bool) → sum_over (λ c. length (keys_where (same_definition c) ((u, a) ∷ t))) ds ≡ tally a ds + sum_over (λ c. length (keys_where (same_definition c) t)) ds → length (cond b (u ∷ keys_where (same_definition d) t) (keys_where (same_definition d) t)) + sum_over (λ c. length (keys_where (same_definition c) ((u, a) ∷ t))) ds ≡ one b + tally a ds + (length (keys_where (same_definition d) t) + sum_over (λ c. length (keys_where (same_definition c) t)) ds)
    go true ih = omega arith
    go false ih = omega arith

pub sum_all : (ds : List Definition) (t : Table Definition) → Every (λ a. tally a ds ≡ 1) t → sum_over (λ d. length (keys_where (same_definition d) t)) ds ≡ length t
sum_all ds [] w = sum_none ds
sum_all ds (e ∷ t) w = omega (arith, sum_one e.0 e.1 t ds, sum_all ds t w.1, w.0)

-- and where no definition is counted twice, they are no more than the uses
pub sum_most : (ds : List Definition) → ((d : Definition) → tally d ds ≤ 1) → (t : Table Definition) → sum_over (λ d. length (keys_where (same_definition d) t)) ds ≤ length t
sum_most ds k [] = omega (arith, sum_none ds)
sum_most ds k (e ∷ t) = omega (arith, sum_one e.0 e.1 t ds, sum_most ds k t, k e.1)

pub each_once : (xs ys : List ℕ) → ((n : ℕ) → count n xs ≤ 1) → ((n : ℕ) → count n ys ≤ 1) → (d : Definition) → tally d (map of_value xs ++ map of_block ys) ≤ 1
each_once xs ys k l (of_value v) = omega (arith, tally_append (of_value v) (map of_value xs) (map of_block ys), tally_values v xs, no_blocks v ys, k v)
each_once xs ys k l (of_block b) = omega (arith, tally_append (of_block b) (map of_value xs) (map of_block ys), no_values b xs, tally_blocks b ys, l b)

pub sum_append : {A : Type 0} (f : A → ℕ) (xs ys : List A) → sum_over f (xs ++ ys) ≡ sum_over f xs + sum_over f ys
unfolding sum_over
sum_append f [] ys = omega arith
sum_append f (x ∷ xs) ys = omega (arith, sum_append f xs ys)

pub sum_uses : (h : History) → Held h → ((d : Definition) → tally d (all_definitions h) ≡ one (live_definition h d)) → sum_over (λ d. length (uses_of h d)) (all_definitions h) ≡ length h.uses
unfolding uses_of
sum_uses h w k = sum_all (all_definitions h) h.uses (Every-map (IsLive h) (λ a. tally a (all_definitions h) ≡ 1) (λ a q. k a ∙ live a q) h.uses w)
  where
    live : (a : Definition) → T (live_definition h a) → one (live_definition h a) ≡ 1
    live a q = at (live_definition h a) q
      where
        at : (b : Bool) → T b → one b ≡ 1
        at true t = refl
        at false t = absurd t

-- ---- the use set of one definition

where_less : {A : Type 0} (p : A → Bool) (u : ℕ) (t : Table A) → count u (keys_where p t) ≤ count u (keys t)
unfolding keys keys_where
where_less p u [] = omega arith
where_less p u (e ∷ t) = go (p e.1) (where_less p u t)
  where
    go : (c : Bool) → count u (keys_where p t) ≤ count u (keys t) → count u (cond c (e.0 ∷ keys_where p t) (keys_where p t)) ≤ one (eqb e.0 u) + count u (keys t)
    go true ih = omega arith
    go false ih = omega arith

pub where_found : {A : Type 0} (p : A → Bool) (u : ℕ) (t : Table A) (a : A) → count u (keys t) ≤ 1 → find t u ≡ some a → count u (keys_where p t) ≡ one (p a)
unfolding find keys keys_where
where_found p u [] a k e = absurd (none_some e)
where_found {A} p u (e ∷ t) a k w = go (eqb e.0 u) refl w (p e.1) refl (where_found p u t a)
  where
    go : (b : Bool) → eqb e.0 u ≡ b → cond b (some e.1) (find t u) ≡ some a → (c : Bool) → p e.1 ≡ c → (count u (keys t) ≤ 1 → find t u ≡ some a → count u (keys_where p t) ≡ one (p a)) → count u (cond c (e.0 ∷ keys_where p t) (keys_where p t)) ≡ one (p a)
    go true z q true v ih = let s : e.1 ≡ a = cc in omega (arith, ap one z, where_less p u t, ap (λ (x : A). one (p x)) s, ap one v)
    go true z q false v ih = let s : e.1 ≡ a = cc in omega (arith, ap one z, where_less p u t, ap (λ (x : A). one (p x)) s, ap one v)
    go false z q true v ih = omega (arith, ap one z, ih (omega (arith, k)) q)
    go false z q false v ih = ih (omega (arith, k)) q

pub where_gone : {A : Type 0} (p : A → Bool) (u : ℕ) (t : Table A) → find t u ≡ none → count u (keys_where p t) ≡ 0
where_gone p u t e = omega (arith, where_less p u t, key_none t u e)
