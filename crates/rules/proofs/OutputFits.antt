-- The output of every script fits the program's buffer of 262,144 bytes: the program answers at most 4,096 records, and in a sound state each thing
-- stands in few of the lists that the listing shows, so that the capacities bound it. Assumes nothing.
use mathlib.Core.Path.{◌≡◌, refl, ap}
use mathlib.Core.Bool.{Bool, true, false, cond}
use mathlib.Core.List.{List, [], ◌∷◌, ◌++◌, map}
use mathlib.Core.Option.{Option, none, some}
use Prim.Native.Nat.{ℕ, zero, suc, ◌+◌, ◌*◌, ◌≤◌, ◌<◌}
use native.Mathlib.Omega.{arith}
use borrow.Author.Tests.{ne_eqb}
use lib.Dec.{eqb, ltb}
use lib.ListN.{length, length-append}
use Rattle.rules.specs.Table.{Table, Rising, spread, find, items, keys, concat, sum_over, some_and, one, count}
use Rattle.edit.specs.Record.{operand, successor, operation, block, Definition, of_value, of_block, Cut, nothing, broken, whole, cut, read}
use Rattle.edit.specs.Answer.{Reply}
use Rattle.rules.specs.History.{Operation, Block, History, Five, uses_in, uses_of, block_of_op, region_of, block_at, region_at, container}
use Rattle.rules.specs.Orders.{lists, list_at, or_empty}
use Rattle.rules.specs.State.{State, start, or_zero, number_at, accept}
use Rattle.rules.specs.Step.{obey}
use Rattle.rules.specs.Script.{Ran, ended_with, after_reply, turn, run_by, run}
use Rattle.rules.specs.Calls.{Call, script, left_by, after}
use Rattle.rules.specs.Sound.{region_places, value_places, use_places, Sound}
use Rattle.rules.specs.Listing.{text, edit_lines, listing, program_capacities, printed, output}
use Rattle.rules.proofs.Closure.{after_told}
use Rattle.rules.proofs.Places.{count_append, eqb_comm, length_keys}
use Rattle.rules.proofs.Inside.{found_key, rising_once}
use Rattle.rules.proofs.Laws.{none_some, eqb_same}
use Rattle.rules.proofs.Sums.{count_lists, sum_most, each_once, sum_append}
use Rattle.rules.proofs.Acyclic.{sub_length}
use Rattle.rules.proofs.Soundness.{every_call_sound}
use Rattle.rules.proofs.Lengths.{◌⊕◌, in_all, edit_lines_short, store_short, ops_short, blocks_short, regions_short, values_short}

-- ---- lists in which a number stands no more often than in a table are together no longer than the table

module _ {A : Type 0} (g : A → List ℕ) where
  abbrev shown : Table A → List ℕ
  shown t = concat (map g (items t))

  length_lists : (t : Table A) → length (shown t) ≡ in_all g t
  unfolding concat items
  length_lists [] = refl
  length_lists (e ∷ t) = omega (arith, length-append (g e.1) (shown t), length_lists t)

lists_fit : {A B : Type 0} (g : A → List ℕ) (t : Table A) (u : Table B) → ((n : ℕ) → spread g n t ≤ count n (keys u)) → in_all g t ≤ length u
lists_fit g t u k = omega (arith, length_lists g t, sub_length (shown g t) (keys u) (λ n. omega (arith, count_lists g n t, k n)), length_keys u)

both_fit : {A B C : Type 0} (f : A → List ℕ) (s : Table A) (g : B → List ℕ) (t : Table B) (u : Table C) → ((n : ℕ) → spread f n s + spread g n t ≤ count n (keys u)) → in_all f s + in_all g t ≤ length u
both_fit f s g t u k =
    omega (
      arith,
      length_lists f s,
      length_lists g t,
      length-append (shown f s) (shown g t),
      sub_length (shown f s ++ shown g t) (keys u) (λ n. omega (arith, count_append n (shown f s) (shown g t), count_lists f n s, count_lists g n t, k n)),
      length_keys u,
    )

-- ---- so are the lists of different containers, where each number stands in the list of its home, and is in the table if it has one

module _ (f : ℕ → List ℕ) (home : ℕ → Option ℕ) (agree : (x c : ℕ) → count x (f c) ≡ one (some_and (home x) (λ d. eqb d c))) where
  length_members : (cs : List ℕ) → length (concat (map f cs)) ≡ sum_over (λ c. length (f c)) cs
  unfolding concat sum_over
  length_members [] = refl
  length_members (c ∷ cs) = omega (arith, length-append (f c) (concat (map f cs)), length_members cs)

  homeless : (x : ℕ) → home x ≡ none → (cs : List ℕ) → count x (concat (map f cs)) ≡ 0
  unfolding concat some_and
  homeless x e [] = refl
  homeless x e (c ∷ cs) = omega (arith, count_append x (f c) (concat (map f cs)), agree x c, ap (λ (o : Option ℕ). one (some_and o (λ z. eqb z c))) e, homeless x e cs)

  at_home : (x d : ℕ) → home x ≡ some d → (cs : List ℕ) → count x (concat (map f cs)) ≡ count d cs
  unfolding concat some_and
  at_home x d e [] = refl
  at_home x d e (c ∷ cs) = omega (arith, count_append x (f c) (concat (map f cs)), agree x c, ap (λ (o : Option ℕ). one (some_and o (λ z. eqb z c))) e, ap one (eqb_comm d c), at_home x d e cs)

  members_fit : {A : Type 0} (cs : List ℕ) (u : Table A) → ((c : ℕ) → count c cs ≤ 1) → ((x d : ℕ) → home x ≡ some d → 1 ≤ count x (keys u)) → sum_over (λ c. length (f c)) cs ≤ length u
  members_fit cs u k live = omega (arith, length_members cs, sub_length (concat (map f cs)) (keys u) (λ x. go x (home x) refl), length_keys u)
    where
      go : (x : ℕ) (o : Option ℕ) → home x ≡ o → count x (concat (map f cs)) ≤ count x (keys u)
      go x none e = omega (arith, homeless x e cs)
      go x (some d) e = omega (arith, at_home x d e cs, k d, live x d e)

-- where numbers rise, each list of a table is the one that its number names
same_sums : {A : Type 0} (f g : ℕ → ℕ) (lo b : ℕ) (t : Table A) → Rising lo b t → ((c : ℕ) → lo ≤ c → f c ≡ g c) → sum_over f (keys t) ≡ sum_over g (keys t)
unfolding sum_over keys
same_sums f g lo b [] r k = refl
same_sums f g lo b (e ∷ t) r k = omega (arith, k e.0 r.0, same_sums f g (suc e.0) b t r.1 (λ c h. k c (omega (arith, r.0))))

own_lists : (lo b : ℕ) (t : Table (List ℕ)) → Rising lo b t → in_all (λ xs. xs) t ≡ sum_over (λ c. length (list_at t c)) (keys t)
unfolding sum_over keys list_at or_empty find
own_lists lo b [] r = refl
own_lists lo b (e ∷ t) r =
    omega (
      arith,
      own_lists (suc e.0) b t r.1,
      named e.0 true (eqb_same e.0),
      same_sums (λ c. length (list_at (e ∷ t) c)) (λ c. length (list_at t c)) (suc e.0) b t r.1 (λ c h. named c false (ne_eqb e.0 c (λ z. omega arith))),
    )
  where
    named : (c : ℕ) (x : Bool) → eqb e.0 c ≡ x → length (list_at (e ∷ t) c) ≡ length (or_empty (cond x (some e.1) (find t c)))
    named c x z = ap (λ (y : Bool). length (or_empty (cond y (some e.1) (find t c)))) z

-- ---- a member that is at home somewhere is live

in_block : (h : History) (x d : ℕ) → container operation h x ≡ some d → 1 ≤ count x (keys h.operations)
unfolding container block_at block_of_op
in_block h x d e = go (find h.operations x) refl e
  where
    go : (o : Option Operation) → find h.operations x ≡ o → block_of_op o ≡ some d → 1 ≤ count x (keys h.operations)
    go none q z = absurd (none_some z)
    go (some a) q z = found_key x h.operations a q

in_region : (h : History) (x d : ℕ) → container block h x ≡ some d → 1 ≤ count x (keys h.blocks)
unfolding container region_at region_of
in_region h x d e = go (find h.blocks x) refl e
  where
    go : (o : Option Block) → find h.blocks x ≡ o → region_of o ≡ some d → 1 ≤ count x (keys h.blocks)
    go none q z = absurd (none_some z)
    go (some a) q z = found_key x h.blocks a q

-- ---- the listing of a sound state

module _ (s : State) (w : Sound s) where
  abbrev h : History
  h = s.history

  ops_listed : sum_over (λ c. length (list_at s.orders.ops_of c)) (keys h.blocks) ≤ length h.operations
  unfolding lists
  ops_listed = members_fit (list_at s.orders.ops_of) (container operation h) (w.links operation) (keys h.blocks) h.operations (λ c. rising_once 0 _ c h.blocks w.blocks_rise) (in_block h)

  blocks_listed : in_all (λ xs. xs) s.orders.blocks_of ≤ length h.blocks
  unfolding lists
  blocks_listed =
      let t : Table (List ℕ) = s.orders.blocks_of in
      omega (
        arith,
        own_lists 0 _ t w.blocks_of_rise,
        members_fit (list_at t) (container block h) (w.links block) (keys t) h.blocks (λ c. rising_once 0 _ c t w.blocks_of_rise) (in_region h),
      )

  uses_shown : sum_over (λ d. length (uses_of h d)) (map of_value (keys s.types)) + sum_over (λ d. length (uses_of h d)) (map of_block (keys h.blocks)) ≤ length h.uses
  unfolding uses_of
  uses_shown =
      let vs : List Definition = map of_value (keys s.types) in
      let bs : List Definition = map of_block (keys h.blocks) in
      omega (
        arith,
        sum_append (λ d. length (uses_of h d)) vs bs,
        sum_most (vs ++ bs) (each_once (keys s.types) (keys h.blocks) (λ v. rising_once 0 _ v s.types w.types_rise) (λ b. rising_once 0 _ b h.blocks w.blocks_rise)) h.uses,
      )

  low : (n : ℕ) → number_at s.flags n ≤ 9
  unfolding number_at or_zero
  low n = go (find s.flags n) refl
    where
      go : (o : Option ℕ) → find s.flags n ≡ o → or_zero o ≤ 9
      go none e = omega arith
      go (some f) e = omega (arith, w.flags_low n f e)

  listing_fits : length (listing s) ≤ 61 + 66 * s.capacities.operations + 59 * s.capacities.blocks + 50 * s.capacities.regions + 49 * s.capacities.values + 33 * s.capacities.uses
  unfolding listing region_places value_places use_places
  listing_fits =
      omega (
        arith,
        (store_short s ⊕ ops_short s low h.operations ⊕ blocks_short s h.blocks ⊕ regions_short s s.orders.blocks_of ⊕ values_short s s.types).long,
        w.operations_fit,
        w.blocks_fit,
        w.regions_fit,
        w.values_fit,
        w.uses_fit,
        both_fit (λ (o : Operation). o.results) h.operations (λ (b : Block). b.arguments) h.blocks s.types (λ v. omega (arith, w.values_stand v)),
        both_fit (uses_in operand) h.operations (uses_in successor) h.operations h.uses (λ u. omega (arith, w.uses_stand u)),
        lists_fit (λ (o : Operation). o.regions) h.operations s.orders.blocks_of (λ r. omega (arith, w.regions_stand r)),
        ops_listed,
        blocks_listed,
        uses_shown,
      )

  -- the bound that docs/EMBEDDING.md has for the answers and the listing: there are always fewer bytes
  pub lines_fit : (n : ℕ) (rs : List Reply)
      → length (edit_lines n rs ++ listing s) < 62 + 41 * length rs + 67 * s.capacities.operations + 59 * s.capacities.blocks + 50 * s.capacities.regions + 49 * s.capacities.values + 33 * s.capacities.uses
  lines_fit n rs = omega (arith, length-append (edit_lines n rs) (listing s), (edit_lines_short n rs).long, listing_fits)

-- ---- a script

-- no more answers than there is room for
answers_fit : (fuel room : ℕ) (s : State) (bytes : List ℕ) → length (run_by fuel room s bytes).answers ≤ room
unfolding run_by turn ended_with after_reply
answers_fit zero room s bytes = omega arith
answers_fit (suc fuel) room s bytes = go (answers_fit fuel) (cut bytes) room
  where
    go : ((n : ℕ) (t : State) (rest : List ℕ) → length (run_by fuel n t rest).answers ≤ n) → (c : Cut) (n : ℕ) → length (turn (run_by fuel) s c n).answers ≤ n
    go ih nothing n = omega arith
    go ih broken zero = omega arith
    go ih broken (suc n) = omega arith
    go ih (whole kind fs rest) zero = omega arith
    go ih (whole kind fs rest) (suc n) = omega (arith, ih n (obey s (read kind fs)).1 rest)

-- the capacities are those of the start
capacities_stay : (k : Five) (cs : List Call) → (after (start k) cs).capacities ≡ k
unfolding start
capacities_stay k cs = after_told (λ s _. s.capacities ≡ k) (λ e s _ f z w. unfold accept in w) cs (start k) [] refl

printed_fits : (bytes : List ℕ) → length (printed bytes) ≤ 262144
unfolding printed run after left_by program_capacities
printed_fits bytes =
    let ran : Ran = run 4096 (start program_capacities) bytes in
    let c : ran.state.capacities ≡ program_capacities = capacities_stay program_capacities (script 4096 bytes ∷ []) in
    omega (
      arith,
      lines_fit ran.state (every_call_sound program_capacities (script 4096 bytes ∷ [])) 0 ran.answers,
      answers_fit (suc (length bytes)) 4096 (start program_capacities) bytes,
      ap (λ (k : Five). k.operations) c,
      ap (λ (k : Five). k.blocks) c,
      ap (λ (k : Five). k.regions) c,
      ap (λ (k : Five). k.values) c,
      ap (λ (k : Five). k.uses) c,
    )

-- the theorem
pub output_fits : (bytes : List ℕ) → length (output bytes) ≤ 262144
unfolding output
output_fits bytes = go (ltb 16384 (length bytes))
  where
    go : (b : Bool) → length {A = ℕ} (elim b [ true ↦ text "script too long\n" | false ↦ printed bytes ]) ≤ 262144
    go true = omega arith
    go false = printed_fits bytes
