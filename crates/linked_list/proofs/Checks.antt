-- What `check_links` and its parts rest on: a chain that is read node by node, and a count of the nodes. Assumes nothing.
use mathlib.Core.Path.{◌≡◌, refl, sym, ap, ◌∙◌}
use mathlib.Core.Logic.{◌⊎◌, inl, inr, ◌≢◌, ⊎_elim}
use mathlib.Core.Bool.{Bool, true, false}
use mathlib.Core.List.{List, [], ◌∷◌, ◌++◌}
use Prim.Native.Nat.{ℕ, zero, suc, ◌+◌, ◌-◌, ◌*◌, ◌<◌, ◌≤◌, zero-le}
use native.Mathlib.Nat.{le_of_suc-le-suc, not-suc-le-zero, suc_inj, eq-or-lt_of_le, le_refl}
use native.Mathlib.Omega.{arith}
use native.Mathlib.Numerals.{add-one}
use native.Mathlib.Decide.{ℕ_discrete}
use lib.ListN.{length, get_or, length-append}
use lib.Dec.{eqb}
use borrow.Author.Tests.{eqb-true, eqb-false}
use Rattle.seqs.specs.Seqs.{Says, seq_insert_at}
use Rattle.seqs.proofs.Base.{length_insert_at}
use Rattle.std.specs.Prelude.{Option, Some, None}
use Rattle.seqs.specs.Cells.{code}
use Rattle.linked_list.specs.Links.{at, place, after, before, home, Row, Free, Held, Linked, lists, walk}
use Rattle.linked_list.specs.Check.{row_at, tot, RowFound, RowsFound, frees, FreesFound, keep}
use Rattle.linked_list.proofs.Laws.{at_inj, unshift, at_ins_lt, at_ins_eq, place_ins_le, at_lt, at_out, at_end, Spot, spot, left, here, next, right}
use Rattle.linked_list.proofs.View.{pigeon, find, out_of, get_d_tab, lists_count, row_is}
use Rattle.linked_list.proofs.Getters.{tail_cell}

-- ---- one chain, read so far: j nodes from c's head, the last of them with the code p, and then the code q

pub record Part (nc nn : ℕ) (s : List ℕ) (c p q j : ℕ) : Type 0 where
  pub l : List ℕ
  pub len : length l ≡ j
  pub last : p ≡ place l (length l)
  pub nexts : (i : ℕ) → i < length l → get_or s (after nc (place l i) c) 0 ≡ at l i
  pub ends : get_or s (after nc (place l (length l)) c) 0 ≡ q
  pub prevs : (i : ℕ) → i < length l → get_or s (before nc nn (at l i) c) 0 ≡ place l i
  pub owns : (i x : ℕ) → at l i ≡ suc x → (x < nn) × (get_or s (home nc nn x) 0 ≡ suc c)

pub part_none : (nc nn : ℕ) (s : List ℕ) (c : ℕ) → Part nc nn s c 0 (get_or s c 0) 0
part_none nc nn s c = record {
  l = [];
  len = refl;
  last = refl;
  nexts = λ i h. absurd (not-suc-le-zero h);
  ends = refl;
  prevs = λ i h. absurd (not-suc-le-zero h);
  owns = λ i x e. absurd (omega (arith, e));
}

pub part_more : {nc nn c p q j : ℕ} {s : List ℕ} → Part nc nn s c p q j → (x : ℕ) → q ≡ suc x → x < nn → get_or s (home nc nn x) 0 ≡ suc c
    → get_or s (2 * nc + nn + x) 0 ≡ p → Part nc nn s c q (get_or s (2 * nc + x) 0) (j + 1)
part_more {nc} {nn} {c} {p} {q} {j} {s} P x qe x< hx px = record {
  l = l';
  len = longer ∙ ap suc P.len ∙ sym (add-one j);
  last = qe ∙ sym new_at ∙ ap (place l') (sym longer);
  nexts = λ i h. nexts' i (spot n i) (rw longer at h);
  ends = rw (longer, new_at) refl;
  prevs = λ i h. prevs' i (spot n i) (rw longer at h);
  owns = λ i y e. owns' i y (spot n i) e;
}
  where
    n : ℕ
    n = length P.l

    l' : List ℕ
    l' = seq_insert_at n x P.l

    le : n ≤ length P.l
    le = omega arith

    longer : length l' ≡ suc n
    longer = length_insert_at n x P.l

    new_at : at l' n ≡ suc x
    new_at = at_ins_eq n x P.l le

    old : place l' n ≡ place P.l n
    old = place_ins_le n x P.l n le (omega arith)

    nexts' : (i : ℕ) → Spot n i → i < suc n → get_or s (after nc (place l' i) c) 0 ≡ at l' i
    nexts' i (left h) k = rw (place_ins_le n x P.l i le (omega arith), at_ins_lt n x P.l i le h) (P.nexts i h)
    nexts' i here k = rw (old, new_at) (P.ends ∙ qe)
    nexts' i next k = absurd (omega arith)
    nexts' i (right h) k = absurd (omega arith)

    prevs' : (i : ℕ) → Spot n i → i < suc n → get_or s (before nc nn (at l' i) c) 0 ≡ place l' i
    prevs' i (left h) k = rw (place_ins_le n x P.l i le (omega arith), at_ins_lt n x P.l i le h) (P.prevs i h)
    prevs' i here k = rw (old, new_at) (px ∙ P.last)
    prevs' i next k = absurd (omega arith)
    prevs' i (right h) k = absurd (omega arith)

    owns' : (i y : ℕ) → Spot n i → at l' i ≡ suc y → (y < nn) × (get_or s (home nc nn y) 0 ≡ suc c)
    owns' i y (left h) e = P.owns i y (sym (at_ins_lt n x P.l i le h) ∙ e)
    owns' i y here e = let same : x ≡ y = suc_inj (sym new_at ∙ e) in rw (← same) (x<, hx)
    owns' i y next e = absurd (omega (arith, at_lt l' (suc n) y e, longer))
    owns' i y (right {k = m} h) e = absurd (omega (arith, at_lt l' (suc (suc m)) y e, longer))

part_row : {nc nn c p q j : ℕ} {s : List ℕ} (P : Part nc nn s c p q j) → q ≡ 0 → get_or s (nc + c) 0 ≡ p → Row nc nn s c P.l
part_row {nc} {nn} {c} {p} {q} {s = s} P q0 te = record {
  next = λ i h. next' i (spot (length P.l) i) h;
  prev = λ i h. prev' i (spot (length P.l) i) h;
  own = P.owns;
}
  where
    none_at : at P.l (length P.l) ≡ 0
    none_at = at_out P.l (length P.l) (omega arith)

    next' : (i : ℕ) → Spot (length P.l) i → i ≤ length P.l → get_or s (after nc (place P.l i) c) 0 ≡ at P.l i
    next' i (left h) k = P.nexts i h
    next' i here k = P.ends ∙ q0 ∙ sym none_at
    next' i next k = absurd (omega arith)
    next' i (right h) k = absurd (omega arith)

    prev' : (i : ℕ) → Spot (length P.l) i → i ≤ length P.l → get_or s (before nc nn (at P.l i) c) 0 ≡ place P.l i
    prev' i (left h) k = P.prevs i h
    prev' i here k = rw none_at (te ∙ P.last)
    prev' i next k = absurd (omega arith)
    prev' i (right h) k = absurd (omega arith)

-- ---- where c's list is well formed, the walk is along it

pub record Along (nc nn : ℕ) (s : List ℕ) (c p q j : ℕ) : Type 0 where
  pub good : Row nc nn s c (row_at nc nn s c)
      → (p ≡ place (row_at nc nn s c) j) × (q ≡ at (row_at nc nn s c) j) × (j ≤ length (row_at nc nn s c))

pub along_none : (nc nn : ℕ) (s : List ℕ) (c : ℕ) → Along nc nn s c 0 (get_or s c 0) 0
along_none nc nn s c = record { good = λ R. (refl, R.next zero zero-le, zero-le) }

-- what holds at the node x, if c's list is well formed
pub record Node (nc nn : ℕ) (s : List ℕ) (c p j x : ℕ) : Type 0 where
  pub j< : j < length (row_at nc nn s c)
  pub x< : x < nn
  pub says : get_or s (home nc nn x) 0 ≡ suc c
  pub prev : get_or s (2 * nc + nn + x) 0 ≡ p
  pub next : get_or s (2 * nc + x) 0 ≡ at (row_at nc nn s c) (suc j)

pub at_node : {nc nn c p q j : ℕ} {s : List ℕ} → Along nc nn s c p q j → (x : ℕ) → q ≡ suc x → Row nc nn s c (row_at nc nn s c) → Node nc nn s c p j x
at_node {nc} {nn} {c} {p} {q} {j} {s} A x qe R =
    let (pe, e, h) = A.good R in
    let w : at (row_at nc nn s c) j ≡ suc x = sym e ∙ qe in
    let j< = at_lt (row_at nc nn s c) j x w in
    record {
      j< = j<;
      x< = (R.own j x w).0;
      says = (R.own j x w).1;
      prev = rw w at (R.prev j h) ∙ sym pe;
      next = rw w at (R.next (suc j) j<);
    }

pub along_more : {nc nn c p q j : ℕ} {s : List ℕ} → Along nc nn s c p q j → (x : ℕ) → q ≡ suc x → Along nc nn s c q (get_or s (2 * nc + x) 0) (j + 1)
along_more {nc} {nn} {c} {p} {q} {j} {s} A x qe = record {
  good = λ R.
      let N = at_node A x qe R in
      rw (add-one j) ((A.good R).1, N.next, N.j<);
}

-- ---- the answers

none_some : {k : ℕ} → ◌≡◌ {A = Option ℕ} None (Some k) → ⊥
none_some e = absurd (omega (arith, ap code e))

some_inj : {j k : ℕ} → ◌≡◌ {A = Option ℕ} (Some j) (Some k) → j ≡ k
some_inj e = suc_inj (ap code e)

pub row_fails : {nc nn c b : ℕ} {s : List ℕ} → (Row nc nn s c (row_at nc nn s c) → length (row_at nc nn s c) ≤ b → ⊥) → RowFound nc nn s c b None
row_fails f = record { sound = λ k e. absurd (none_some e); complete = λ R h. absurd (f R h) }

pub row_found : {nc nn c b p q j : ℕ} {s : List ℕ} → Part nc nn s c p q j → Along nc nn s c p q j → q ≡ 0 → get_or s (nc + c) 0 ≡ p → j ≤ b → RowFound nc nn s c b (Some j)
unfolding row_at
row_found {nc} {nn} {c} {b} {p} {q} {j} {s} P A q0 te j≤ =
    let R = part_row P q0 te in
    let same : row_at nc nn s c ≡ P.l = row_is R in
    record {
      sound = λ k e. rw (same, ← some_inj e) (R, P.len, j≤);
      complete = λ R' h. ap Some (sym (ap length same ∙ P.len));
    }

pub along_tail : {nc nn c p q j : ℕ} {s : List ℕ} → Along nc nn s c p q j → q ≡ 0 → Row nc nn s c (row_at nc nn s c) → get_or s (nc + c) 0 ≡ p
along_tail {nc} {nn} {c} {p} {q} {j} {s} A q0 R =
    let (pe, e, h) = A.good R in
    let same : length (row_at nc nn s c) ≡ j = omega (arith, at_end (row_at nc nn s c) j (sym e ∙ q0)) in
    tail_cell R ∙ ap (place (row_at nc nn s c)) same ∙ sym pe

-- ---- all the rows

tot_lt : (nc nn : ℕ) (s : List ℕ) (c m : ℕ) → c < m → tot nc nn s c + length (row_at nc nn s c) ≤ tot nc nn s m
unfolding tot
tot_lt nc nn s c zero h = absurd (not-suc-le-zero h)
tot_lt nc nn s c (suc m) h = go (eq-or-lt_of_le (le_of_suc-le-suc h)) (tot_lt nc nn s c m)
  where
    go : (c ≡ m) ⊎ (c < m) → (c < m → tot nc nn s c + length (row_at nc nn s c) ≤ tot nc nn s m) → tot nc nn s c + length (row_at nc nn s c) ≤ tot nc nn s (suc m)
    go (inl e) rec = rw e (le_refl _)
    go (inr k) rec = let r = rec k in omega arith

pub tot_more : (nc nn : ℕ) (s : List ℕ) (c t r : ℕ) → t ≡ tot nc nn s c → length (row_at nc nn s c) ≡ r → t + r ≡ tot nc nn s (c + 1)
unfolding tot
tot_more nc nn s c t r e f = rw (add-one c) (omega arith)

pub tot_none : (nc nn : ℕ) (s : List ℕ) → 0 ≡ tot nc nn s 0
unfolding tot
tot_none nc nn s = refl

pub rows_fail : {nc nn c t b : ℕ} {s : List ℕ} {r : Option ℕ} → RowFound nc nn s c b r → r ≡ None → c < nc → t ≡ tot nc nn s c → b ≡ nn - t → RowsFound nc nn s None
rows_fail {nc} {nn} {c} {t} {b} {s} F fails c< e be = record {
  sound = λ k w. absurd (none_some w);
  complete = λ R k.
      let g = tot_lt nc nn s c nc c< in
      absurd (none_some (sym fails ∙ F.complete (R c c<) (omega arith)));
}

-- ---- the free nodes

pub frees_more : (nc nn : ℕ) (s : List ℕ) (k f : ℕ) → length (frees nc nn s k) ≡ f → get_or s (home nc nn k) 0 ≡ 0 → length (frees nc nn s (k + 1)) ≡ f + 1
unfolding frees
frees_more nc nn s k f e z = rw (add-one k, add-one f, z) (ap suc e)

pub frees_skip : (nc nn : ℕ) (s : List ℕ) (k f : ℕ) → length (frees nc nn s k) ≡ f → (get_or s (home nc nn k) 0 ≡ 0 → ⊥) → length (frees nc nn s (k + 1)) ≡ f
unfolding frees
frees_skip nc nn s k f e z = rw (add-one k) (go (get_or s (home nc nn k) 0) z)
  where
    go : (h : ℕ) → (h ≡ 0 → ⊥) → length (keep h k (frees nc nn s k)) ≡ f
    go zero w = absurd (w refl)
    go (suc h) w = e

pub frees_none : (nc nn : ℕ) (s : List ℕ) → length (frees nc nn s 0) ≡ 0
unfolding frees
frees_none nc nn s = refl

pub frees_fail : {nc nn n : ℕ} {s : List ℕ} → n < nn → get_or s (home nc nn n) 0 ≡ 0 → (Free nc nn s n → ⊥) → FreesFound nc nn s None
frees_fail {n = n} n< z f = record { sound = λ k e. absurd (none_some e); complete = λ R. absurd (f (R n n< z)) }

pub rows_found : {nc nn t : ℕ} {s : List ℕ} → ((d : ℕ) → d < nc → Row nc nn s d (row_at nc nn s d)) → t ≡ tot nc nn s nc → t ≤ nn → RowsFound nc nn s (Some t)
rows_found all te t≤ = record {
  sound = λ k e. rw (← some_inj e) (all, sym te, t≤);
  complete = λ R h. ap Some te;
}

pub frees_found : {nc nn f : ℕ} {s : List ℕ} → ((m : ℕ) → m < nn → get_or s (home nc nn m) 0 ≡ 0 → Free nc nn s m) → length (frees nc nn s nn) ≡ f → f ≤ nn → FreesFound nc nn s (Some f)
frees_found all fe f≤ = record {
  sound = λ k e. rw (← some_inj e) (all, fe, f≤);
  complete = λ R. ap Some (sym fe);
}

-- ---- the count: lists of different numbers

abbrev In : ℕ → List ℕ → Type 0
In x l = (i : ℕ) × (at l i ≡ suc x)

abbrev One : List ℕ → Type 0
One l = (i j x : ℕ) → at l i ≡ suc x → at l j ≡ suc x → i ≡ j

in_app : (x : ℕ) (a b : List ℕ) (i : ℕ) → at (a ++ b) i ≡ suc x → In x a ⊎ In x b
in_app x [] b i e = inr (i, e)
in_app x (y ∷ ys) b zero e = inl (zero, e)
in_app x (y ∷ ys) b (suc i) e = ⊎_elim (λ h. inl (suc h.0, h.1)) inr (in_app x ys b i e)

app_left : (x : ℕ) (a b : List ℕ) (i : ℕ) → at a i ≡ suc x → In x (a ++ b)
app_left x [] b i e = absurd (omega arith)
app_left x (y ∷ ys) b zero e = (zero, e)
app_left x (y ∷ ys) b (suc i) e = let (j, w) = app_left x ys b i e in (suc j, w)

app_right : (x : ℕ) (a b : List ℕ) → In x b → In x (a ++ b)
app_right x [] b h = h
app_right x (y ∷ ys) b h = let (j, w) = app_right x ys b h in (suc j, w)

one_cons : (x : ℕ) (l : List ℕ) → One l → ((i : ℕ) → at l i ≢ suc x) → One (x ∷ l)
one_cons x l o f zero zero y e g = refl
one_cons x l o f zero (suc j) y e g = absurd (f j (g ∙ sym e))
one_cons x l o f (suc i) zero y e g = absurd (f i (e ∙ sym g))
one_cons x l o f (suc i) (suc j) y e g = ap suc (o i j y e g)

one_app : (a b : List ℕ) → One a → One b → ((x : ℕ) → In x a → In x b → ⊥) → One (a ++ b)
one_app [] b A B D = B
one_app (x ∷ xs) b A B D =
    one_cons x (xs ++ b) (one_app xs b (λ i j y e g. suc_inj (A (suc i) (suc j) y e g)) B (λ y h. D y (suc h.0, h.1)))
    (λ i e. ⊎_elim (λ h. absurd (omega (arith, A zero (suc h.0) x refl h.1))) (λ h. D x (zero, refl) h) (in_app x xs b i e))

-- if every number below n is in l, l has at least n
cover : (n : ℕ) (l : List ℕ) → ((x : ℕ) → x < n → In x l) → n ≤ length l
cover zero l c = zero-le
cover (suc k) l c =
    let (i, e) = c k (le_refl (suc k)) in
    let (r, w, h) = out_of l i k e in
    let short = cover k r (λ x x<. let (j, f) = c x (omega arith) in unshift i k r x j h (omega arith) (ap (λ (m : List ℕ). at m j) (sym w) ∙ f)) in
    omega (arith, ap length w, length_insert_at i k r)

-- ---- the nodes of the first c lists

flat : ℕ → ℕ → List ℕ → ℕ → List ℕ
flat nc nn s zero = []
flat nc nn s (suc c) = flat nc nn s c ++ row_at nc nn s c

module _ (nc nn : ℕ) (s : List ℕ) where
  length_flat : (c : ℕ) → length (flat nc nn s c) ≡ tot nc nn s c
  unfolding flat tot
  length_flat zero = refl
  length_flat (suc c) = length-append (flat nc nn s c) (row_at nc nn s c) ∙ ap (λ (k : ℕ). k + length (row_at nc nn s c)) (length_flat c)

  in_flat : (x c : ℕ) → In x (flat nc nn s c) → (d : ℕ) × (d < c) × In x (row_at nc nn s d)
  unfolding flat
  in_flat x zero h = absurd (omega (arith, h.1))
  in_flat x (suc c) h = go (in_app x (flat nc nn s c) (row_at nc nn s c) h.0 h.1) (in_flat x c)
    where
      go : In x (flat nc nn s c) ⊎ In x (row_at nc nn s c) → (In x (flat nc nn s c) → (d : ℕ) × (d < c) × In x (row_at nc nn s d)) → (d : ℕ) × (d < suc c) × In x (row_at nc nn s d)
      go (inl h) rec = let (d, k, w) = rec h in (d, omega arith, w)
      go (inr h) rec = (c, le_refl (suc c), h)

  flat_in : (x c d : ℕ) → d < c → In x (row_at nc nn s d) → In x (flat nc nn s c)
  unfolding flat
  flat_in x zero d h i = absurd (not-suc-le-zero h)
  flat_in x (suc c) d h i = go (eq-or-lt_of_le (le_of_suc-le-suc h)) (flat_in x c d)
    where
      go : (d ≡ c) ⊎ (d < c) → (d < c → In x (row_at nc nn s d) → In x (flat nc nn s c)) → In x (flat nc nn s c ++ row_at nc nn s c)
      go (inl e) rec = app_right x (flat nc nn s c) (row_at nc nn s c) (rw e at i)
      go (inr k) rec = let (j, w) = rec k i in app_left x (flat nc nn s c) (row_at nc nn s c) j w

  in_frees : (x k : ℕ) → In x (frees nc nn s k) → (x < k) × (get_or s (home nc nn x) 0 ≡ 0)
  unfolding frees
  in_frees x zero h = absurd (omega (arith, h.1))
  in_frees x (suc k) h = go (get_or s (home nc nn k) 0) refl h.0 h.1 (in_frees x k)
    where
      go : (v : ℕ) → get_or s (home nc nn k) 0 ≡ v → (i : ℕ) → at (keep v k (frees nc nn s k)) i ≡ suc x
          → (In x (frees nc nn s k) → (x < k) × (get_or s (home nc nn x) 0 ≡ 0)) → (x < suc k) × (get_or s (home nc nn x) 0 ≡ 0)
      go zero e zero w rec = let same : k ≡ x = suc_inj w in (omega arith, rw (← same) e)
      go zero e (suc i) w rec = let (a, b) = rec (i, w) in (omega arith, b)
      go (suc v) e i w rec = let (a, b) = rec (i, w) in (omega arith, b)

  frees_in : (x k : ℕ) → x < k → get_or s (home nc nn x) 0 ≡ 0 → In x (frees nc nn s k)
  unfolding frees
  frees_in x zero h z = absurd (not-suc-le-zero h)
  frees_in x (suc k) h z = go (eq-or-lt_of_le (le_of_suc-le-suc h)) (get_or s (home nc nn k) 0) refl (λ l. frees_in x k l z)
    where
      go : (x ≡ k) ⊎ (x < k) → (v : ℕ) → get_or s (home nc nn k) 0 ≡ v → (x < k → In x (frees nc nn s k)) → In x (keep v k (frees nc nn s k))
      go (inl e) zero w rec = (zero, ap suc (sym e))
      go (inl e) (suc v) w rec = absurd (omega (arith, z, w, ap (λ (m : ℕ). get_or s (home nc nn m) 0) e))
      go (inr l) zero w rec = let (i, f) = rec l in (suc i, f)
      go (inr l) (suc v) w rec = rec l

  one_frees : (k : ℕ) → One (frees nc nn s k)
  unfolding frees
  one_frees zero = λ i j x e f. absurd (omega (arith, e))
  one_frees (suc k) = go (get_or s (home nc nn k) 0) (one_frees k)
    where
      go : (v : ℕ) → One (frees nc nn s k) → One (keep v k (frees nc nn s k))
      go zero o = one_cons k (frees nc nn s k) o (λ i e. absurd (omega (arith, (in_frees k k (i, e)).0)))
      go (suc v) o = o

  module _ (rows : (c : ℕ) → c < nc → Row nc nn s c (row_at nc nn s c)) where
    one_flat : (c : ℕ) → c ≤ nc → One (flat nc nn s c)
    unfolding flat
    one_flat zero h = λ i j x e f. absurd (omega (arith, e))
    one_flat (suc c) h =
        let R = rows c h in
        one_app (flat nc nn s c) (row_at nc nn s c) (one_flat c (omega arith))
        (λ i j x e f. at_inj R i j (omega (arith, at_lt (row_at nc nn s c) i x e)) (omega (arith, at_lt (row_at nc nn s c) j x f)) (e ∙ sym f))
        (λ x a b. let (d, k, w) = in_flat x c a in
        absurd (omega (arith, k, ((rows d (omega arith)).own w.0 x w.1).1, (R.own b.0 x b.1).1)))

    one_all : One (flat nc nn s nc ++ frees nc nn s nn)
    one_all =
        one_app (flat nc nn s nc) (frees nc nn s nn) (one_flat nc (le_refl nc)) (one_frees nn)
        (λ x a b. let (d, k, w) = in_flat x nc a in
        absurd (omega (arith, ((rows d k).own w.0 x w.1).1, (in_frees x nn b).1)))

    low_all : (i x : ℕ) → at (flat nc nn s nc ++ frees nc nn s nn) i ≡ suc x → x < nn
    low_all i x e = ⊎_elim
        (λ a. let (d, k, w) = in_flat x nc a in ((rows d k).own w.0 x w.1).0)
        (λ b. (in_frees x nn b).0)
        (in_app x (flat nc nn s nc) (frees nc nn s nn) i e)

    length_all : length (flat nc nn s nc ++ frees nc nn s nn) ≡ tot nc nn s nc + length (frees nc nn s nn)
    length_all = length-append (flat nc nn s nc) (frees nc nn s nn) ∙ ap (λ (k : ℕ). k + length (frees nc nn s nn)) (length_flat nc)

    pub all_le : tot nc nn s nc + length (frees nc nn s nn) ≤ nn
    all_le = rw (← length_all) (pigeon nn (flat nc nn s nc ++ frees nc nn s nn) low_all one_all)

    -- where the count is whole, a node with a container is in a list
    pub held_of : tot nc nn s nc + length (frees nc nn s nn) ≡ nn → (n : ℕ) → n < nn → (get_or s (home nc nn n) 0 ≡ 0 → ⊥) → (d : ℕ) × (d < nc) × In n (row_at nc nn s d)
    held_of whole n n< ne = go (find n (flat nc nn s nc ++ frees nc nn s nn))
      where
        go : In n (flat nc nn s nc ++ frees nc nn s nn) ⊎ ((i : ℕ) → at (flat nc nn s nc ++ frees nc nn s nn) i ≢ suc n) → (d : ℕ) × (d < nc) × In n (row_at nc nn s d)
        go (inl (i, e)) = ⊎_elim (λ a. in_flat n nc a) (λ b. absurd (ne (in_frees n nn b).1)) (in_app n (flat nc nn s nc) (frees nc nn s nn) i e)
        go (inr f) =
            let more = pigeon nn (n ∷ (flat nc nn s nc ++ frees nc nn s nn))
            (λ i x e. low i x e) (one_cons n (flat nc nn s nc ++ frees nc nn s nn) one_all f) in
            absurd (omega (arith, more, length_all))
          where
            low : (i x : ℕ) → at (n ∷ (flat nc nn s nc ++ frees nc nn s nn)) i ≡ suc x → x < nn
            low zero x e = rw (suc_inj e) at n<
            low (suc i) x e = low_all i x e

    pub all_ge : ((n : ℕ) → n < nn → (get_or s (home nc nn n) 0 ≡ 0) ⊎ ((d : ℕ) × (d < nc) × In n (row_at nc nn s d))) → nn ≤ tot nc nn s nc + length (frees nc nn s nn)
    all_ge h = rw (← length_all) (cover nn (flat nc nn s nc ++ frees nc nn s nn) (λ x x<. ⊎_elim
        (λ z. app_right x (flat nc nn s nc) (frees nc nn s nn) (frees_in x nn x< z))
        (λ w. let (i, e) = flat_in x nc w.0 w.1 w.2 in app_left x (flat nc nn s nc) (frees nc nn s nn) i e)
        (h x x<)))

-- ---- the verdict

lists_row : (nc nn : ℕ) (s : List ℕ) (c : ℕ) → c < nc → get_or (lists nc nn s) c [] ≡ row_at nc nn s c
unfolding lists row_at
lists_row nc nn s c h = get_d_tab nc (λ d. walk nc s nn (get_or s d 0)) c h

module _ (nc nn : ℕ) (s : List ℕ) where
  pub linked_rows : Linked nc nn s → (c : ℕ) → c < nc → Row nc nn s c (row_at nc nn s c)
  linked_rows L c h = rw (lists_row nc nn s c h) at (L.row c h)

  pub linked_frees : Linked nc nn s → (n : ℕ) → n < nn → get_or s (home nc nn n) 0 ≡ 0 → Free nc nn s n
  linked_frees L n h z = go (L.node n h)
    where
      go : Free nc nn s n ⊎ Held nc (lists nc nn s) n → Free nc nn s n
      go (inl F) = F
      go (inr H) = absurd (omega (arith, z, ((L.row H.cont H.cont<).own H.index n H.there).1))

  pub linked_whole : Linked nc nn s → tot nc nn s nc + length (frees nc nn s nn) ≡ nn
  linked_whole L =
      let a = all_le nc nn s (linked_rows L) in
      let b = all_ge nc nn s (linked_rows L) (λ n h. ⊎_elim (λ F. inl F.home0) (λ H. inr (H.cont, H.cont<, (H.index, rw (lists_row nc nn s H.cont H.cont<) at H.there))) (L.node n h)) in
      omega arith

  pub linked_of : length s ≡ 2 * nc + 3 * nn → ((c : ℕ) → c < nc → Row nc nn s c (row_at nc nn s c)) → ((n : ℕ) → n < nn → get_or s (home nc nn n) 0 ≡ 0 → Free nc nn s n)
      → tot nc nn s nc + length (frees nc nn s nn) ≡ nn → Linked nc nn s
  linked_of size rows free whole = record {
    size = size;
    count = lists_count nc nn s;
    row = λ c h. rw (lists_row nc nn s c h) (rows c h);
    node = λ n h. node' n h (ℕ_discrete (get_or s (home nc nn n) 0) 0);
  }
    where
      node' : (n : ℕ) → n < nn → Dec (get_or s (home nc nn n) 0 ≡ 0) → Free nc nn s n ⊎ Held nc (lists nc nn s) n
      node' n h (yes z) = inl (free n h z)
      node' n h (no f) =
          let (d, k, w) = held_of nc nn s rows whole n h f in
          inr (record { cont = d; index = w.0; cont< = k; there = rw (lists_row nc nn s d k) w.1 })

  module _ {t f : Option ℕ} (Rw : RowsFound nc nn s t) (Fr : FreesFound nc nn s f) where
    -- where the lists are well linked, both counts are there, and together they are all nodes
    both_there : Linked nc nn s → (t ≡ Some (tot nc nn s nc)) × (f ≡ Some (length (frees nc nn s nn)))
    both_there L =
        let a = linked_whole L in
        (Rw.complete (linked_rows L) (omega arith), Fr.complete (linked_frees L))

    -- a list is not well formed, or a node with no container is not free
    pub links_no : (t ≡ None) ⊎ (f ≡ None) → Linked nc nn s → ⊥
    links_no h L =
        let (te, fe) = both_there L in
        ⊎_elim (λ e. none_some (sym e ∙ te)) (λ e. none_some (sym e ∙ fe)) h

    pub links_says : length s ≡ 2 * nc + 3 * nn → (j k : ℕ) → t ≡ Some j → f ≡ Some k → Says (eqb (j + k) nn) (Linked nc nn s)
    links_says size j k tj fk = go (eqb (j + k) nn) refl
      where
        go : (b : Bool) → eqb (j + k) nn ≡ b → Says b (Linked nc nn s)
        go true e =
            let (rows, te, _) = Rw.sound j tj in
            let (free, fe, _) = Fr.sound k fk in
            let w = eqb-true (j + k) nn e in
            linked_of size rows free (omega arith)
        go false e = λ L.
            let a = linked_whole L in
            let (te, fe) = both_there L in
            let j≡ = some_inj (sym tj ∙ te) in
            let k≡ = some_inj (sym fk ∙ fe) in
            eqb-false (j + k) nn e (omega arith)
