-- The tests across the parts say exactly that the store is sound. Assumes nothing.
use mathlib.Core.Path.{◌≡◌, refl, sym, ap, ◌∙◌, subst}
use mathlib.Core.Logic.{◌≢◌, ◌↔◌, if_pos, if_neg, by_cases}
use mathlib.Core.List.{List, [], ◌∷◌, map}
use mathlib.Core.Option.{Option, none, some}
use native.Mathlib.Decide.{ℕ_discrete, dec_lt}
use native.Mathlib.Omega.{arith}
use Prim.Native.Nat.{ℕ, zero, suc, ◌-◌, ◌/◌, ◌%◌, ◌<◌, ◌≤◌}
use lib.ListN.{length, length-map}
use Rattle.seqs.specs.Seqs.{tick, count}
use Rattle.places.specs.Store.{Kind, Kind-dec, op, blk, reg, val, usg, Role, operands, successors, value_uses, block_uses, results, arguments, regions, ops, blocks, Fam, slots, use_sets, vals, regs, ops_in, blocks_in, fam, node_of, holder_of, Limited, of_operands, of_successors, of_results, of_arguments, of_regions, Thing, Thing-dec, Con, Con-dec, State, alive, Live, owns, Link, outer, up, Ends, Fit, operand, successor, UseHeld, Placed}
use Rattle.places.specs.Parts.{Parts, Rows, node_in, con_of, store, rows_of}
use Rattle.seqs.proofs.Base.{tick_yes, tick_no}
use Rattle.places.proofs.Steps.{some_inj, some_none}
use Rattle.seqs.proofs.Sums.{count_map, count_none}
use Rattle.places.proofs.Rows.{node_in_lem}
use Rattle.places.proofs.Fuel.{bind, more, ends_by, ends_by_ends, climbs}
use Rattle.sound_parts.specs.Cross.{Cells, conts, Holder, Node, FitAt, step_up, ends_at, Crossed, code_of, sits, Reads, SoundBy}

-- ---- a container's role and holder, by cases

module _ (v o : ℕ) (T : Fam → ℕ → Con → Type 0)
    (c1 : (k : ℕ) → k % 2 ≡ 0 → T slots k (operands, (op, k / 2))) (c2 : (k : ℕ) → k % 2 ≡ 1 → T slots k (successors, (op, k / 2)))
    (c3 : (k : ℕ) → k < v → T use_sets k (value_uses, (val, k))) (c4 : (k : ℕ) → v ≤ k → T use_sets k (block_uses, (blk, k - v)))
    (c5 : (k : ℕ) → k < o → T vals k (results, (op, k))) (c6 : (k : ℕ) → o ≤ k → T vals k (arguments, (blk, k - o)))
    (c7 : (k : ℕ) → T regs k (regions, (op, k))) (c8 : (k : ℕ) → T ops_in k (ops, (blk, k))) (c9 : (k : ℕ) → T blocks_in k (blocks, (reg, k))) where
  con_ind : (f : Fam) (k : ℕ) → T f k ((rows_of v o).con f k)
  unfolding rows_of
  con_ind slots k = by_cases (ℕ_discrete (k % 2) 0) (λ e. subst (λ (c : Con). T slots k c) (sym (if_pos (ℕ_discrete (k % 2) 0) e _ _)) (c1 k e)) (λ n. subst (λ (c : Con). T slots k c) (sym (if_neg (ℕ_discrete (k % 2) 0) n _ _)) (c2 k (omega arith)))
  con_ind use_sets k = by_cases (dec_lt k v) (λ e. subst (λ (c : Con). T use_sets k c) (sym (if_pos (dec_lt k v) e _ _)) (c3 k e)) (λ n. subst (λ (c : Con). T use_sets k c) (sym (if_neg (dec_lt k v) n _ _)) (c4 k (omega arith)))
  con_ind vals k = by_cases (dec_lt k o) (λ e. subst (λ (c : Con). T vals k c) (sym (if_pos (dec_lt k o) e _ _)) (c5 k e)) (λ n. subst (λ (c : Con). T vals k c) (sym (if_neg (dec_lt k o) n _ _)) (c6 k (omega arith)))
  con_ind regs k = c7 k
  con_ind ops_in k = c8 k
  con_ind blocks_in k = c9 k

record Facts (v o : ℕ) (f : Fam) (k : ℕ) (c : Con) : Type 0 where
  back : (rows_of v o).row c.0 c.1.1 ≡ k
  family : fam c.0 ≡ f
  node : node_in f ≡ node_of c.0
  holder : c.1.0 ≡ holder_of c.0

con_facts : (v o : ℕ) (f : Fam) (k : ℕ) → Facts v o f k ((rows_of v o).con f k)
unfolding rows_of
con_facts v o f k =
    con_ind v o (Facts v o)
    (λ k e. record { back = omega arith; family = refl; node = refl; holder = refl })
    (λ k e. record { back = omega arith; family = refl; node = refl; holder = refl })
    (λ k e. record { back = refl; family = refl; node = refl; holder = refl })
    (λ k e. record { back = omega arith; family = refl; node = refl; holder = refl })
    (λ k e. record { back = refl; family = refl; node = refl; holder = refl })
    (λ k e. record { back = omega arith; family = refl; node = refl; holder = refl })
    (λ k. record { back = refl; family = refl; node = refl; holder = refl })
    (λ k. record { back = refl; family = refl; node = refl; holder = refl })
    (λ k. record { back = refl; family = refl; node = refl; holder = refl })
    f k

-- the holder lives: as the test says it, and by kind and place
holder_is : (C : Cells) (f : Fam) (k : ℕ) → Holder C f k ↔ (0 < C.stamp ((rows_of (C.cap val) (C.cap op)).con f k).1.0 ((rows_of (C.cap val) (C.cap op)).con f k).1.1)
holder_is C f k =
    con_ind (C.cap val) (C.cap op) (λ f k c. Holder C f k ↔ (0 < C.stamp c.1.0 c.1.1))
    (λ k e. (λ h. h, λ h. h))
    (λ k e. (λ h. h, λ h. h))
    (λ k e. (λ h. h.0 e, λ h. (λ _. h, λ n. absurd (omega arith))))
    (λ k e. (λ h. h.1 e, λ h. (λ n. absurd (omega arith), λ _. h)))
    (λ k e. (λ h. h.0 e, λ h. (λ _. h, λ n. absurd (omega arith))))
    (λ k e. (λ h. h.1 e, λ h. (λ n. absurd (omega arith), λ _. h)))
    (λ k. (λ h. h, λ h. h))
    (λ k. (λ h. h, λ h. h))
    (λ k. (λ h. h, λ h. h))
    f k

tick_iff : {A B : Type 0} (v : Dec A) (w : Dec B) → (A → B) → (B → A) → tick v ≡ tick w
tick_iff v w f g = by_cases v (λ a. tick_yes v a ∙ sym (tick_yes w (f a))) (λ n. tick_no v n ∙ sym (tick_no w (λ b. n (g b))))

abbrev over : Kind → ℕ → Option Thing
over k zero = none
over k (suc j) = some (k, j)

some_code : (h : ℕ) → 0 < h → (k : ℕ) × (h ≡ suc k)
some_code zero p = absurd (omega arith)
some_code (suc k) p = (k, refl)

con_even : (v o k : ℕ) → k % 2 ≡ 0 → (rows_of v o).con slots k ≡ (operands, (op, k / 2))
unfolding rows_of
con_even v o k e = if_pos (ℕ_discrete (k % 2) 0) e _ _

con_odd : (v o k : ℕ) → (k % 2 ≡ 0 → ⊥) → (rows_of v o).con slots k ≡ (successors, (op, k / 2))
unfolding rows_of
con_odd v o k n = if_neg (ℕ_discrete (k % 2) 0) n _ _

con_value : (v o k : ℕ) → k < v → (rows_of v o).con use_sets k ≡ (value_uses, (val, k))
unfolding rows_of
con_value v o k h = if_pos (dec_lt k v) h _ _

con_block : (v o k : ℕ) → (k < v → ⊥) → (rows_of v o).con use_sets k ≡ (block_uses, (blk, k - v))
unfolding rows_of
con_block v o k n = if_neg (dec_lt k v) n _ _

con_result : (v o k : ℕ) → k < o → (rows_of v o).con vals k ≡ (results, (op, k))
unfolding rows_of
con_result v o k h = if_pos (dec_lt k o) h _ _

con_argument : (v o k : ℕ) → (k < o → ⊥) → (rows_of v o).con vals k ≡ (arguments, (blk, k - o))
unfolding rows_of
con_argument v o k n = if_neg (dec_lt k o) n _ _

fit_to : (v o k j : ℕ) → (k % 2 ≡ 0 → j < v) × (k % 2 ≡ 1 → v ≤ j) → Fit ((rows_of v o).con slots k).0 ((rows_of v o).con use_sets j).0
fit_to v o k j h = by_cases (ℕ_discrete (k % 2) 0)
    (λ e. rw (con_even v o k e, con_value v o j (h.0 e)) operand)
    (λ n. rw (con_odd v o k n, con_block v o j (omega (arith, h.1 (omega arith)))) successor)

-- what fits whom, by number
fits : Role → Role → ℕ
fits = λ r s. elim r [ operands ↦ elim s [ value_uses ↦ 1 | operands ↦ 0 | successors ↦ 0 | block_uses ↦ 0 | results ↦ 0 | arguments ↦ 0 | regions ↦ 0 | ops ↦ 0 | blocks ↦ 0 ] | successors ↦ elim s [ value_uses ↦ 0 | operands ↦ 0 | successors ↦ 0 | block_uses ↦ 1 | results ↦ 0 | arguments ↦ 0 | regions ↦ 0 | ops ↦ 0 | blocks ↦ 0 ] | value_uses ↦ 0 | block_uses ↦ 0 | results ↦ 0 | arguments ↦ 0 | regions ↦ 0 | ops ↦ 0 | blocks ↦ 0 ]

fit_fits : {r s : Role} → Fit r s → fits r s ≡ 1
unfolding fits
fit_fits operand = refl
fit_fits successor = refl

fit_from : (v o k j : ℕ) → Fit ((rows_of v o).con slots k).0 ((rows_of v o).con use_sets j).0 → (k % 2 ≡ 0 → j < v) × (k % 2 ≡ 1 → v ≤ j)
unfolding fits
fit_from v o k j t = (λ e. by_cases (dec_lt j v) (λ h. h) (λ n. absurd (bad e n)), λ e. by_cases (dec_lt j v) (λ h. absurd (worse e h)) (λ n. omega arith))
  where
    bad : k % 2 ≡ 0 → (j < v → ⊥) → ⊥
    bad e n = let z : ◌≡◌ {A = ℕ} 0 1 = sym (λ i. fits (con_even v o k e i).0 (con_block v o j n i).0) ∙ fit_fits t in omega arith

    worse : k % 2 ≡ 1 → j < v → ⊥
    worse e h = let z : ◌≡◌ {A = ℕ} 0 1 = sym (λ i. fits (con_odd v o k (omega arith) i).0 (con_value v o j h i).0) ∙ fit_fits t in omega arith

limited_slots : (v o k : ℕ) → Limited ((rows_of v o).con slots k).0
limited_slots v o k = by_cases (ℕ_discrete (k % 2) 0) (λ e. rw (con_even v o k e) of_operands) (λ n. rw (con_odd v o k n) of_successors)

limited_vals : (v o k : ℕ) → Limited ((rows_of v o).con vals k).0
limited_vals v o k = by_cases (dec_lt k o) (λ e. rw (con_result v o k e) of_results) (λ n. rw (con_argument v o k n) of_arguments)

limited_regs : (v o k : ℕ) → Limited ((rows_of v o).con regs k).0
unfolding rows_of
limited_regs v o k = of_regions

count_short : (x : ℕ) (l : List ℕ) → count ℕ_discrete x l ≤ length l
count_short x [] = omega arith
count_short x (y ∷ l) = by_cases (ℕ_discrete x y) (λ e. omega (arith, count_short x l, tick_yes (ℕ_discrete x y) e)) (λ n. omega (arith, count_short x l, tick_no (ℕ_discrete x y) n))

owns_none : (c : Con) → 0 ≡ owns none c
unfolding owns
owns_none c = refl

owns_not : (b c : Con) → b ≢ c → 0 ≡ owns (some b) c
unfolding owns
owns_not b c n = sym (tick_no (Con-dec b c) n)

owns_tick : (j : ℕ) (b c : Con) (k : ℕ) → (j ≡ k → b ≡ c) → (b ≡ c → j ≡ k) → tick (ℕ_discrete j k) ≡ owns (some b) c
unfolding owns
owns_tick j b c k f g = tick_iff (ℕ_discrete j k) (Con-dec b c) f g

module _ (C : Cells) (M : Parts) (W : Reads C M) where
  abbrev R : Rows
  R = rows_of (C.cap val) (C.cap op)

  abbrev P : State
  P = store R M

  abbrev F : (f : Fam) (k : ℕ) → Facts (C.cap val) (C.cap op) f k (R.con f k)
  F f k = con_facts (C.cap val) (C.cap op) f k

  live_to : (k : Kind) (p : ℕ) → 0 < C.stamp k p → Live P (k, p)
  unfolding store alive
  live_to k p h = (W.lives k p).0 h

  live_of : (x : Thing) → Live P x → 0 < C.stamp x.0 x.1
  unfolding store alive
  live_of x h = (W.lives x.0 x.1).1 h

  live_in : (x : Thing) → Live P x → x.1 < C.cap x.0
  unfolding store alive
  live_in x h = omega (arith, (W.tabs x.0).fits x.1 h, W.caps x.0)

  -- what a thing of the right kind stands in
  own_code : (x : Thing) (f : Fam) → x.0 ≡ node_in f → P.own x f ≡ con_of (R.con f) (code_of (C.home f x.1))
  unfolding store
  own_code x f e = if_pos (Kind-dec x.0 (node_in f)) e (con_of (R.con f) (M.homes f x.1)) none ∙ ap (con_of (R.con f)) (W.homes f x.1)

  own_not : (x : Thing) (f : Fam) → x.0 ≢ node_in f → P.own x f ≡ none
  unfolding store
  own_not x f n = if_neg (Kind-dec x.0 (node_in f)) n (con_of (R.con f) (M.homes f x.1)) none

  own_some : (f : Fam) (q k : ℕ) → C.home f q ≡ suc k → P.own (node_in f, q) f ≡ some (R.con f k)
  own_some f q k e = own_code (node_in f, q) f refl ∙ ap (λ h. con_of (R.con f) (code_of h)) e

  record Owned (x : Thing) (f : Fam) (c : Con) : Type 0 where
    k : ℕ
    kind : x.0 ≡ node_in f
    code : C.home f x.1 ≡ suc k
    is : c ≡ R.con f k

  own_inv : (x : Thing) (f : Fam) (c : Con) → P.own x f ≡ some c → Owned x f c
  own_inv x f c e = by_cases (Kind-dec x.0 (node_in f)) (λ t. go t (C.home f x.1) refl (sym (own_code x f t) ∙ e)) (λ n. absurd (some_none e (own_not x f n)))
    where
      go : x.0 ≡ node_in f → (h : ℕ) → C.home f x.1 ≡ h → con_of (R.con f) (code_of h) ≡ some c → Owned x f c
      go t zero p q = absurd (some_none q refl)
      go t (suc k) p q = record { k = k; kind = t; code = p; is = sym (some_inj q) }

  list_yes : (a : Thing) (r : Role) → R.con (fam r) (R.row r a.1) ≡ (r, a) → P.list a r ≡ map (λ q. (node_of r, q)) (M.rows (fam r) (R.row r a.1))
  unfolding store
  list_yes a r e = if_pos (Con-dec (R.con (fam r) (R.row r a.1)) (r, a)) e (map (λ q. (node_of r, q)) (M.rows (fam r) (R.row r a.1))) []

  list_no : (a : Thing) (r : Role) → R.con (fam r) (R.row r a.1) ≢ (r, a) → P.list a r ≡ []
  unfolding store
  list_no a r e = if_neg (Con-dec (R.con (fam r) (R.row r a.1)) (r, a)) e (map (λ q. (node_of r, q)) (M.rows (fam r) (R.row r a.1))) []

  -- a container that is read back as (r, a) is row's
  con_back : (f : Fam) (k : ℕ) (r : Role) (a : Thing) → R.con f k ≡ (r, a) → R.row r a.1 ≡ k
  con_back f k r a e = ap (λ (c : Con). R.row c.0 c.1.1) (sym e) ∙ (F f k).back

  held : (r : Role) (a x : Thing) → count Thing-dec x (P.list a r) ≡ owns (P.own x (fam r)) (r, a)
  held r a x = by_cases (Con-dec (R.con (fam r) (R.row r a.1)) (r, a)) is is_not
    where
      k₀ : ℕ
      k₀ = R.row r a.1

      is_not : R.con (fam r) k₀ ≢ (r, a) → count Thing-dec x (P.list a r) ≡ owns (P.own x (fam r)) (r, a)
      is_not n = rw (list_no a r n) (go (P.own x (fam r)) refl)
        where
          go : (o : Option Con) → P.own x (fam r) ≡ o → 0 ≡ owns o (r, a)
          go none e = owns_none (r, a)
          go (some b) e = let w : Owned x (fam r) b = own_inv x (fam r) b e in
              owns_not b (r, a) (λ t. n (ap (R.con (fam r)) (con_back (fam r) w.k r a (sym w.is ∙ t)) ∙ sym w.is ∙ t))

      is : R.con (fam r) k₀ ≡ (r, a) → count Thing-dec x (P.list a r) ≡ owns (P.own x (fam r)) (r, a)
      is e = rw (list_yes a r e) (by_cases (Kind-dec x.0 (node_of r)) same other)
        where
          other : x.0 ≢ node_of r → count Thing-dec x (map (λ q. (node_of r, q)) (M.rows (fam r) k₀)) ≡ owns (P.own x (fam r)) (r, a)
          other n = count_none Thing-dec (λ q. (node_of r, q)) x (λ q t. n (ap (λ (y : Thing). y.0) t)) (M.rows (fam r) k₀) ∙ owns_none (r, a) ∙ ap (λ o. owns o (r, a)) (sym (own_not x (fam r) (λ t. n (t ∙ node_in_lem r))))

          code : (h : ℕ) → sits h k₀ ≡ owns (con_of (R.con (fam r)) (code_of h)) (r, a)
          code zero = owns_none (r, a)
          code (suc j) = owns_tick j (R.con (fam r) j) (r, a) k₀ (λ t. ap (R.con (fam r)) t ∙ e) (λ t. sym (con_back (fam r) j r a t))

          same : x.0 ≡ node_of r → count Thing-dec x (map (λ q. (node_of r, q)) (M.rows (fam r) k₀)) ≡ owns (P.own x (fam r)) (r, a)
          same t =
              ap (λ (y : Thing). count Thing-dec y (map (λ q. (node_of r, q)) (M.rows (fam r) k₀))) (λ i. (t i, x.1))
              ∙ count_map ℕ_discrete Thing-dec (λ q. (node_of r, q)) (λ p q e. ap (λ (y : Thing). y.1) e) x.1 (M.rows (fam r) k₀)
              ∙ W.rows (fam r) k₀ x.1 ∙ code (C.home (fam r) x.1) ∙ ap (λ o. owns o (r, a)) (sym (own_code x (fam r) (t ∙ sym (node_in_lem r))))

  -- ---- climbing

  abbrev H : Fam → ℕ → ℕ
  H = C.home

  up_op : (p : ℕ) → up P (op, p) ≡ over blk (H ops_in p)
  unfolding up rows_of
  up_op p = ap outer (own_code (op, p) ops_in refl) ∙ code (H ops_in p)
    where
      code : (h : ℕ) → outer (con_of (R.con ops_in) (code_of h)) ≡ over blk h
      code zero = refl
      code (suc j) = refl

  up_blk : (p : ℕ) → up P (blk, p) ≡ over reg (H blocks_in p)
  unfolding up rows_of
  up_blk p = ap outer (own_code (blk, p) blocks_in refl) ∙ code (H blocks_in p)
    where
      code : (h : ℕ) → outer (con_of (R.con blocks_in) (code_of h)) ≡ over reg h
      code zero = refl
      code (suc j) = refl

  up_reg : (p : ℕ) → up P (reg, p) ≡ over op (H regs p)
  unfolding up rows_of
  up_reg p = ap outer (own_code (reg, p) regs refl) ∙ code (H regs p)
    where
      code : (h : ℕ) → outer (con_of (R.con regs) (code_of h)) ≡ over op h
      code zero = refl
      code (suc j) = refl

  ends_at_lem : (n p : ℕ) → ends_by (up P) n (op, p) ≡ ends_at H n p
  ends_at_lem zero p = refl
  ends_at_lem (suc n) p = ap (λ t. more (ends_by (up P) n) (bind t (λ b. bind (up P b) (up P)))) (up_op p) ∙ at_op (λ j. ends_at_lem n j) (H ops_in p)
    where
      at_reg : ((j : ℕ) → ends_by (up P) n (op, j) ≡ ends_at H n j) → (h : ℕ) → more (ends_by (up P) n) (over op h) ≡ step_up h (ends_at H n)
      at_reg ih zero = refl
      at_reg ih (suc j) = ih j

      at_blk : ((j : ℕ) → ends_by (up P) n (op, j) ≡ ends_at H n j) → (h : ℕ) → more (ends_by (up P) n) (bind (over reg h) (up P)) ≡ step_up h (λ r. step_up (H regs r) (ends_at H n))
      at_blk ih zero = refl
      at_blk ih (suc r) = ap (more (ends_by (up P) n)) (up_reg r) ∙ at_reg ih (H regs r)

      at_op : ((j : ℕ) → ends_by (up P) n (op, j) ≡ ends_at H n j) → (h : ℕ) → more (ends_by (up P) n) (bind (over blk h) (λ b. bind (up P b) (up P))) ≡ step_up h (λ b. step_up (H blocks_in b) (λ r. step_up (H regs r) (ends_at H n)))
      at_op ih zero = refl
      at_op ih (suc b) = ap (λ t. more (ends_by (up P) n) (bind t (up P))) (up_blk b) ∙ at_blk ih (H blocks_in b)

  -- ---- what the tests find makes the store sound

  module _ (X : Crossed C) where
    link : (x : Thing) (f : Fam) (c : Con) → P.own x f ≡ some c → Link P x f c
    link x f c e =
        let w : Owned x f c = own_inv x f c e in
        let n : (0 < C.stamp (node_in f) x.1) × Holder C f w.k = X.node f x.1 (W.within f x.1 (omega (arith, w.code))) w.k w.code in
        record {
          family = ap (λ (b : Con). fam b.0) w.is ∙ (F f w.k).family;
          node = w.kind ∙ (F f w.k).node ∙ ap (λ (b : Con). node_of b.0) (sym w.is);
          holder = ap (λ (b : Con). b.1.0) w.is ∙ (F f w.k).holder ∙ ap (λ (b : Con). holder_of b.0) (sym w.is);
          live = live_to x.0 x.1 (subst (λ (t : Kind). 0 < C.stamp t x.1) (sym w.kind) n.0);
          home = subst (λ (b : Con). Live P b.1) (sym w.is) (live_to (R.con f w.k).1.0 (R.con f w.k).1.1 ((holder_is C f w.k).0 n.1));
        }

    short_by : (r : Role) → Limited r → (k : ℕ) → C.len (fam r) k ≤ 64
    short_by operands of_operands k = by_cases (dec_lt k (conts C.cap slots)) (λ h. X.short_slots k h) (λ n. omega (arith, W.beyond slots k (omega arith)))
    short_by successors of_successors k = by_cases (dec_lt k (conts C.cap slots)) (λ h. X.short_slots k h) (λ n. omega (arith, W.beyond slots k (omega arith)))
    short_by results of_results k = by_cases (dec_lt k (conts C.cap vals)) (λ h. X.short_vals k h) (λ n. omega (arith, W.beyond vals k (omega arith)))
    short_by arguments of_arguments k = by_cases (dec_lt k (conts C.cap vals)) (λ h. X.short_vals k h) (λ n. omega (arith, W.beyond vals k (omega arith)))
    short_by regions of_regions k = by_cases (dec_lt k (conts C.cap regs)) (λ h. X.short_regs k h) (λ n. omega (arith, W.beyond regs k (omega arith)))
    short_by value_uses m k = elim m [ ]
    short_by block_uses m k = elim m [ ]
    short_by ops m k = elim m [ ]
    short_by blocks m k = elim m [ ]

    short : (a : Thing) (r : Role) → Limited r → length (P.list a r) ≤ 64
    short a r m = by_cases (Con-dec (R.con (fam r) (R.row r a.1)) (r, a))
        (λ e. rw (list_yes a r e, length-map) (omega (arith, W.lens (fam r) (R.row r a.1), short_by r m (R.row r a.1))))
        (λ n. rw (list_no a r n) (omega arith))

    -- an operation with a region, by the test
    full_ends : (p : ℕ) → 0 < C.stamp op p → 0 < C.len regs p → Ends (up P) (op, p)
    full_ends p h g = ends_by_ends (up P) C.depth (op, p) (ends_at_lem C.depth p ∙ X.climb p (live_in (op, p) (live_to op p h)) h g)

    has_region : (r k : ℕ) → H regs r ≡ suc k → 0 < C.len regs k
    has_region r k e = omega (arith, W.lens regs k, count_short r (M.rows regs k), W.rows regs k r, ap (λ h. sits h k) e, tick_yes (ℕ_discrete k k) refl)

    reg_ends : (p : ℕ) → Ends (up P) (reg, p)
    reg_ends p = go (H regs p) refl
      where
        go : (h : ℕ) → H regs p ≡ h → Ends (up P) (reg, p)
        go zero e = Ends.top (up_reg p ∙ ap (over op) e)
        go (suc k) e = Ends.climb (up_reg p ∙ ap (over op) e) (full_ends k (X.node regs p (W.within regs p (omega arith)) k e).1 (has_region p k e))

    blk_ends : (p : ℕ) → Ends (up P) (blk, p)
    blk_ends p = go (H blocks_in p) refl
      where
        go : (h : ℕ) → H blocks_in p ≡ h → Ends (up P) (blk, p)
        go zero e = Ends.top (up_blk p ∙ ap (over reg) e)
        go (suc k) e = Ends.climb (up_blk p ∙ ap (over reg) e) (reg_ends k)

    op_ends : (p : ℕ) → Ends (up P) (op, p)
    op_ends p = go (H ops_in p) refl
      where
        go : (h : ℕ) → H ops_in p ≡ h → Ends (up P) (op, p)
        go zero e = Ends.top (up_op p ∙ ap (over blk) e)
        go (suc k) e = Ends.climb (up_op p ∙ ap (over blk) e) (blk_ends k)

    ends_of : (k : Kind) (p : ℕ) → Ends (up P) (k, p)
    unfolding up
    ends_of op p = op_ends p
    ends_of blk p = blk_ends p
    ends_of reg p = reg_ends p
    ends_of val p = Ends.top refl
    ends_of usg p = Ends.top refl

    placed_of : (k : Kind) (p : ℕ) → Live P (k, p) → Placed k (P.own (k, p))
    placed_of op p h = tt
    placed_of blk p h = tt
    placed_of reg p h = let w : (k : ℕ) × (H regs p ≡ suc k) = some_code (H regs p) (X.must_reg p (live_in (reg, p) h) (live_of (reg, p) h)) in (R.con regs w.0, own_some regs p w.0 w.1)
    placed_of val p h = let w : (k : ℕ) × (H vals p ≡ suc k) = some_code (H vals p) (X.must_val p (live_in (val, p) h) (live_of (val, p) h)) in (R.con vals w.0, own_some vals p w.0 w.1)
    placed_of usg p h =
        let w : (k : ℕ) × (H slots p ≡ suc k) = some_code (H slots p) (X.must_slot p (live_in (usg, p) h) (live_of (usg, p) h)) in
        let d : (k : ℕ) × (H use_sets p ≡ suc k) = some_code (H use_sets p) (X.must_set p (live_in (usg, p) h) (live_of (usg, p) h)) in
        record {
          slot = R.con slots w.0;
          def = R.con use_sets d.0;
          in_slot = own_some slots p w.0 w.1;
          in_def = own_some use_sets p d.0 d.1;
          fit = fit_to (C.cap val) (C.cap op) w.0 d.0 (X.fit p (live_in (usg, p) h) w.0 d.0 w.1 d.1);
        }

    pub crossed_sound : SoundBy C M
    unfolding store
    crossed_sound =
        record {
          linked =
              record {
                tabs = W.tabs;
                held = held;
                link = link;
                short = short;
                flags = λ p h. omega (arith, W.tags p, X.flags p (live_in (op, p) h) (live_of (op, p) h));
                ends = λ x. ends_of x.0 x.1;
              };
          placed = λ x h. placed_of x.0 x.1 h;
        }

  -- ---- a sound store passes

  module _ (S : SoundBy C M) where
    node_of_lem : (f : Fam) (q : ℕ) → Node C f q
    node_of_lem f q k e =
        let L : Link P (node_in f, q) f (R.con f k) = S.linked.link (node_in f, q) f (R.con f k) (own_some f q k e) in
        (live_of (node_in f, q) L.live, (holder_is C f k).1 (live_of (R.con f k).1 L.home))

    in_code : (f : Fam) (q : ℕ) (c : Con) → P.own (node_in f, q) f ≡ some c → 0 < H f q
    in_code f q c e = omega (arith, (own_inv (node_in f, q) f c e).code)

    use_of_lem : (q : ℕ) → 0 < C.stamp usg q → UseHeld (P.own (usg, q))
    use_of_lem q h = S.placed (usg, q) (live_to usg q h)

    short_of : (f : Fam) (c : ℕ) → Limited (R.con f c).0 → C.len f c ≤ 64
    short_of f c m =
        let e : length (P.list (R.con f c).1 (R.con f c).0) ≡ length (M.rows f c) =
        ap length (list_yes (R.con f c).1 (R.con f c).0 (λ i. R.con ((F f c).family i) ((F f c).back i))) ∙ length-map {B = Thing} (M.rows (fam (R.con f c).0) (R.row (R.con f c).0 (R.con f c).1.1)) (λ q. (node_of (R.con f c).0, q)) ∙ (λ i. length (M.rows ((F f c).family i) ((F f c).back i))) in
        omega (arith, W.lens f c, S.linked.short (R.con f c).1 (R.con f c).0 m)

    fit_of : (q : ℕ) → FitAt C q
    fit_of q k j e d =
        let u : UseHeld (P.own (usg, q)) = use_of_lem q (node_of_lem slots q k e).0 in
        fit_from (C.cap val) (C.cap op) k j
        (subst (λ (c : Con). Fit (R.con slots k).0 c.0) (some_inj (sym u.in_def ∙ own_some use_sets q j d))
        (subst (λ (c : Con). Fit c.0 u.def.0) (some_inj (sym u.in_slot ∙ own_some slots q k e)) u.fit))

    pub sound_crossed : Crossed C
    unfolding store
    sound_crossed =
        record {
          node = λ f q _. node_of_lem f q;
          must_slot = λ q _ h. let u : UseHeld (P.own (usg, q)) = use_of_lem q h in in_code slots q u.slot u.in_slot;
          must_set = λ q _ h. let u : UseHeld (P.own (usg, q)) = use_of_lem q h in in_code use_sets q u.def u.in_def;
          must_val = λ q _ h. let u : Placed val (P.own (val, q)) = S.placed (val, q) (live_to val q h) in in_code vals q u.0 u.1;
          must_reg = λ q _ h. let u : Placed reg (P.own (reg, q)) = S.placed (reg, q) (live_to reg q h) in in_code regs q u.0 u.1;
          fit = λ q _. fit_of q;
          short_slots = λ c _. short_of slots c (limited_slots (C.cap val) (C.cap op) c);
          short_vals = λ c _. short_of vals c (limited_vals (C.cap val) (C.cap op) c);
          short_regs = λ c _. short_of regs c (limited_regs (C.cap val) (C.cap op) c);
          flags = λ p _ h. omega (arith, W.tags p, S.linked.flags p (live_to op p h));
          climb = λ p _ h _. sym (ends_at_lem C.depth p) ∙ ap (λ n. ends_by (up P) n (op, p)) (sym W.depth) ∙ climbs S.linked (op, p) refl (live_to op p h);
        }

-- the theorem
pub crossed_iff : (C : Cells) (M : Parts) → Reads C M → Crossed C ↔ SoundBy C M
crossed_iff C M W = (crossed_sound C M W, sound_crossed C M W)
