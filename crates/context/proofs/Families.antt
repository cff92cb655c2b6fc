-- A change of one row of a family is a step of the store. Assumes nothing.
use mathlib.Core.Path.{◌≡◌, refl, sym, ap, ◌∙◌, subst₂}
use mathlib.Core.Logic.{ite, if_pos, if_neg, by_cases}
use mathlib.Core.List.{List, [], map}
use mathlib.Core.Option.{Option, none, some}
use Prim.Native.Nat.{ℕ, zero, suc, ◌+◌, ◌-◌, ◌/◌, ◌%◌, ◌<◌}
use native.Mathlib.Decide.{ℕ_discrete, dec_lt}
use native.Mathlib.Numerals.{add-one}
use native.Mathlib.Omega.{arith}
use lib.ListN.{get_or}
use Rattle.seqs.specs.Split.{split}
use Rattle.linked_list.specs.Links.{home, lists, Rowed}
use Rattle.linked_list.proofs.View.{lists_count}
use Rattle.seqs.specs.Seqs.{upd, without, seq_insert_at}
use Rattle.places.specs.Store.{Kind, op, blk, val, operands, successors, value_uses, block_uses, results, arguments, Fam, slots, use_sets, vals, regs, ops_in, blocks_in, fam, node_of, holder_of, Thing, Con, Fam-dec, Kind-dec, leave, enter}
use Rattle.places.specs.Parts.{Parts, Rows, node_in, con_of, rows_of, store, set_row}
use Rattle.seqs.proofs.Base.{upd_same, upd_other}
use Rattle.places.proofs.Steps.{some_none, some_inj}
use Rattle.places.proofs.Extra.{rows_set}
use Rattle.places.proofs.Rows.{node_in_lem, list_is, row_enter, row_leave}
use Rattle.context.specs.declared.Layout.{Layout}
use Rattle.context.specs.Layout.{cap_of, nc_of, nn_of, sizes, kind_part, fam_part}
use Rattle.context.specs.Memory.{part, decode, book_in, rows_in, homes_in, parts_of, rows_for, con, state_of, Well}
use Rattle.context.proofs.Pieces.{get_d_out, Swapped, there, elsewhere, fam_part<, kind_part<, fam_part_inj, tags_kept}

-- ---- the parts

module _ {l : Layout} {m m' s' : List ℕ} (f : Fam) (k : ℕ) (row : List ℕ) (n v : ℕ) (S : Swapped l (fam_part f) s' m m')
    (R : Rowed (nc_of l f) (nn_of l f) (part l m (fam_part f)) s' k row n v) where
  abbrev M : Parts
  M = parts_of l (split (sizes l) m)

  rows_are : (g : Fam) (j : ℕ) → (parts_of l (split (sizes l) m')).rows g j ≡ upd Fam-dec M.rows f (upd ℕ_discrete (M.rows f) k row) g j
  unfolding parts_of
  rows_are g j =
      by_cases (Fam-dec g f)
      (λ e. rw e
      (ap (λ (t : List ℕ). rows_in (nc_of l f) (nn_of l f) t j) (there S)
      ∙ ap (λ (ls : List (List ℕ)). get_or ls j []) R.row
      ∙ rows_set (lists (nc_of l f) (nn_of l f) (part l m (fam_part f))) k row [] (omega (arith, R.c<, lists_count (nc_of l f) (nn_of l f) (part l m (fam_part f)))) j
      ∙ sym (ap (λ (h : ℕ → List ℕ). h j) (upd_same Fam-dec M.rows f (upd ℕ_discrete (M.rows f) k row)))))
      (λ d. ap (λ (t : List ℕ). rows_in (nc_of l g) (nn_of l g) t j) (elsewhere S (fam_part g) (λ e. d (fam_part_inj g f e)))
      ∙ sym (ap (λ (h : ℕ → List ℕ). h j) (upd_other Fam-dec M.rows f (upd ℕ_discrete (M.rows f) k row) d)))

  homes_are : (g : Fam) (q : ℕ) → (parts_of l (split (sizes l) m')).homes g q ≡ upd Fam-dec M.homes f (upd ℕ_discrete (M.homes f) n (decode v)) g q
  unfolding parts_of
  homes_are g q =
      by_cases (Fam-dec g f)
      (λ e. rw e
      (ap (λ (t : List ℕ). homes_in (nc_of l f) (nn_of l f) t q) (there S)
      ∙ by_cases (ℕ_discrete q n)
      (λ a. rw a (ap decode R.homes.mine ∙ sym (upd_same ℕ_discrete (M.homes f) n (decode v))))
      (λ b. ap decode (R.homes.others q b) ∙ sym (upd_other ℕ_discrete (M.homes f) n (decode v) b))
      ∙ sym (ap (λ (h : ℕ → Option ℕ). h q) (upd_same Fam-dec M.homes f (upd ℕ_discrete (M.homes f) n (decode v))))))
      (λ d. ap (λ (t : List ℕ). homes_in (nc_of l g) (nn_of l g) t q) (elsewhere S (fam_part g) (λ e. d (fam_part_inj g f e)))
      ∙ sym (ap (λ (h : ℕ → Option ℕ). h q) (upd_other Fam-dec M.homes f (upd ℕ_discrete (M.homes f) n (decode v)) d)))

  books_are : (j : Kind) → (parts_of l (split (sizes l) m')).books j ≡ M.books j
  unfolding parts_of
  books_are j = ap (book_in (cap_of l j)) (elsewhere S (kind_part j) (omega (arith, fam_part< f, kind_part< j)))

  tags_are : (a : Thing) → (parts_of l (split (sizes l) m')).tags a ≡ M.tags a
  unfolding parts_of
  tags_are a = tags_kept (split (sizes l) m) (split (sizes l) m') (elsewhere S 12 (omega (arith, fam_part< f))) (elsewhere S 13 (omega (arith, fam_part< f))) a.0 a.1

  pub parts_row : parts_of l (split (sizes l) m') ≡ set_row f k row n (decode v) M
  unfolding set_row
  parts_row = λ i. record { books = λ j. books_are j i; rows = λ g j. rows_are g j i; homes = λ g q. homes_are g q i; tags = λ a. tags_are a i }

-- ---- a list by its number in its family

pub record Back (v o : ℕ) (f : Fam) (k : ℕ) (c : Con) : Type 0 where
  pub family : fam c.0 ≡ f
  pub number : (rows_of v o).row c.0 c.1.1 ≡ k

pub con_back : (v o : ℕ) (f : Fam) (k : ℕ) → Back v o f k ((rows_of v o).con f k)
unfolding rows_of
con_back v o slots k =
    by_cases (ℕ_discrete (k % 2) 0)
    (λ e. rw (if_pos {C = Con} (ℕ_discrete (k % 2) 0) e (operands, (op, k / 2)) (successors, (op, k / 2))) (record { family = refl; number = omega arith }))
    (λ e. rw (if_neg {C = Con} (ℕ_discrete (k % 2) 0) e (operands, (op, k / 2)) (successors, (op, k / 2))) (record { family = refl; number = omega arith }))
con_back v o use_sets k =
    by_cases (dec_lt k v)
    (λ e. rw (if_pos {C = Con} (dec_lt k v) e (value_uses, (val, k)) (block_uses, (blk, k - v))) (record { family = refl; number = refl }))
    (λ e. rw (if_neg {C = Con} (dec_lt k v) e (value_uses, (val, k)) (block_uses, (blk, k - v))) (record { family = refl; number = omega arith }))
con_back v o vals k =
    by_cases (dec_lt k o)
    (λ e. rw (if_pos {C = Con} (dec_lt k o) e (results, (op, k)) (arguments, (blk, k - o))) (record { family = refl; number = refl }))
    (λ e. rw (if_neg {C = Con} (dec_lt k o) e (results, (op, k)) (arguments, (blk, k - o))) (record { family = refl; number = omega arith }))
con_back v o regs k = record { family = refl; number = refl }
con_back v o ops_in k = record { family = refl; number = refl }
con_back v o blocks_in k = record { family = refl; number = refl }

pub con_holder : (v o : ℕ) (f : Fam) (k : ℕ) → ((rows_of v o).con f k).1.0 ≡ holder_of ((rows_of v o).con f k).0
unfolding rows_of
con_holder v o slots k = go (ℕ_discrete (k % 2) 0)
  where
    go : (w : Dec (k % 2 ≡ 0)) → ◌≡◌ {A = Kind} (ite {C = Con} w (operands, (op, k / 2)) (successors, (op, k / 2))).1.0 (holder_of (ite {C = Con} w (operands, (op, k / 2)) (successors, (op, k / 2))).0)
    go (yes a) = refl
    go (no a) = refl
con_holder v o use_sets k = go (dec_lt k v)
  where
    go : (w : Dec (k < v)) → ◌≡◌ {A = Kind} (ite {C = Con} w (value_uses, (val, k)) (block_uses, (blk, k - v))).1.0 (holder_of (ite {C = Con} w (value_uses, (val, k)) (block_uses, (blk, k - v))).0)
    go (yes a) = refl
    go (no a) = refl
con_holder v o vals k = go (dec_lt k o)
  where
    go : (w : Dec (k < o)) → ◌≡◌ {A = Kind} (ite {C = Con} w (results, (op, k)) (arguments, (blk, k - o))).1.0 (holder_of (ite {C = Con} w (results, (op, k)) (arguments, (blk, k - o))).0)
    go (yes a) = refl
    go (no a) = refl
con_holder v o regs k = refl
con_holder v o ops_in k = refl
con_holder v o blocks_in k = refl

module _ (v o : ℕ) (M : Parts) (f : Fam) (k q : ℕ) where
  abbrev R : Rows
  R = rows_of v o

  abbrev c : Con
  c = R.con f k

  abbrev B : Back v o f k c
  B = con_back v o f k

  own : R.con (fam c.0) (R.row c.0 c.1.1) ≡ c
  own = rw (B.family, B.number)

  pub enter_at : (i : ℕ) → store R (set_row f k (seq_insert_at i q (M.rows f k)) q (some k) M) ≡ enter (R.con f k) i (node_in f, q) (store R M)
  enter_at i =
      subst₂ (λ (g : Fam) (j : ℕ). store R (set_row g j (seq_insert_at i q (M.rows g j)) q (some j) M) ≡ enter c i (node_in g, q) (store R M)) B.family B.number
      (row_enter R M c q own i ∙ ap (λ (t : Kind). enter c i (t, q) (store R M)) (sym (node_in_lem c.0)))

  pub leave_at : store R (set_row f k (without ℕ_discrete q (M.rows f k)) q none M) ≡ leave (R.con f k) (node_in f, q) (store R M)
  leave_at =
      subst₂ (λ (g : Fam) (j : ℕ). store R (set_row g j (without ℕ_discrete q (M.rows g j)) q none M) ≡ leave c (node_in g, q) (store R M)) B.family B.number
      (row_leave R M c q own ∙ ap (λ (t : Kind). leave c (t, q) (store R M)) (sym (node_in_lem c.0)))

  pub list_at : (store R M).list (R.con f k).1 (R.con f k).0 ≡ map (λ j. (node_of (R.con f k).0, j)) (M.rows f k)
  list_at = subst₂ (λ (g : Fam) (j : ℕ). (store R M).list c.1 c.0 ≡ map (λ i. (node_of c.0, i)) (M.rows g j)) B.family B.number (list_is R M c q own)

-- ---- the store

module _ (l : Layout) (m : List ℕ) (f : Fam) (n : ℕ) where
  abbrev cell : ℕ
  cell = get_or (part l m (fam_part f)) (home (nc_of l f) (nn_of l f) n) 0

  pub own_is : (state_of l m).own (node_in f, n) f ≡ con_of (con l f) (decode cell)
  unfolding store parts_of
  own_is = if_pos (Kind-dec (node_in f) (node_in f)) refl (con_of (con l f) (decode cell)) none

  -- the number of the list that n stands in
  pub stands : (c : Con) → (state_of l m).own (node_in f, n) f ≡ some c → (k : ℕ) × (cell ≡ suc k) × (con l f k ≡ c)
  stands c e = go cell refl (sym own_is ∙ e)
    where
      go : (x : ℕ) → cell ≡ x → con_of (con l f) (decode x) ≡ some c → (k : ℕ) × (cell ≡ suc k) × (con l f k ≡ c)
      go zero e h = absurd (some_none h refl)
      go (suc k) e h = (k, e, some_inj h)

  pub free : (state_of l m).own (node_in f, n) f ≡ none → cell ≡ 0
  free e = go cell refl (sym own_is ∙ e)
    where
      go : (x : ℕ) → cell ≡ x → con_of (con l f) (decode x) ≡ none → cell ≡ 0
      go zero e h = e
      go (suc k) e h = absurd (some_none refl h)

module _ {l : Layout} {m m' s' : List ℕ} (f : Fam) (k n : ℕ) (S : Swapped l (fam_part f) s' m m') where
  abbrev row : List ℕ
  row = rows_in (nc_of l f) (nn_of l f) (part l m (fam_part f)) k

  pub state_left : Rowed (nc_of l f) (nn_of l f) (part l m (fam_part f)) s' k (without ℕ_discrete n row) n 0 → state_of l m' ≡ leave (con l f k) (node_in f, n) (state_of l m)
  unfolding parts_of
  state_left R = ap (store (rows_for l)) (parts_row f k (without ℕ_discrete n row) n 0 S R) ∙ leave_at l.values l.ops (parts_of l (split (sizes l) m)) f k n

  pub state_entered : (i : ℕ) → Rowed (nc_of l f) (nn_of l f) (part l m (fam_part f)) s' k (seq_insert_at i n row) n (k + 1) → state_of l m' ≡ enter (con l f k) i (node_in f, n) (state_of l m)
  unfolding parts_of
  state_entered i R = ap (store (rows_for l)) (parts_row f k (seq_insert_at i n row) n (k + 1) S R ∙ rw (add-one k)) ∙ enter_at l.values l.ops (parts_of l (split (sizes l) m)) f k n i

-- a node that stands in a list is one of the family's
pub node< : {l : Layout} {m : List ℕ} (W : Well l m) (f : Fam) (n k : ℕ) → get_or (part l m (fam_part f)) (home (nc_of l f) (nn_of l f) n) 0 ≡ suc k → n < nn_of l f
node< {l} {m} W f n k h =
    by_cases (dec_lt n (nn_of l f)) (λ y. y)
    (λ y. absurd (omega (arith, h, get_d_out (part l m (fam_part f)) (home (nc_of l f) (nn_of l f) n) (omega (arith, (W.families f).size)))))
