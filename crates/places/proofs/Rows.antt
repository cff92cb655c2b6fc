-- The rows of a store, and the two steps on lists as changes of a row. Assumes nothing.
use mathlib.Core.Path.{◌≡◌, refl, ap, ◌∙◌}
use mathlib.Core.Logic.{if_pos, if_neg}
use mathlib.Core.List.{List, [], map}
use mathlib.Core.Option.{none, some}
use native.Mathlib.Decide.{ℕ_discrete, dec_lt}
use native.Mathlib.Omega.{arith}
use Prim.Native.Nat.{ℕ, ◌+◌, ◌*◌, ◌%◌, ◌<◌}
use Rattle.seqs.specs.Seqs.{upd, count, seq_insert_at, without}
use Rattle.places.specs.Store.{Kind, op, blk, Role, operands, successors, value_uses, block_uses, results, arguments, regions, ops, blocks, fam, node_of, holder_of, Thing, Thing-dec, Con, Con-dec, Kind-dec, born, gone, birth, end, enter, leave}
use Rattle.places.specs.Parts.{Parts, Rows, places, table_of, born_book, gone_book, book_birth, book_end, node_in, store, set_row, rows_of}
use Rattle.seqs.proofs.Base.{upd_image, map_insert_at, map_without_by}
use Rattle.places.proofs.Bridge.{row_bridge, book_born, book_gone}

-- the places of a role's holders that have a row: those of values and operations
abbrev pub InRange : ℕ → ℕ → Role → ℕ → Type 0
InRange v o value_uses p = p < v
InRange v o results p = p < o
InRange v o operands p = Unit {0}
InRange v o successors p = Unit {0}
InRange v o block_uses p = Unit {0}
InRange v o arguments p = Unit {0}
InRange v o regions p = Unit {0}
InRange v o ops p = Unit {0}
InRange v o blocks p = Unit {0}

at_place : (r : Role) (k : Kind) {p q : ℕ} → p ≡ q → ◌≡◌ {A = Con} (r, (k, p)) (r, (k, q))
at_place r k e = λ i. (r, (k, e i))

-- a row is read back as the list that it is
pub mine : (v o : ℕ) (r : Role) (p : ℕ) → InRange v o r p → (rows_of v o).con (fam r) ((rows_of v o).row r p) ≡ (r, (holder_of r, p))
unfolding rows_of
mine v o operands p h = if_pos (ℕ_discrete (2 * p % 2) 0) (omega arith) _ _ ∙ at_place operands op (omega arith)
mine v o successors p h = if_neg (ℕ_discrete ((2 * p + 1) % 2) 0) (omega arith) _ _ ∙ at_place successors op (omega arith)
mine v o value_uses p h = if_pos (dec_lt p v) h _ _
mine v o block_uses p h = if_neg (dec_lt (v + p) v) (omega arith) _ _ ∙ at_place block_uses blk (omega arith)
mine v o results p h = if_pos (dec_lt p o) h _ _
mine v o arguments p h = if_neg (dec_lt (o + p) o) (omega arith) _ _ ∙ at_place arguments blk (omega arith)
mine v o regions p h = refl
mine v o ops p h = refl
mine v o blocks p h = refl

pub node_in_lem : (r : Role) → node_in (fam r) ≡ node_of r
node_in_lem operands = refl
node_in_lem successors = refl
node_in_lem value_uses = refl
node_in_lem block_uses = refl
node_in_lem results = refl
node_in_lem arguments = refl
node_in_lem regions = refl
node_in_lem ops = refl
node_in_lem blocks = refl

module _ (R : Rows) (M : Parts) (c : Con) (q : ℕ) (own : R.con (fam c.0) (R.row c.0 c.1.1) ≡ c) where
  abbrev k : ℕ
  k = R.row c.0 c.1.1

  abbrev x : Thing
  x = (node_of c.0, q)

  abbrev row : List ℕ
  row = M.rows (fam c.0) k

  pub list_is : (store R M).list c.1 c.0 ≡ map (λ p. (node_of c.0, p)) row
  unfolding store
  list_is = if_pos (Con-dec (R.con (fam c.0) k) c) own (map (λ p. (node_of c.0, p)) row) []

  pub row_enter : (i : ℕ) → store R (set_row (fam c.0) k (seq_insert_at i q row) q (some k) M) ≡ enter c i x (store R M)
  unfolding enter
  row_enter i = row_bridge R M c (seq_insert_at i q row) q (some k) own ∙ rw (list_is, own, node_in_lem c.0, map_insert_at {B = Thing} (λ p. (node_of c.0, p)) i q row)

  pub row_leave : store R (set_row (fam c.0) k (without ℕ_discrete q row) q none M) ≡ leave c x (store R M)
  unfolding leave
  row_leave =
      row_bridge R M c (without ℕ_discrete q row) q none own
      ∙ rw (list_is, node_in_lem c.0, map_without_by ℕ_discrete ℕ_discrete Thing-dec (λ p. (node_of c.0, p)) (λ p. p) (λ p. p) q x row (λ y i. (λ e. ap {B = Thing} (λ (m : ℕ). (node_of c.0, m)) e, λ e. ap (λ (a : Thing). a.1) e)))

-- ---- tables

pub book_birth_lem : (R : Rows) (M : Parts) (a : Thing) (t : ℕ) → count ℕ_discrete a.1 (places (M.books a.0).live) ≡ 0 → store R (book_birth a t M) ≡ birth a t (store R M)
unfolding store book_birth birth
book_birth_lem R M a t z = λ i. record { tab = λ j. upd_image Kind-dec (λ _. table_of) M.books a.0 (born_book a.1 (M.books a.0)) (born a.1 (table_of (M.books a.0))) (book_born (M.books a.0) a.1 z) j i; list = (store R M).list; own = (store R M).own; tag = upd Thing-dec M.tags a t }

pub book_end_lem : (R : Rows) (M : Parts) (a : Thing) → store R (book_end a M) ≡ end a (store R M)
unfolding store book_end end
book_end_lem R M a = λ i. record { tab = λ j. upd_image Kind-dec (λ _. table_of) M.books a.0 (gone_book a.1 (M.books a.0)) (gone a.1 (table_of (M.books a.0))) (book_gone (M.books a.0) a.1) j i; list = (store R M).list; own = (store R M).own; tag = upd Thing-dec M.tags a 0 }
