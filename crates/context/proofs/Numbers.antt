-- The lists of a thing by their numbers among those of the family, and back. Assumes nothing.
use mathlib.Core.Path.{◌≡◌, sym, ap, ◌∙◌, subst}
use mathlib.Core.Logic.{if_pos, if_neg}
use mathlib.Core.List.{List}
use Prim.Native.Nat.{ℕ, ◌+◌, ◌-◌, ◌*◌, ◌≤◌, ◌<◌}
use native.Mathlib.Decide.{dec_lt}
use native.Mathlib.Omega.{arith}
use Rattle.places.specs.Store.{op, blk, val, operands, successors, value_uses, block_uses, results, arguments, Fam, slots, use_sets, vals, Con, State, Live}
use Rattle.places.specs.Parts.{rows_of}
use Rattle.places.proofs.Rows.{mine}
use Rattle.context.specs.declared.Layout.{Layout}
use Rattle.context.specs.Memory.{con, ListIs, rows_for}
use Rattle.context.specs.Reading.{list_of}
use Rattle.context.proofs.Families.{con_back}

-- ---- the number of a list of a thing

module _ (l : Layout) (p : ℕ) where
  module _ (h : p < l.ops) where
    pub operands_list : ListIs l slots (operands, (op, p)) (2 * p)
    unfolding rows_of
    operands_list = record { row = mine l.values l.ops operands p tt; inside = omega (arith, h) }

    pub successors_list : ListIs l slots (successors, (op, p)) (2 * p + 1)
    unfolding rows_of
    successors_list = record { row = mine l.values l.ops successors p tt; inside = omega (arith, h) }

    pub results_list : ListIs l vals (results, (op, p)) p
    unfolding rows_of
    results_list = record { row = mine l.values l.ops results p h; inside = omega (arith, h) }

  pub value_uses_list : p < l.values → ListIs l use_sets (value_uses, (val, p)) p
  unfolding rows_of
  value_uses_list h = record { row = mine l.values l.ops value_uses p h; inside = omega (arith, h) }

  module _ (h : p < l.blocks) where
    pub block_uses_list : ListIs l use_sets (block_uses, (blk, p)) (l.values + p)
    unfolding rows_of
    block_uses_list = record { row = mine l.values l.ops block_uses p tt; inside = omega (arith, h) }

    pub arguments_list : ListIs l vals (arguments, (blk, p)) (l.ops + p)
    unfolding rows_of
    arguments_list = record { row = mine l.values l.ops arguments p tt; inside = omega (arith, h) }

-- ---- what a number of a list says

module _ {l : Layout} {f : Fam} {c : Con} {k : ℕ} (L : ListIs l f c k) where
  pub list_number : k ≡ (rows_for l).row c.0 c.1.1
  list_number = sym (con_back l.values l.ops f k).number ∙ ap (λ (d : Con). (rows_for l).row d.0 d.1.1) L.row

  -- the list that it stands for
  pub list_there : (m : List ℕ) → list_of l m (con l f k) ≡ list_of l m c
  list_there m = ap (list_of l m) L.row

  -- whose list it is lives
  pub list_lives : (P : State) → Live P c.1 → Live P (con l f k).1
  list_lives P v = subst (λ (d : Con). Live P d.1) (sym L.row) v

-- the numbers one by one
module _ {l : Layout} {k p : ℕ} where
  pub operands_number : ListIs l slots (operands, (op, p)) k → k ≡ 2 * p
  unfolding rows_of
  operands_number L = list_number L

  pub successors_number : ListIs l slots (successors, (op, p)) k → k ≡ 2 * p + 1
  unfolding rows_of
  successors_number L = list_number L

  pub value_uses_number : ListIs l use_sets (value_uses, (val, p)) k → k ≡ p
  unfolding rows_of
  value_uses_number L = list_number L

  pub block_uses_number : ListIs l use_sets (block_uses, (blk, p)) k → k ≡ l.values + p
  unfolding rows_of
  block_uses_number L = list_number L

  pub results_number : ListIs l vals (results, (op, p)) k → k ≡ p
  unfolding rows_of
  results_number L = list_number L

  pub arguments_number : ListIs l vals (arguments, (blk, p)) k → k ≡ l.ops + p
  unfolding rows_of
  arguments_number L = list_number L

-- two numbers of one list are one
pub same_row : (l : Layout) (f : Fam) (j k : ℕ) → con l f j ≡ con l f k → j ≡ k
same_row l f j k q = sym (con_back l.values l.ops f j).number ∙ ap (λ (c : Con). (rows_for l).row c.0 c.1.1) q ∙ (con_back l.values l.ops f k).number

-- ---- a set of uses by its number: of a value or of a block

module _ (l : Layout) (d : ℕ) where
  pub value_set : d < l.values → con l use_sets d ≡ (value_uses, (val, d))
  unfolding rows_of
  value_set h = if_pos {C = Con} (dec_lt d l.values) h (value_uses, (val, d)) (block_uses, (blk, d - l.values))

  pub block_set : l.values ≤ d → con l use_sets d ≡ (block_uses, (blk, d - l.values))
  unfolding rows_of
  block_set h = if_neg {C = Con} (dec_lt d l.values) (λ z. absurd (omega (arith, z, h))) (value_uses, (val, d)) (block_uses, (blk, d - l.values))
