-- How long the lines of the listing can be: a number has at most ten digits, so the lengths of the lists in a text bound it.
-- Assumes nothing.
use mathlib.Core.Path.{ap}
use mathlib.Core.Bool.{Bool, true, false}
use mathlib.Core.List.{List, [], ◌∷◌, ◌++◌, map}
use mathlib.Core.Option.{Option, none, some}
use Prim.Native.Nat.{ℕ, zero, suc, ◌+◌, ◌*◌, ◌/◌, ◌%◌, ◌≤◌}
use native.Mathlib.Omega.{arith}
use borrow.Author.Tests.{lt-ltb}
use lib.Dec.{eqb, ltb}
use lib.ListN.{length, length-append}
use Rattle.rules.specs.Table.{Table, keys, weigh, find, sum_over}
use Rattle.edit.specs.Record.{operand, successor, Definition, of_value, of_block}
use Rattle.edit.specs.Answer.{Reply}
use Rattle.rules.specs.History.{Operation, Block, uses_in, uses_of}
use Rattle.rules.specs.State.{State, number_at}
use Rattle.rules.specs.Orders.{list_at}
use Rattle.rules.specs.Step.{definition_number}
use Rattle.rules.specs.Listing.{text, digits, num, nums, or_none, pairs, line_end, edit_line, edit_lines, store_line, op_lines, block_lines, region_lines, value_lines}

-- the text has at most n bytes
pub record AtMost (n : ℕ) (t : List ℕ) : Type 0 where
  pub long : length t ≤ n

-- one text after another
infixl 5 ◌⊕◌
pub ◌⊕◌ : {m n : ℕ} {a b : List ℕ} → AtMost m a → AtMost n b → AtMost (m + n) (a ++ b)
◌⊕◌ {m} {n} {a} {b} h k = record { long = omega (arith, length-append a b, h.long, k.long) }

-- a text is as long as it is
as_is : (t : List ℕ) → AtMost (length t) t
as_is t = record { long = omega arith }

-- a longer bound
within : {m : ℕ} (n : ℕ) {t : List ℕ} → AtMost m t → m ≤ n → AtMost n t
within n h k = record { long = omega (arith, h.long) }

digits_short : (k n : ℕ) (acc : List ℕ) → length (digits k n acc) ≤ k + length acc
unfolding digits
digits_short zero n acc = omega arith
digits_short (suc k) n acc = go (ltb n 10) (digits_short k (n / 10) ((48 + n % 10) ∷ acc))
  where
    go : (b : Bool) → length (digits k (n / 10) ((48 + n % 10) ∷ acc)) ≤ k + suc (length acc) → length {A = ℕ} (elim b [ true ↦ (48 + n) ∷ acc | false ↦ digits k (n / 10) ((48 + n % 10) ∷ acc) ]) ≤ suc k + length acc
    go true ih = omega arith
    go false ih = omega arith

num_short : (n : ℕ) → AtMost 11 (num n)
unfolding num
num_short n = record { long = omega (arith, digits_short 10 n []) }

-- a number of one digit
digit_short : (n : ℕ) → n ≤ 9 → AtMost 2 (num n)
unfolding num digits
digit_short n h = record { long = omega (arith, ap (λ (b : Bool). length {A = ℕ} (elim b [ true ↦ (48 + n) ∷ [] | false ↦ digits 9 (n / 10) ((48 + n % 10) ∷ []) ])) (lt-ltb n 10 (omega (arith, h)))) }

nums_short : (ns : List ℕ) → AtMost (11 * length ns) (nums ns)
unfolding nums
nums_short [] = as_is []
nums_short (n ∷ ns) = within (11 * suc (length ns)) (num_short n ⊕ nums_short ns) (omega arith)

or_none_short : (o : Option ℕ) → AtMost 11 (or_none o)
unfolding or_none
or_none_short none = within 11 (as_is (text " -")) (omega arith)
or_none_short (some n) = num_short n

pairs_short : (t : Table Definition) (us : List ℕ) → AtMost (22 * length us) (pairs t us)
unfolding pairs
pairs_short t [] = as_is []
pairs_short t (u ∷ us) = within (22 * suc (length us)) (num_short u ⊕ as_is (58 ∷ d) ⊕ pairs_short t us) (omega (arith, digits_short 10 (definition_number (find t u)) []))
  where
    d : List ℕ
    d = digits 10 (definition_number (find t u)) []

end_short : AtMost 1 line_end
unfolding line_end
end_short = as_is (10 ∷ [])

edit_line_short : (n : ℕ) (r : Reply) → AtMost 41 (edit_line n r)
unfolding edit_line
edit_line_short n r = as_is (text "edit") ⊕ num_short n ⊕ reply (eqb r.refusal 0) ⊕ end_short
  where
    reply : (b : Bool) → AtMost 25 (elim b [ true ↦ text " ok" ++ num r.a ++ num r.b | false ↦ text " no" ++ num r.refusal ])
    reply true = as_is (text " ok") ⊕ num_short r.a ⊕ num_short r.b
    reply false = within 25 (as_is (text " no") ⊕ num_short r.refusal) (omega arith)

pub edit_lines_short : (n : ℕ) (rs : List Reply) → AtMost (41 * length rs) (edit_lines n rs)
unfolding edit_lines
edit_lines_short n [] = as_is []
edit_lines_short n (r ∷ rs) = within (41 * suc (length rs)) (edit_line_short n r ⊕ edit_lines_short (suc n) rs) (omega arith)

-- how many stand in the lists that g takes from the entries of a table
abbrev pub in_all : {A : Type 0} → (A → List ℕ) → Table A → ℕ
in_all g t = weigh (λ a. length (g a)) t

module _ (s : State) where
  pub store_short : AtMost 61 (store_line s)
  unfolding store_line
  store_short = as_is (text "store") ⊕ num_short _ ⊕ num_short _ ⊕ num_short _ ⊕ num_short _ ⊕ num_short _ ⊕ end_short

  pub ops_short : ((n : ℕ) → number_at s.flags n ≤ 9) → (t : Table Operation)
      → AtMost (55 * length t + 11 * in_all (λ (o : Operation). o.results) t + 22 * in_all (uses_in operand) t + 22 * in_all (uses_in successor) t + 11 * in_all (λ (o : Operation). o.regions) t) (op_lines s t)
  unfolding op_lines uses_in
  ops_short low [] = as_is []
  ops_short low (e ∷ t) =
      within _
      (as_is (text "op") ⊕ num_short _ ⊕ as_is (text " block") ⊕ or_none_short _ ⊕ as_is (text " flags") ⊕ digit_short _ (low e.0) ⊕ as_is (text " res") ⊕ nums_short _
      ⊕ as_is (text " opd") ⊕ pairs_short _ _ ⊕ as_is (text " suc") ⊕ pairs_short _ _ ⊕ as_is (text " reg") ⊕ nums_short _ ⊕ end_short ⊕ ops_short low t)
      (omega arith)

  pub blocks_short : (t : Table Block)
      → AtMost (48 * length t + 11 * in_all (λ (b : Block). b.arguments) t + 11 * sum_over (λ c. length (list_at s.orders.ops_of c)) (keys t) + 11 * sum_over (λ d. length (uses_of s.history d)) (map of_block (keys t))) (block_lines s t)
  unfolding block_lines sum_over keys
  blocks_short [] = as_is []
  blocks_short (e ∷ t) =
      within _
      (as_is (text "block") ⊕ num_short _ ⊕ as_is (text " region") ⊕ or_none_short _ ⊕ as_is (text " arg") ⊕ nums_short _
      ⊕ as_is (text " ops") ⊕ nums_short _ ⊕ as_is (text " pred") ⊕ nums_short _ ⊕ end_short ⊕ blocks_short t)
      (omega arith)

  pub regions_short : (t : Table (List ℕ)) → AtMost (39 * length t + 11 * in_all (λ xs. xs) t) (region_lines s t)
  unfolding region_lines
  regions_short [] = as_is []
  regions_short (e ∷ t) =
      within _ (as_is (text "region") ⊕ num_short _ ⊕ as_is (text " op") ⊕ or_none_short _ ⊕ as_is (text " blocks") ⊕ nums_short _ ⊕ end_short ⊕ regions_short t) (omega arith)

  pub values_short : (t : Table ℕ) → AtMost (38 * length t + 11 * sum_over (λ d. length (uses_of s.history d)) (map of_value (keys t))) (value_lines s t)
  unfolding value_lines sum_over keys
  values_short [] = as_is []
  values_short (e ∷ t) =
      within _ (as_is (text "value") ⊕ num_short _ ⊕ as_is (text " type") ⊕ num_short _ ⊕ as_is (text " uses") ⊕ nums_short _ ⊕ end_short ⊕ values_short t) (omega arith)
