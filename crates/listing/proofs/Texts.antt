-- The lines that the functions write are the rules': of operations, blocks, regions, values, and the line of counts. Assumes nothing.
use mathlib.Core.Path.{◌≡◌, refl, sym, ap, ap₂, ◌∙◌}
use mathlib.Core.List.{List, [], ◌∷◌, ◌++◌, map, append_assoc}
use Prim.Native.Nat.{ℕ, ◌+◌, ◌-◌}
use lib.ListN.{length}
use Rattle.places.specs.Store.{Kind, op, blk, reg, val, usg, Role, operands, successors, value_uses, block_uses, results, arguments, regions, ops, blocks, Fam, slots, use_sets, vals, regs, ops_in, blocks_in, Thing, Con, State, Live, up}
use Rattle.places.specs.View.{num, rec_of}
use Rattle.places.specs.Hist.{def_by, op_of, block_of, use_of, hist, orders_of, rule_state, meaning}
use Rattle.places.specs.Parts.{rows_of}
use Rattle.places.specs.Alias.{RState}
use Rattle.places.proofs.Bits.{tabled_view, find_view}
use Rattle.places.proofs.RuleClimb.{number_home, parent_num}
use Rattle.places.proofs.RuleNames.{length_view}
use Rattle.edit.specs.Record.{Definition, of_value, of_block}
use Rattle.rules.specs.History.{uses_of, parent}
use Rattle.rules.specs.Orders.{list_at, or_empty}
use Rattle.rules.specs.State.{number_at, or_zero}
use Rattle.rules.specs.Listing as rules
use Rattle.context.specs.declared.Layout.{Layout}
use Rattle.context.specs.Memory.{con, ListIs, state_of, SoundStore}
use Rattle.context.specs.Reading.{list_of}
use Rattle.context.specs.Performed.{abs}
use Rattle.listing.specs.declared.Pen.{Pen}
use Rattle.listing.specs.Writer.{Wrote}
use Rattle.listing.specs.Lines.{node_text, row_text, numbers_among, home_number, definition_at, uses_among, lines}
use Rattle.listing.proofs.Uses.{uses_are}
use Rattle.listing.proofs.Pens.{Pieces, and_then, then_as, ends, same_text}

-- ---- lists

nums_are : (s : RState) (f : Fam) (ns : List ℕ) → ((n : ℕ) → node_text s f n ≡ rules.num n) → row_text s f ns ≡ rules.nums ns
unfolding rules.nums
nums_are s f [] h = refl
nums_are s f (n ∷ ns) h = ap₂ ◌++◌ (h n) (nums_are s f ns h)

pairs_are : (s : RState) (ns : List ℕ) → row_text s slots ns ≡ rules.pairs s.history.uses ns
unfolding rules.pairs
pairs_are s [] = refl
pairs_are s (n ∷ ns) = ap (λ (t : List ℕ). node_text s slots n ++ t) (pairs_are s ns)

module _ {l : Layout} {m : List ℕ} (S : SoundStore l m) where
  abbrev P : State
  P = state_of l m

  abbrev s : RState
  s = abs l m

  abbrev ended : ℕ
  ended = (P.tab usg).next - length (P.tab usg).order

  -- the numbers in a list of the thing a
  in_list : (f : Fam) (k : ℕ) (a : Thing) (r : Role) → con l f k ≡ (r, a) → ((n : ℕ) → node_text s f n ≡ rules.num n) → row_text s f (numbers_among l m f k) ≡ rules.nums (map (num P) (P.list a r))
  in_list f k a r e h = nums_are s f (numbers_among l m f k) h ∙ ap (λ (c : Con). rules.nums (map (num P) (list_of l m c))) e

  in_slots : (k : ℕ) (a : Thing) (r : Role) → con l slots k ≡ (r, a) → row_text s slots (numbers_among l m slots k) ≡ rules.pairs s.history.uses (map (num P) (P.list a r))
  in_slots k a r e = pairs_are s (numbers_among l m slots k) ∙ ap (λ (c : Con). rules.pairs s.history.uses (map (num P) (list_of l m c))) e

  flags_are : (p : ℕ) → Live P (op, p) → P.tag (op, p) ≡ number_at s.flags (num P (op, p))
  unfolding number_at or_zero abs meaning rule_state rec_of
  flags_are p h = sym (ap or_zero (find_view S.sound.linked op (λ e. e.tag) p h))

  ops_are : (p : ℕ) → Live P (blk, p) → map (num P) (P.list (blk, p) ops) ≡ list_at s.orders.ops_of (num P (blk, p))
  unfolding list_at or_empty abs meaning rule_state orders_of rec_of
  ops_are p h = sym (ap or_empty (find_view S.sound.linked blk (λ e. e.lists ops) p h))

  parent_is : (p : ℕ) → Live P (reg, p) → home_number P (reg, p) regs ≡ parent s.history (num P (reg, p))
  unfolding abs meaning rule_state up
  parent_is p h = number_home P (P.own (reg, p) regs) ∙ sym (parent_num S.sound ended p h)

  uses_of_set : (k : ℕ) (d : Definition) → definition_at l m k ≡ d → rules.nums (uses_among P (definition_at l m k) (P.tab usg).order) ≡ rules.nums (uses_of s.history d)
  uses_of_set k d e = ap (λ (c : Definition). rules.nums (uses_among P c (P.tab usg).order)) e ∙ ap rules.nums (sym (uses_are l m d))

  -- ---- lines

  module _ (p : ℕ) where
    pub op_line : {i j k : ℕ} {q₀ q₁ q₂ q₃ q₄ q₅ q₆ q₇ q₈ : Pen ℕ} → Live P (op, p)
        → ListIs l vals (results, (op, p)) i
        → ListIs l slots (operands, (op, p)) j
        → ListIs l slots (successors, (op, p)) k
        → Wrote (rules.text "op" ++ rules.num (num P (op, p))) q₀ q₁
        → Wrote (rules.text " block" ++ rules.or_none (home_number P (op, p) ops_in)) q₁ q₂
        → Wrote (rules.text " flags" ++ rules.num (P.tag (op, p))) q₂ q₃
        → Wrote (rules.text " res" ++ row_text s vals (numbers_among l m vals i)) q₃ q₄
        → Wrote (rules.text " opd" ++ row_text s slots (numbers_among l m slots j)) q₄ q₅
        → Wrote (rules.text " suc" ++ row_text s slots (numbers_among l m slots k)) q₅ q₆
        → Wrote (rules.text " reg" ++ row_text s regs (numbers_among l m regs p)) q₆ q₇
        → Wrote (10 ∷ []) q₇ q₈
        → Wrote (lines s P op (p ∷ [])) q₀ q₈
    unfolding rules.op_lines rules.line_end rec_of rows_of
    op_line {i} {j} {k} h a b c w₁ w₂ w₃ w₄ w₅ w₆ w₇ w₈ =
        ends
        (and_then
        (then_as (rules.text " reg") (in_list regs p (op, p) regions refl (λ n. refl))
        (then_as (rules.text " suc") (in_slots k (op, p) successors c.row)
        (then_as (rules.text " opd") (in_slots j (op, p) operands b.row)
        (then_as (rules.text " res") (in_list vals i (op, p) results a.row (λ n. refl))
        (then_as (rules.text " flags") (ap rules.num (flags_are p h))
        (then_as (rules.text " block") refl w₁ w₂) w₃) w₄) w₅) w₆) w₇) w₈)

    pub block_line : {i j : ℕ} {q₀ q₁ q₂ q₃ q₄ q₅ q₆ : Pen ℕ} → Live P (blk, p)
        → ListIs l vals (arguments, (blk, p)) i
        → ListIs l use_sets (block_uses, (blk, p)) j
        → Wrote (rules.text "block" ++ rules.num (num P (blk, p))) q₀ q₁
        → Wrote (rules.text " region" ++ rules.or_none (home_number P (blk, p) blocks_in)) q₁ q₂
        → Wrote (rules.text " arg" ++ row_text s vals (numbers_among l m vals i)) q₂ q₃
        → Wrote (rules.text " ops" ++ row_text s ops_in (numbers_among l m ops_in p)) q₃ q₄
        → Wrote (rules.text " pred" ++ rules.nums (uses_among P (definition_at l m j) (P.tab usg).order)) q₄ q₅
        → Wrote (10 ∷ []) q₅ q₆
        → Wrote (lines s P blk (p ∷ [])) q₀ q₆
    unfolding rules.block_lines rules.line_end rec_of rows_of
    block_line {i} {j} h a b w₁ w₂ w₃ w₄ w₅ w₆ =
        ends
        (and_then
        (then_as (rules.text " pred") (uses_of_set j (of_block (num P (blk, p))) (ap (λ (c : Con). def_by c.0 (num P c.1)) b.row))
        (then_as (rules.text " ops") (in_list ops_in p (blk, p) ops refl (λ n. refl) ∙ ap rules.nums (ops_are p h))
        (then_as (rules.text " arg") (in_list vals i (blk, p) arguments a.row (λ n. refl))
        (then_as (rules.text " region") refl w₁ w₂) w₃) w₄) w₅) w₆)

    pub region_line : {q₀ q₁ q₂ q₃ q₄ : Pen ℕ} → Live P (reg, p)
        → Wrote (rules.text "region" ++ rules.num (num P (reg, p))) q₀ q₁
        → Wrote (rules.text " op" ++ rules.or_none (home_number P (reg, p) regs)) q₁ q₂
        → Wrote (rules.text " blocks" ++ row_text s blocks_in (numbers_among l m blocks_in p)) q₂ q₃
        → Wrote (10 ∷ []) q₃ q₄
        → Wrote (lines s P reg (p ∷ [])) q₀ q₄
    unfolding rules.region_lines rules.line_end rec_of rows_of
    region_line h w₁ w₂ w₃ w₄ =
        ends
        (and_then
        (then_as (rules.text " blocks") (in_list blocks_in p (reg, p) blocks refl (λ n. refl))
        (then_as (rules.text " op") (ap rules.or_none (parent_is p h)) w₁ w₂) w₃) w₄)

    pub value_line : {i : ℕ} {q₀ q₁ q₂ q₃ q₄ : Pen ℕ}
        → ListIs l use_sets (value_uses, (val, p)) i
        → Wrote (rules.text "value" ++ rules.num (num P (val, p))) q₀ q₁
        → Wrote (rules.text " type" ++ rules.num (P.tag (val, p))) q₁ q₂
        → Wrote (rules.text " uses" ++ rules.nums (uses_among P (definition_at l m i) (P.tab usg).order)) q₂ q₃
        → Wrote (10 ∷ []) q₃ q₄
        → Wrote (lines s P val (p ∷ [])) q₀ q₄
    unfolding rules.value_lines rules.line_end rec_of
    value_line {i} a w₁ w₂ w₃ w₄ =
        ends
        (and_then
        (then_as (rules.text " uses") (uses_of_set i (of_value (num P (val, p))) (ap (λ (c : Con). def_by c.0 (num P c.1)) a.row))
        (then_as (rules.text " type") refl w₁ w₂) w₃) w₄)

  -- the counts
  pub store_line : {q₀ q₁ q₂ q₃ q₄ q₅ q₆ q₇ : Pen ℕ} → Wrote (rules.text "store") q₀ q₁
      → Wrote (rules.num (length (P.tab op).order)) q₁ q₂
      → Wrote (rules.num (length (P.tab blk).order)) q₂ q₃
      → Wrote (rules.num (length (P.tab reg).order)) q₃ q₄
      → Wrote (rules.num (length (P.tab val).order)) q₄ q₅
      → Wrote (rules.num (length (P.tab usg).order)) q₅ q₆
      → Wrote (10 ∷ []) q₆ q₇
      → Wrote (rules.store_line s) q₀ q₇
  unfolding rules.store_line rules.line_end abs meaning rule_state hist orders_of
  store_line w₀ w₁ w₂ w₃ w₄ w₅ w₆ =
      and_then
      (and_then
      (and_then
      (and_then
      (and_then
      (and_then w₀ (same_text (ap rules.num (sym (length_view S.sound.linked op op_of))) w₁))
      (same_text (ap rules.num (sym (length_view S.sound.linked blk block_of))) w₂))
      (same_text (ap rules.num (sym (length_view S.sound.linked reg (λ e. e.lists blocks)))) w₃))
      (same_text (ap rules.num (sym (length_view S.sound.linked val (λ e. e.tag)))) w₄))
      (same_text (ap rules.num (sym (length_view S.sound.linked usg use_of))) w₅))
      w₆

  -- the whole
  pub listing_is : {q₀ q₁ q₂ q₃ q₄ q₅ : Pen ℕ} → Wrote (rules.store_line s) q₀ q₁
      → Wrote (lines s P op (P.tab op).order) q₁ q₂
      → Wrote (lines s P blk (P.tab blk).order) q₂ q₃
      → Wrote (lines s P reg (P.tab reg).order) q₃ q₄
      → Wrote (lines s P val (P.tab val).order) q₄ q₅
      → Wrote (rules.listing s) q₀ q₅
  unfolding rules.listing abs meaning rule_state hist orders_of
  listing_is w₀ w₁ w₂ w₃ w₄ =
      and_then
      (and_then
      (and_then
      (and_then w₀ (same_text (ap (rules.op_lines s) (sym (tabled_view P op op_of))) w₁))
      (same_text (ap (rules.block_lines s) (sym (tabled_view P blk block_of))) w₂))
      (same_text (ap (rules.region_lines s) (sym (tabled_view P reg (λ e. e.lists blocks)))) w₃))
      (same_text (ap (rules.value_lines s) (sym (tabled_view P val (λ e. e.tag)))) w₄)

-- ---- one line after another

lines_more : (s : RState) (P : State) (k : Kind) (p : ℕ) (ps : List ℕ) → lines s P k (p ∷ ps) ≡ lines s P k (p ∷ []) ++ lines s P k ps
unfolding rules.op_lines rules.block_lines rules.region_lines rules.value_lines
lines_more s P op p ps = simp append_assoc
lines_more s P blk p ps = simp append_assoc
lines_more s P reg p ps = simp append_assoc
lines_more s P val p ps = simp append_assoc
lines_more s P usg p ps = refl

lines_none : (s : RState) (P : State) (k : Kind) → lines s P k [] ≡ []
unfolding rules.op_lines rules.block_lines rules.region_lines rules.value_lines
lines_none s P op = refl
lines_none s P blk = refl
lines_none s P reg = refl
lines_none s P val = refl
lines_none s P usg = refl

pub lines_pieces : (s : RState) (P : State) (k : Kind) → Pieces (lines s P k)
lines_pieces s P k = record { none = lines_none s P k; more = lines_more s P k }
