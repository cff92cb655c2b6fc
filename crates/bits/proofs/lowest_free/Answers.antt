-- The lowest place that is not marked. Assumes nothing.
use Rattle.std.proofs.Common.{◌≡◌, sym, ◌∙◌, subst, ℕ, ◌+◌, ◌-◌, ◌*◌, ◌/◌, ◌<◌, List, length, take, drop, get_or, length-drop, arith}
use lib.Seq.{take_all}
use Rattle.bits.specs.Map.{bit, Marked, FullGroups}
use Rattle.bits.proofs.Lowest.{lowest_at, lowest_none}
use Rattle.bits.proofs.Digits.{word_bit, more_ones, some_zero}
use Rattle.bits.proofs.Groups.{words, open_word}
use Rattle.bits.proofs.lowest_free.Goals as goal
use Rattle.bits.proofs.lowest_free.Goals.{After-ones}

-- what is lent from k on
tail : (k : ℕ) (b : List ℕ) → take (length b - k) (drop k b) ≡ drop k b
tail k b = take_all (length b - k) (drop k b) (omega (arith, length-drop k b))

-- of the first word that is not full, the ones are marked
ones_in : (c : After-ones) → (i : ℕ) → i < 32 * (c.skip_full-from.result + 2 * c.in_ok-k.field-0) + c.ones.result → 0 < bit c.args.b.now i
ones_in c =
    let b = c.args.b.now in
    let k = c.skip_full-from.result in
    let i = c.in_ok-k.field-0 in
    let M : Marked b (k + 2 * i) = words b k i c.skip_full-from.ensures (subst (λ (x : List ℕ). FullGroups 2 x i) (tail k b) c.in_ok-k.ensures.1) in
    more_ones b (k + 2 * i) c.word.result c.ones.result c.word.ensures (omega (arith, c.type_inv.b (k + 2 * i))) c.ones.ensures M.all

-- and they are not all
fewer : (c : After-ones) → c.ones.result < 64
fewer c =
    let b = c.args.b.now in
    let k = c.skip_full-from.result in
    let i = c.in_ok-k.field-0 in
    some_zero c.word.result c.ones.result c.word.type_inv
    (open_word b k i c.word.result (λ j. omega (arith, c.type_inv.b j)) c.word.ensures
    (subst (λ (x : List ℕ). ¬ ((j : ℕ) → j < 2 → get_or x (i * 2 + j) 0 ≡ 4294967295)) (tail k b) c.in_ok-k.ensures.2)) c.ones.ensures

pub returns-in_err-k : goal.returns-in_err-k
returns-in_err-k c =
    let b = c.args.b.now in
    let k = c.skip_full-from.result in
    let S = c.skip_full-from.ensures in
    let M : Marked b (k + 2 * (length (drop k b) / 2)) = words b k (length (drop k b) / 2) S (subst (λ (x : List ℕ). FullGroups 2 x (length x / 2)) (tail k b) c.in_err-k.ensures) in
    c.from_residual.ensures ∙ sym (lowest_none _ _ (λ i l. M.all i (omega (arith, length-drop k b, S.even, S.inside))))

pub returns-then-p-n : goal.returns-then-p-n
returns-then-p-n c =
    let o = (goal.at.returns-then-p-n c).After-ones in
    let k = c.skip_full-from.result + 2 * c.in_ok-k.field-0 in
    sym (lowest_at _ _ _ c.if-p-n.true (ones_in o)
    (word_bit c.args.b.now k c.word.result c.ones.result c.word.ensures (omega (arith, c.type_inv.b k)) (fewer o) ∙ c.ones.ensures.at (fewer o)))

pub returns-else-p-n : goal.returns-else-p-n
returns-else-p-n c = sym (lowest_none _ _ (λ i l. ones_in (goal.at.returns-else-p-n c).After-ones i (omega arith)))
