-- The order past its last, cell by cell. Assumes nothing.
use Rattle.std.proofs.Common.{◌≡◌, sym, ◌∙◌, ap, ℕ, ◌+◌, ◌-◌, ◌<◌, MatchBool, List, length, get_or, take, drop, arith, rules, tests}
use Rattle.std.specs.List.{AllWithin, HoldsAt}
use Rattle.std.proofs.lemmas.Iterator.{cases_from_all, YieldsList-from_slice}
use Rattle.seqs.specs.Split.{length_part}
use Rattle.table.specs.Table.{count, order}
use Rattle.table.proofs.Checks.{part_get, says_match}
use Rattle.table.proofs.check_rest.Goals as goal

pub returns : goal.returns
returns c =
    let n = c.args.n in
    let t = c.args.t.now in
    let l = count t in
    let S = c.requires in
    let rest : List ℕ = take (2 + n - (2 + l)) (drop (2 + l) t) in
    let long : length rest ≡ 2 + n - (2 + l) = length_part (2 + l) (2 + n) t (omega (arith, S.size)) in
    let cell : (i : ℕ) → i < n - l → get_or rest i 0 ≡ order t (l + i) = λ i h. part_get (2 + l) (2 + n) t i (2 + (l + i)) 0 (omega (arith, S.size)) (omega arith) (omega arith) in
    let tested : MatchBool c.all.result (AllWithin (λ x. x ≡ 0) rest 0 (length rest)) ((k : ℕ) × (k < length rest) × HoldsAt (λ x. x ≡ 0 → ⊥) rest k) =
    cases_from_all _ _ _ (λ x. x ≡ 0) (λ x. x ≡ 0 → ⊥) c.all.ensures.ran (YieldsList-from_slice rest cc) (λ x q k. search (rules, tests)) (λ x q k. search (rules, tests)) in
    says_match c.all.result tested
    (λ all. record { rest = λ i a b. ap (order t) (omega arith) ∙ sym (cell (i - l) (omega arith)) ∙ all (i - l) 0 (omega arith) (omega arith) })
    (λ some R. some.2 0 (cell some.0 (omega (arith, some.1)) ∙ R.rest (l + some.0) (omega arith) (omega (arith, some.1))))
