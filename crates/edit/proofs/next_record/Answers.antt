-- The next record: a test of the length that fails breaks it. Assumes nothing.
use Prim.Native.Nat.{ℕ}
use native.Mathlib.Omega.{arith}
use Rattle.edit.proofs.Cuts.{cut_none, cut_short, cut_bad, cut_good}
use Rattle.edit.proofs.next_record.Goals as goal
use Rattle.edit.proofs.next_record.Goals.{then-n-lt4-via-then-n-lt4, then-n-lt4-via-else-n-lt4+then-n-gt-LONGEST, then-n-lt4-via-else-n-lt4+else-n-gt-LONGEST+then-n-ne0, then-n-lt4-via-else-n-lt4+else-n-gt-LONGEST+else-n-ne0+then-left-n}

pub returns-then-left-eq0 : goal.returns-then-left-eq0
returns-then-left-eq0 c = cut_none _ _ (omega (arith, c.saturating_sub-left.ensures))

pub returns-then-left-lt4 : goal.returns-then-left-lt4
returns-then-left-lt4 c = cut_short _ _ (omega (arith, c.saturating_sub-left.ensures)) (omega (arith, c.saturating_sub-left.ensures))

pub returns-then-n-lt4 : goal.returns-then-n-lt4
returns-then-n-lt4 c =
    let s = c.args in
    let n : ℕ = c.from-n.result in
    let left = c.saturating_sub-left.ensures in
    cut_bad s.bytes.now s.at n (omega arith) (omega arith) (λ least most fours fits.
    elim c.then-n-lt4.branch [
      | then-n-lt4-via-then-n-lt4 w ↦ omega arith
      | then-n-lt4-via-else-n-lt4+then-n-gt-LONGEST w ↦ omega arith
      | then-n-lt4-via-else-n-lt4+else-n-gt-LONGEST+then-n-ne0 w ↦ w.if-n-ne0.true fours
      | then-n-lt4-via-else-n-lt4+else-n-gt-LONGEST+else-n-ne0+then-left-n w ↦ omega arith
    ])

pub returns : goal.returns
returns c =
    let s = c.args in
    let n : ℕ = c.from-n.result in
    let left = c.saturating_sub-left.ensures in
    cut_good s.bytes.now s.at n (omega arith) (omega arith) (omega arith) (omega arith) c.if-n-ne0.false (omega arith)
