use Rattle.std.proofs.Common.{rules, sym, ap, ◌≡◌}
use Rattle.seqs.specs.Cells.{code}
use mathlib.Core.Logic.{by_cases}
use native.Mathlib.Decide.{ℕ_discrete}
use native.Mathlib.Omega.{arith}
use Rattle.sound_parts.proofs.check_homes.Goals.{then-not-is_live-via-then-not-is_live, then-not-is_live-via-else-not-is_live+then-not-has, in-Some+else-not-is_live+else-not-has, in_default}
use Rattle.sound_parts.proofs.check_homes.Goals as goal

pub returns-then-not-is_live : goal.returns-then-not-is_live
returns-then-not-is_live g c = record {
  found = λ D.
      let here = D c.loop-q.q c.in-Some.k c.loop-q-test.true (sym (rw c.args.rows.now.sized at c.in-Some.ensures.0)) in
      elim c.then-not-is_live.branch [
        | then-not-is_live-via-then-not-is_live w ↦ search (rules, here.0, w.if-not-is_live.ensures)
        | then-not-is_live-via-else-not-is_live+then-not-has w ↦ search (rules, here.1, w.if-not-has.ensures)
      ];
}

pub loop-q-preserved : goal.loop-q-preserved
loop-q-preserved g c = λ p k l e.
    by_cases (ℕ_discrete p c.loop-q.q)
    (λ r. let here = rw r at e in rw r (elim c.match-home.branch [
      | in-Some+else-not-is_live+else-not-has w ↦
          let same : k ≡ w.in-Some.k = omega (arith, here, rw c.args.rows.now.sized at w.in-Some.ensures.0) in
          rw same (search (rules, w.if-not-is_live.ensures), search (rules, w.if-not-has.ensures))
      | in_default w ↦ absurd (omega (arith, here, ap code w.in_default.is, rw c.args.rows.now.sized at c.home.ensures.0))
    ]))
    (λ n. c.loop-q.invariant p k (omega arith) e)

pub returns : goal.returns
returns g c = record { found = λ q k l e. c.loop-q.invariant q k (omega arith) e }
