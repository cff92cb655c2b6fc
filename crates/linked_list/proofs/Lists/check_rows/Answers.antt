use borrow.Author.Count.{below_more}
use native.Mathlib.Nat.{not-suc-le-zero}
use Rattle.std.proofs.Common.{arith, zero-le, refl}
use Rattle.linked_list.proofs.Checks.{tot_more, tot_none, rows_fail}
use Rattle.linked_list.proofs.Lists.check_rows.Goals as goal

pub loop-c-init : goal.loop-c-init
loop-c-init c = (zero-le, λ d h. absurd (not-suc-le-zero h), tot_none c.args.self.nc c.args.self.nn c.args.s.now)

pub returns-in_err-t : goal.returns-in_err-t
returns-in_err-t c = rw c.from_residual.ensures (rows_fail c.check_row.ensures c.in_err-t.was c.loop-c-test.true c.loop-c.invariant.2 refl)

pub loop-c-preserved : goal.loop-c-preserved
loop-c-preserved c =
    let z = c.args.self in
    let p = c.loop-c in
    let r = c.in_ok-t in
    let (well, len, le) = c.check_row.ensures.sound r.field-0 r.was in
    (omega arith, below_more _ p.c p.invariant.1 well, tot_more z.nc z.nn c.args.s.now p.c p.t r.field-0 p.invariant.2 len)
