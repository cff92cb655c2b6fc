-- No stamp is above the next number, and as many are not 0 as the order has places. Assumes nothing.
use Rattle.std.proofs.Common.{◌≡◌, sym, ap, ◌∙◌, ◌≤◌, arith}
use borrow.Author.Count.{below_more}
use Rattle.table.specs.Table.{next, stamp, taken, sign}
use Rattle.table.proofs.Checks.{says_eqb}
use Rattle.table.proofs.Quick.{taken_none, taken_more, taken_of, found_of, sign_le, one_sign}
use Rattle.table.proofs.check_places.Goals as goal

pub loop-p-init : goal.loop-p-init
loop-p-init c = (taken_none c.args.n c.args.t.now, omega arith, λ q h. absurd (omega arith))

pub loop-p-preserved : goal.loop-p-preserved
loop-p-preserved c =
    let w = c.loop-p in
    let n = c.args.n in
    let t = c.args.t.now in
    let one : c.from-taken.result ≡ sign (stamp n t w.p) = c.from-taken.ensures ∙ one_sign c.stamp_at-s.result ∙ ap sign c.stamp_at-s.ensures in (
      taken_more n t w.taken w.p c.from-taken.result w.invariant.0 one,
      omega (arith, one, sign_le (stamp n t w.p)),
      below_more (λ q. stamp n t q ≤ next t) w.p w.invariant.2 (omega (arith, c.stamp_at-s.ensures, c.if-next-s.false)),
    )

pub returns : goal.returns
returns c =
    let n = c.args.n in
    let t = c.args.t.now in
    let w = c.loop-p in
    let all : w.p ≡ n = omega arith in
    let is : w.taken ≡ taken n t n = w.invariant.0 ∙ ap (taken n t) all in
    says_eqb w.taken _
    (λ e. record {
      below = λ p h. w.invariant.2 p (omega arith);
      found = found_of n t c.requires.1 (sym is ∙ e);
    })
    (λ P. is ∙ taken_of n t c.requires.1 P)
