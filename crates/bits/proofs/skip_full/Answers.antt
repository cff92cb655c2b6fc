-- The groups passed are full. Assumes nothing.
use Rattle.std.proofs.Common.{◌≡◌, ◌*◌, ◌/◌, ◌-◌, ◌%◌, length, subst, arith}
use Rattle.bits.specs.Map.{Skipped}
use Rattle.bits.proofs.Groups.{skipped}
use Rattle.bits.proofs.skip_full.Goals as goal

pub returns-in-Some : goal.returns-in-Some
returns-in-Some c = skipped _ _ (omega (arith, c.in-Some.ensures.0)) c.in-Some.ensures.1

pub returns-in-None : goal.returns-in-None
returns-in-None c =
    let b = c.args.b.now in
    let whole : 16 * (length b / 16) ≡ length b - length b % 16 = omega arith in
    subst (Skipped b) whole (skipped b (length b / 16) (omega arith) c.in-None.ensures)
