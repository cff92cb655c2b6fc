use borrow.Author.Count.{below_more}
use native.Mathlib.Nat.{not-suc-le-zero}
use Rattle.std.proofs.Common.{arith, zero-le, sym, ◌∙◌}
use Rattle.seqs.proofs.Cells.{zero_of, above_of}
use Rattle.linked_list.proofs.Checks.{frees_more, frees_skip, frees_none}
use Rattle.linked_list.proofs.Lists.check_frees.Goals.{then-is_none+else-is_some+else-is_some-2, else-is_none}
use Rattle.linked_list.proofs.Lists.check_frees.Goals as goal

pub loop-n-init : goal.loop-n-init
loop-n-init c = (zero-le, λ d h. absurd (not-suc-le-zero h), frees_none c.args.self.nc c.args.self.nn c.args.s.now)

pub loop-n-preserved : goal.loop-n-preserved
loop-n-preserved c =
    let z = c.args.self in
    let p = c.loop-n in
    elim c.if-is_none.branch [
      | then-is_none+else-is_some+else-is_some-2 w ↦ (
          let home0 = zero_of (rw c.home_slot.ensures.0 at c.decode.ensures) w.if-is_none.ensures in (
            omega arith,
            below_more _ p.n p.invariant.1 (λ h. record {
              home0 = h;
              next0 = zero_of (rw w.next_slot.ensures.0 at w.decode-then-is_none.ensures) (sym w.if-is_some.ensures);
              prev0 = zero_of (rw w.prev_slot.ensures.0 at w.decode-else-is_some.ensures) (sym w.if-is_some-2.ensures);
            }),
            frees_more z.nc z.nn c.args.s.now p.n p.f p.invariant.2 home0 ∙ sym w.f-is,
          ))
      | else-is_none w ↦ (
          let held = above_of (rw c.home_slot.ensures.0 at c.decode.ensures) w.if-is_none.ensures in (
            omega arith,
            below_more _ p.n p.invariant.1 (λ h. absurd (held h)),
            frees_skip z.nc z.nn c.args.s.now p.n p.f p.invariant.2 held ∙ sym w.f-is,
          ))
    ]
