use Rattle.std.proofs.Common.{arith, ◌≡◌, ◌∙◌, suc}
use mathlib.Core.Logic.{⊎_elim}
use Rattle.linked_list.proofs.Checks.{part_more, along_more, at_node, row_fails, row_found}
use Rattle.seqs.proofs.Cells.{stored_some, stored_none}
use Rattle.linked_list.proofs.Lists.check_row.Goals as goal

pub returns-then-j-b : goal.returns-then-j-b
returns-then-j-b c =
    row_fails (λ R h.
    let N = at_node c.loop-x.invariant.2 c.in-Some.x (stored_some c.decode.ensures c.in-Some.is) R in
    ⊎_elim (λ w. absurd (omega (arith, N.j<, w))) (λ w. absurd (omega (arith, N.x<, w.1))) c.then-j-b.either)

pub loop-x-preserved : goal.loop-x-preserved
loop-x-preserved c =
    let p = c.loop-x in
    let x = c.in-Some.x in
    let q : p.q ≡ suc x = stored_some c.decode.ensures c.in-Some.is in
    let own = rw c.home_slot.ensures.0 at c.if-s-home_slot.false in
    let back = rw c.prev_slot.ensures.0 at c.if-s-prev_slot.false in
    rw c.next_slot.ensures.0
    (omega (arith, c.if-j-b.false), part_more p.invariant.1 x q c.if-x-self.false (own ∙ c.encode-home.ensures) back, along_more p.invariant.2 x q)

pub returns-then-s-self : goal.returns-then-s-self
returns-then-s-self c =
    let p = c.loop-x in
    row_found p.invariant.1 p.invariant.2 (stored_none c.decode.ensures c.in_default.is) c.if-s-self.true p.invariant.0
