-- The rank is where the number must stand. Assumes nothing.
use Rattle.std.proofs.Common.{sym, arith}
use Rattle.table.proofs.Laws.{find_hit, find_other, find_past}
use Rattle.table.proofs.find.Goals as goal

pub returns-then-t-k : goal.returns-then-t-k
returns-then-t-k c = sym (find_past _ _ _ _ c.requires c.rank-k.ensures c.if-t-k.true)

pub returns-then-stamp_at-number : goal.returns-then-stamp_at-number
returns-then-stamp_at-number c = sym (find_hit _ _ _ _ c.requires c.rank-k.ensures _ c.order_at-p.ensures c.if-t-k.false (omega (arith, c.stamp_at.ensures, c.if-stamp_at-number.true)))

pub returns-else-stamp_at-number : goal.returns-else-stamp_at-number
returns-else-stamp_at-number c =
    sym (find_other _ _ _ _ c.requires c.rank-k.ensures _ c.order_at-p.ensures c.if-t-k.false (λ e. c.if-stamp_at-number.false (omega (arith, c.stamp_at.ensures, e))))
