-- The bounds between which the rank is searched hold. Assumes nothing.
use Rattle.std.proofs.Common.{◌≡◌, refl, min, ◌-◌, rules}
use Rattle.table.specs.Table.{count, next}
use Rattle.table.proofs.Numbers.{bracket, count_next}
use Rattle.table.proofs.rank.Goals as goal

pub overflow_sub-d : goal.overflow_sub-d
overflow_sub-d c = count_next _ _ c.requires _ refl

pub rank_between-requires : goal.rank_between-requires
rank_between-requires c =
    let t = c.args.t.now in
    let low : c.min-from.result ≡ min (count t) (c.args.x - (next t - count t)) = search rules in
    let high : c.min-to.result ≡ min (count t) c.args.x = search rules in
    (c.requires, bracket c.args.n t c.args.x _ _ c.requires low high)
