-- The first group that is not full. Assumes nothing.
use Rattle.std.proofs.Common.{◌≡◌, subst₂, arith, rules}
use Rattle.std.specs.Iterator.Runs.{IsChunksExactRun}
use Rattle.bits.proofs.Groups.{opens}
use Rattle.bits.proofs.first_open.Goals as goal

pub returns : goal.returns
returns g c =
    let run = c.position.ensures.runs in
    let groups = c.chunks_exact.ensures in
    let size : run.0.from.size ≡ g.row.SIZE = search (rules, run.1, groups.size) in
    let rest : run.0.from.rest.now ≡ c.args.b.now = search (rules, run.1, groups.rest) in
    opens g.row.SIZE c.args.b.now run.0 (subst₂ (λ m xs. IsChunksExactRun run.0 m xs) size rest (groups.runs run.0 run.0.seen (omega (arith, size))))
    _ _ (λ x k. search rules) (λ x k. search rules) c.args.b _ (λ a r f k. search rules) run.2
