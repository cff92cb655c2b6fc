-- A live place has a number, the one that its stamp says. Assumes nothing.
use Rattle.std.proofs.Common.{◌≡◌, sym, ap, ◌∙◌, subst, ℕ, take, arith, ◌<◌}
use Rattle.seqs.specs.Cells.{decoded}
use Rattle.seqs.proofs.Cells.{some_of, stored_some}
use Rattle.table.specs.Table.{Shape, stamp}
use Rattle.table.proofs.Laws.{shape}
use Rattle.table.proofs.Live.{live_stamp, live_number}
use Rattle.arena.specs.Packed.{front}
use Rattle.arena.proofs.number_at.Goals as goal
use Rattle.arena.proofs.number_at.Goals.{After-number_at}

pub number_at-requires : goal.number_at-requires
number_at-requires c =
    subst (λ (k : ℕ). Shape c.args.n (take k c.args.m.now) × (c.args.p < c.args.n)) (sym c.front_len.ensures) (shape c.requires.0.table, (live_stamp c.requires.0.table _ c.requires.1).0)

-- what is read, said of the arena's table
read : (c : After-number_at) → c.number_at.result ≡ decoded (stamp c.args.n (front c.args.n c.args.m.now) c.args.p)
read c = c.number_at.ensures ∙ ap (λ (k : ℕ). decoded (stamp c.args.n (take k c.args.m.now) c.args.p)) c.front_len.ensures

pub unwrap-requires : goal.unwrap-requires
unwrap-requires c = some_of (read c) (live_stamp c.requires.0.table _ c.requires.1).1

pub returns : goal.returns
returns c = omega (arith, live_number c.requires.0.table _ c.requires.1, stored_some (read (goal.at.returns c).After-number_at) c.unwrap.ensures)
