-- The order's place at an index is the live list's. Assumes nothing.
use Rattle.std.proofs.Common.{sym, ap, ◌∙◌, ℕ, take}
use Rattle.table.specs.Table.{order}
use Rattle.table.proofs.Live.{live_nth}
use Rattle.arena.proofs.nth_live.Goals as goal

pub returns : goal.returns
returns c = c.order_at.ensures ∙ ap (λ (k : ℕ). order (take k c.args.m.now) c.args.k) c.front_len.ensures ∙ sym (live_nth c.requires.0.table _ c.requires.1)
