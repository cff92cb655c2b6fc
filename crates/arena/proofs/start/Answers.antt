-- A start, in both parts. Assumes nothing.
use Rattle.std.proofs.Common.{◌≡◌, sym, ◌∙◌, subst, List, ℕ}
use Rattle.bits.specs.Map.{bit}
use Rattle.table.specs.Table.{Started}
use Rattle.arena.proofs.Marks.{fresh}
use Rattle.arena.proofs.Parts.{rejoined}
use Rattle.arena.proofs.start.Goals as goal

pub returns : goal.returns
returns c =
    let s = c.split_at_mut-births.ensures in
    let j = rejoined c.args.n _ c.args.m.now _ _ c.start.new.t c.clear.new.b c.front_len.ensures s.front_len s.front s.back s.value c.start.auto.t c.clear.auto.b in
    fresh c.args.n _ (j.4 ∙ c.requires.0)
    (subst (λ (x : List ℕ). Started c.args.n x) (sym j.2) c.start.ensures)
    (subst (λ (x : List ℕ). (p : ℕ) → bit x p ≡ 0) (sym j.3) c.clear.ensures.none)
