-- An end, in both parts. Assumes nothing.
use Rattle.std.proofs.Common.{sym, subst₂, List, ℕ}
use Rattle.bits.specs.Map.{Flipped}
use Rattle.table.specs.Table.{Ended}
use Rattle.arena.proofs.Parts.{rejoined}
use Rattle.arena.proofs.Marks.{gone}
use Rattle.arena.proofs.end.Goals as goal

pub returns : goal.returns
returns c =
    let s = c.split_at_mut-births.ensures in
    let j = rejoined c.args.n _ c.args.m.now _ _ c.end.new.t c.flip.new.b c.front_len.ensures s.front_len s.front s.back s.value c.end.auto.t c.flip.auto.b in
    gone _ _ _ _ c.requires.0 j.4
    (subst₂ (λ (x y : List ℕ). Ended c.args.n x y c.args.p) j.0 (sym j.2) c.end.ensures)
    (subst₂ (λ (x y : List ℕ). Flipped x y c.args.p) j.1 (sym j.3) c.flip.ensures)
    c.requires.1.0 c.requires.1.1
