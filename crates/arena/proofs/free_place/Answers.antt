-- The map says which places are free. Assumes nothing.
use Rattle.std.proofs.Common.{ap, ◌∙◌, List, ℕ, drop}
use Rattle.bits.specs.Map.{bit, lowest}
use Rattle.arena.proofs.Parts.{tail_is}
use Rattle.arena.proofs.Marks.{lowest_sign}
use Rattle.arena.proofs.free_place.Goals as goal

pub returns : goal.returns
returns c =
    let m = c.args.m.now in
    c.lowest_free.ensures ∙ ap (λ (x : List ℕ). lowest (bit x) c.args.n) (tail_is c.front_len.result m ∙ ap (λ (k : ℕ). drop k m) c.front_len.ensures)
    ∙ lowest_sign _ _ _ c.requires.marks
