-- A birth, in both parts. Assumes nothing.
use Rattle.std.proofs.Common.{◌≡◌, sym, ap, ◌∙◌, subst, subst₂, List, ℕ, take, ◌<◌}
use Rattle.bits.specs.Map.{Flipped}
use Rattle.table.specs.Table.{Table, Born, next, stamp}
use Rattle.arena.specs.Packed.{front}
use Rattle.bits.proofs.Lowest.{Low, low_at}
use Rattle.table.proofs.Laws.{has_free}
use Rattle.arena.proofs.Parts.{rejoined}
use Rattle.arena.proofs.Marks.{bore, some_of}
use Rattle.arena.proofs.birth.Goals as goal
use Rattle.arena.proofs.birth.Goals.{After-unwrap-place}

-- the place found is free
low : (c : After-unwrap-place) → Low (stamp c.args.n (front c.args.n c.args.m.now)) c.args.n c.unwrap-place.result
low c = low_at _ _ _ (sym c.free_place.ensures ∙ c.unwrap-place.ensures)

pub unwrap-place-requires : goal.unwrap-place-requires
unwrap-place-requires c = some_of c.free_place.result (λ e. has_free _ _ c.requires.0.table c.requires.1.0 (sym c.free_place.ensures ∙ e))

pub birth_at-requires : goal.birth_at-requires
birth_at-requires c =
    let l = low (goal.at.birth_at-requires c).After-unwrap-place in
    subst (λ (t : List ℕ). Table c.args.n t × ((next t < 4294967295) × ((c.unwrap-place.result < c.args.n) × (stamp c.args.n t c.unwrap-place.result ≡ 0))))
    (sym (c.split_at_mut-births.ensures.front ∙ ap (λ (k : ℕ). take k c.args.m.now) c.front_len.ensures))
    (c.requires.0.table, (c.requires.1.1, (l.inside, l.free)))

pub returns : goal.returns
returns c =
    let p : ℕ = c.unwrap-place.result in
    let s = c.split_at_mut-births.ensures in
    let j = rejoined c.args.n _ c.args.m.now _ _ c.birth_at.new.t c.flip.new.b c.front_len.ensures s.front_len s.front s.back s.value c.birth_at.auto.t c.flip.auto.b in
    bore _ _ _ _ c.requires.0 j.4
    (subst₂ (λ (x y : List ℕ). Born c.args.n x y p) j.0 (sym j.2) c.birth_at.ensures)
    (subst₂ (λ (x y : List ℕ). Flipped x y p) j.1 (sym j.3) c.flip.ensures)
    (low (goal.at.returns c).After-unwrap-place)
