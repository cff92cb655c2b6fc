use Rattle.std.proofs.Common.{ℕ, ◌≡◌, ◌*◌, ◌<◌, true}
use Rattle.std.specs.Iterator.Adapters.{enumerate_source, enumerate_count}
use Rattle.sound_parts.specs.Tests.{SlotsAt}
use Rattle.sound_parts.proofs.Laws.{UsesTo}
use Rattle.sound_parts.proofs.check_slots.Given as goal

abbrev pub invariant-loop-j : goal.invariant-loop-j
invariant-loop-j l = (goal.iterator-loop-j).can_next l.j-iterator × (goal.iterator-loop-j).is_finite l.j-iterator × (l.ok ≡ true)
    × UsesTo l.ops.places l.values l.sets.lists.nc l.sets.nodes.places l.ops.words.now l.sets.nodes.words.now l.slots.words.now l.sets.words.now l.c (enumerate_source l.j-iterator) (enumerate_count l.j-iterator)

abbrev pub invariant-loop-c : goal.invariant-loop-c
invariant-loop-c l = (l.ok ≡ true) × ((d : ℕ) → d < l.c → SlotsAt l.ops.places l.values l.sets.lists.nc l.sets.nodes.places l.ops.words.now l.sets.nodes.words.now l.slots.words.now l.sets.words.now d)

abbrev pub invariant-search : goal.invariant-search
invariant-search l = (l.ok ≡ true) × ((d : ℕ) → d < 2 * l.p → SlotsAt l.ops.places l.values l.sets.lists.nc l.sets.nodes.places l.ops.words.now l.sets.nodes.words.now l.slots.words.now l.sets.words.now d)
