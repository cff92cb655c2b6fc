use mathlib.Core.Logic.{inl}
use native.Mathlib.Omega.{arith}
use borrow.Author.Count.{below_more}
use Rattle.std.proofs.Common.{◌*◌, ◌<◌, length, ap}
use Rattle.linked_list.proofs.Truncated.{linked}
use Rattle.linked_list.proofs.View.{row_short}
use Rattle.sound_parts.proofs.Laws.{uses_begun, use_there, uses_more, uses_all, too_long, unheld, says_of, linked_as}
use Rattle.sound_parts.proofs.check_slots.Goals.{then-j-ge-MOST_LISTED-via-then-j-ge-MOST_LISTED, then-j-ge-MOST_LISTED-via-else-j-ge-MOST_LISTED+then-not-use_at}
use Rattle.sound_parts.proofs.check_slots.Goals as goal

pub loop-j-init : goal.loop-j-init
loop-j-init c =
    let s = c.args.slots.now in
    let h : c.loop-c.c < s.lists.nc = omega (arith, c.requires.slots_sized.lists) in
    rw (c.into_iter-j-iterator.ensures.into_iter_gives, c.enumerate-j-items.ensures.source, c.enumerate-j-items.ensures.count)
    ((tt, tt, inl (omega (arith, ap length c.list.ensures, row_short ((linked _ _ _ s.linked).row c.loop-c.c h), s.lists.sizes.nodes))), tt, c.loop-c.invariant.0, uses_begun _ _ _ _ _ _ _ _ _ (rw (c.requires.slots_sized.lists, c.requires.slots_sized.nodes) at c.list.ensures))

pub use_at-requires : goal.use_at-requires
use_at-requires c =
    let a = c.args in
    let K = linked_as a.slots.now.lists (2 * a.ops.now.places) a.sets.now.nodes.places a.slots.now.words.now c.requires.slots_sized a.slots.now.linked in
    let h : c.loop-c.c < 2 * a.ops.now.places = omega arith in
    (h, ((K.row c.loop-c.c h).own _ _ (use_there _ _ _ _ _ _ _ _ _ (rw c.in-Some.ensures.steps.0 at c.loop-j.invariant.3))).0)

pub loop-j-preserved : goal.loop-j-preserved
loop-j-preserved c =
    let U = rw (c.in-Some.ensures.steps.0, ← c.in-Some.ensures.steps.1) at c.loop-j.invariant.3 in
    (c.in-Some.ensures.goes.keeps, tt, c.loop-j.invariant.2, rw (c.in-Some.ensures.steps.2, ← c.in-Some.ensures.steps.1) (uses_more _ _ _ _ _ _ _ _ _ U c.if-j-ge-MOST_LISTED.false c.if-not-use_at.ensures))

pub loop-c-preserved : goal.loop-c-preserved
loop-c-preserved c =
    let p = c.loop-j in
    (p.invariant.2, below_more _ c.loop-c.c c.loop-c.invariant.1 (uses_all _ _ _ _ _ _ _ _ _ _ (rw c.in-None.ensures.steps.0.0 at p.invariant.3)))

pub search-preserved : goal.search-preserved
search-preserved c = (c.loop-c.invariant.0, λ d l. c.loop-c.invariant.1 d (omega arith))

pub returns-after-search : goal.returns-after-search
returns-after-search c = says_of c.search.ok _ c.search.invariant.0 (λ d l. c.search.invariant.1 d (omega arith))

pub returns-then-j-ge-MOST_LISTED : goal.returns-then-j-ge-MOST_LISTED
returns-then-j-ge-MOST_LISTED c =
    let h : c.loop-c.c < 2 * c.args.ops.now.places = omega arith in
    let U = rw (c.in-Some.ensures.steps.0, ← c.in-Some.ensures.steps.1) at c.loop-j.invariant.3 in
    elim c.then-j-ge-MOST_LISTED.branch [
      | then-j-ge-MOST_LISTED-via-then-j-ge-MOST_LISTED w ↦ λ S. too_long _ _ _ _ _ _ _ _ _ U (omega (arith, w.if-j-ge-MOST_LISTED.true)) (S c.loop-c.c h)
      | then-j-ge-MOST_LISTED-via-else-j-ge-MOST_LISTED+then-not-use_at w ↦ λ S. unheld _ _ _ _ _ _ _ _ _ U w.if-not-use_at.ensures (S c.loop-c.c h)
    ]
