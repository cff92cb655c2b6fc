use Rattle.std.proofs.Common.{◌≡◌, refl, sym, ◌∙◌, ℕ, Bool, true, false, Option, Some, None, is_some}
use mathlib.Core.Bool.{true≢false}
use Rattle.places.specs.Store.{op, blk}
use Rattle.context.proofs.Places.{place<}
use Rattle.context_demo.proofs.Steps.{can_link}
use Rattle.context_demo.proofs.put_into.Goals as goal

absent : (h : Option ℕ) → is_some h ≡ false → h ≡ None
absent None e = refl
absent (Some x) e = absurd (true≢false e)

pub home_of-requires : goal.home_of-requires
home_of-requires c = place< c.requires (op, c.in_ok-o.o) c.in_ok-o.ensures.0

pub home_of-requires-2 : goal.home_of-requires-2
home_of-requires-2 c = place< c.requires (blk, c.in_ok-b.b) c.in_ok-b.ensures.0

pub link_back-requires-clause-k_bound : goal.link_back-requires-clause-k_bound
link_back-requires-clause-k_bound c = (place< c.requires (blk, c.in_ok-b.b) c.in_ok-b.ensures.0, place< c.requires (op, c.in_ok-o.o) c.in_ok-o.ensures.0)

pub link_back-requires-clause-can_link_to : goal.link_back-requires-clause-can_link_to
link_back-requires-clause-can_link_to c =
    can_link c.requires c.in_ok-o.o c.in_ok-b.b c.home_of.result c.home_of-2.result c.in_ok-o.ensures.0 c.in_ok-b.ensures.0
    c.home_of.ensures (absent _ (sym c.is_some.ensures ∙ c.if-is_some.false))
    c.home_of-2.ensures (absent _ (sym c.is_some-2.ensures ∙ c.if-is_some-2.false))
