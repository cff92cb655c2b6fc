use mathlib.Core.Path.{sym, ap, ◌∙◌}
use Prim.Native.Nat.{ℕ}
use mathlib.Core.List.{[], ◌∷◌}
use Rattle.std.specs.Prelude.{Some}
use Rattle.seqs.proofs.Cells.{same, differ}
use Rattle.context.proofs.Viewed.{sound_of}
use Rattle.listing.proofs.Uses.{one_yes, one_no}
use Rattle.listing.proofs.nth_use.Goals as goal

pub returns-then-has : goal.returns-then-has
returns-then-has c =
    ap (λ (x : ℕ). x ∷ []) c.number_of.ensures.is
    ∙ sym (one_yes (sound_of c.args.v.now.sound) c.args.k c.requires.live c.nth_live-u.result c.nth_live-u.ensures.live c.has.ensures.at c.args.i c.nth_live-u.ensures.is (same c.has.ensures.home (Some c.args.k) (sym c.if-has.true ∙ c.has.ensures.is)))

pub returns-else-has : goal.returns-else-has
returns-else-has c =
    sym (one_no (sound_of c.args.v.now.sound) c.args.k c.requires.live c.nth_live-u.result c.nth_live-u.ensures.live c.has.ensures.at c.args.i c.nth_live-u.ensures.is (differ c.has.ensures.home c.args.k (sym c.if-has.false ∙ c.has.ensures.is)))
