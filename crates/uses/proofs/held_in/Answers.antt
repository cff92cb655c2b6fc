use mathlib.Core.Path.{sym, ◌∙◌}
use Rattle.std.proofs.Common.{inr}
use Rattle.places.specs.Store.{usg}
use Rattle.context.proofs.Places.{place<}
use Rattle.context.proofs.Viewed.{sound_of}
use Rattle.uses.proofs.Moving.{away}
use Rattle.uses.proofs.held_in.Goals as goal

pub home_of-requires : goal.home_of-requires
home_of-requires c = place< (sound_of c.args.v.now.sound) (usg, c.in_ok-u.u) c.in_ok-u.ensures.0

pub returns-else-eq : goal.returns-else-eq
returns-else-eq c = inr (record { place = c.in_ok-u.u; live = c.in_ok-u.ensures.0; number = c.in_ok-u.ensures.1; away = λ q. away c.args.v.now.layout c.args.d c.home_of.result (sym c.if-eq.ensures) (sym c.home_of.ensures.own ∙ q) })
