use mathlib.Core.Path.{sym, ◌∙◌}
use Rattle.std.proofs.Common.{rules, tests}
use Rattle.edit.specs.Kinds.{slot_of}
use Rattle.places.specs.Roles.{def_kind}
use Rattle.context.specs.Memory.{state_of}
use Rattle.context.proofs.Numbers.{list_lives}
use Rattle.context.proofs.Places.{place<}
use Rattle.context.proofs.Viewed.{sound_of}
use Rattle.readers.proofs.Public.{passed_on}
use Rattle.readers.proofs.Telling.{told_as, found_as, refused_as, found_live, set_is}
use Rattle.readers.proofs.sound_uses.Goals as goal

pub returns-in_err-p : goal.returns-in_err-p
returns-in_err-p c =
    rw (passed_on c.from_residual.result c.from_residual.ensures)
    (told_as (sym c.slot_and_number-slot.ensures)
    (refused_as (sound_of c.args.v.now.sound) c.slot_and_number-slot.result.0 c.definition_kind.ensures c.slot_and_number-slot.result.1 c.args.out.now c.look_up.result c.look_up.ensures
    (λ q e. search (rules, tests, e, c.in_err-p.was))
    (λ w x e i. search (rules, tests, w, e, i, c.in_err-p.was))
    (λ w x e i. search (rules, tests, w, e, i, c.in_err-p.was))))

pub use_set_of-requires-clause-p_bound : goal.use_set_of-requires-clause-p_bound
use_set_of-requires-clause-p_bound c =
    place< (sound_of c.args.v.now.sound) (def_kind (slot_of c.slot_and_number-slot.result.0), c.in_ok-p.p) (found_live (sound_of c.args.v.now.sound) (slot_of c.slot_and_number-slot.result.0) c.definition_kind.ensures c.slot_and_number-slot.result.1 c.in_ok-p.p (found_as (sound_of c.args.v.now.sound) _ _ c.look_up.result c.look_up.ensures (λ q e. search (rules, tests, e, c.in_ok-p.was)) (λ x e. search (rules, tests, e, c.in_ok-p.was))))

pub uses_in-requires-clause-live : goal.uses_in-requires-clause-live
uses_in-requires-clause-live c =
    list_lives c.use_set_of.ensures (state_of c.args.v.now.layout c.args.v.now.words.now) (found_live (sound_of c.args.v.now.sound) (slot_of c.slot_and_number-slot.result.0) c.definition_kind.ensures c.slot_and_number-slot.result.1 c.in_ok-p.p (found_as (sound_of c.args.v.now.sound) _ _ c.look_up.result c.look_up.ensures (λ q e. search (rules, tests, e, c.in_ok-p.was)) (λ x e. search (rules, tests, e, c.in_ok-p.was))))

pub returns : goal.returns
returns c =
    told_as (set_is (sound_of c.args.v.now.sound) (slot_of c.slot_and_number-slot.result.0) c.definition_kind.ensures c.slot_and_number-slot.result.1 c.in_ok-p.p (found_as (sound_of c.args.v.now.sound) _ _ c.look_up.result c.look_up.ensures (λ q e. search (rules, tests, e, c.in_ok-p.was)) (λ x e. search (rules, tests, e, c.in_ok-p.was))) c.use_set_of.ensures ∙ sym c.slot_and_number-slot.ensures) c.uses_in.ensures
