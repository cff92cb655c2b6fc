use mathlib.Core.Path.{refl}
use Rattle.edit.specs.Record.{erase_region}
use Rattle.edit.specs.declared.Nested.TheVariants.{Operation}
use Rattle.places.specs.Store.{op}
use Rattle.rules.specs.Refusal.{named}
use Rattle.rules.specs.Refusal as R
use Rattle.std.proofs.lemmas.Result.{err_from_is_err_and}
use Rattle.context.proofs.Places.{place<}
use Rattle.walk.proofs.Asked.{no_thing}
use Rattle.walk.proofs.EraseEdit.{no_index, region_live, did_erase_region}
use Rattle.walk.proofs.erase_region.Goals as goal

pub returns-in_err-o-clause-performed : goal.returns-in_err-o-clause-performed
unfolding named R.thing_named
returns-in_err-o-clause-performed c =
    let p = err_from_is_err_and c.from_residual.result c.from_residual.ensures.1 in
    rw (p.1, p.2) (no_thing c.requires.sound_store (erase_region c.args.number c.args.index) Operation c.args.number refl c.in_err-o.ensures refl)

pub row_length-requires : goal.row_length-requires
row_length-requires c = place< c.requires.sound_store (op, c.in_ok-o.o) c.in_ok-o.ensures.0

pub returns-then-row_length-index-clause-performed : goal.returns-then-row_length-index-clause-performed
returns-then-row_length-index-clause-performed c =
    no_index c.requires.sound_store c.in_ok-o.o c.args.number c.args.index c.in_ok-o.ensures.0 c.in_ok-o.ensures.1 c.row_length.result c.row_length.ensures c.if-row_length-index.true

pub nth_of-place-requires-clause-k_bound : goal.nth_of-place-requires-clause-k_bound
nth_of-place-requires-clause-k_bound c = place< c.requires.sound_store (op, c.in_ok-o.o) c.in_ok-o.ensures.0

pub erase_found-requires-clause-testable : goal.erase_found-requires-clause-testable
erase_found-requires-clause-testable c =
    (record { live = region_live c.requires.sound_store c.in_ok-o.o c.args.number c.args.index c.in_ok-o.ensures.0 c.in_ok-o.ensures.1 c.nth_of-place.result c.nth_of-place.ensures; long = c.requires.scratch.long }, c.requires.scratch.zeros)

pub returns-clause-performed : goal.returns-clause-performed
returns-clause-performed c =
    did_erase_region c.requires.sound_store c.in_ok-o.o c.args.number c.args.index c.in_ok-o.ensures.0 c.in_ok-o.ensures.1 _ _ c.row_length.result c.nth_of-place.result c.row_length.ensures c.if-row_length-index.false c.nth_of-place.ensures c.erase_found.ensures.erase_answer
