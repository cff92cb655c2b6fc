use mathlib.Core.Path.{refl}
use Rattle.edit.specs.Kinds.{thing_of}
use Rattle.edit.specs.Record.{drop_uses}
use Rattle.rules.specs.Refusal.{named}
use Rattle.std.proofs.lemmas.Result.{err_from_is_err_and}
use Rattle.walk.proofs.Asked.{no_thing, found_at, did_drop}
use Rattle.walk.proofs.drop_uses.Goals as goal

pub returns-in_err-place : goal.returns-in_err-place
unfolding named
returns-in_err-place c =
    let p = err_from_is_err_and c.from_residual.result c.from_residual.ensures.1 in
    rw (p.1, p.2) (no_thing c.requires (drop_uses (thing_of c.args.kind c.args.number)) c.args.kind c.args.number c.from.ensures c.in_err-place.ensures refl)

pub returns : goal.returns
returns c = did_drop c.requires c.args.kind c.args.number c.in_ok-place.place (found_at c.requires c.args.kind c.args.number c.in_ok-place.place c.from.ensures c.in_ok-place.ensures) c.drop_tallied-t.ensures
