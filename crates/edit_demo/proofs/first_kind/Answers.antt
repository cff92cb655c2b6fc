-- A whole record ends inside the bytes. Assumes nothing.
use mathlib.Core.Path.{sym, ap, ◌∙◌}
use lib.Seq.{length-take-le}
use Rattle.std.proofs.Common.{Ok}
use Rattle.edit_demo.proofs.first_kind.Goals as goal

pub slice_bounds-rec-end : goal.slice_bounds-rec-end
slice_bounds-rec-end c =
    sym (length-take-le c.in-Some.end _ (c.next_record.ensures.lies _ (c.in_ok-end.was ∙ ap Ok c.in-Some.is)).inside)
