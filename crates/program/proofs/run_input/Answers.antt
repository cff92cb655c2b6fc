use mathlib.Core.Path.{sym}
use lib.Seq.{length-take-le}
use borrow.Author.Rules.{rules}
use Rattle.program.proofs.Fits.{printed_within}
use Rattle.program.proofs.run_input.Goals as goal

pub slice_bounds-out-end : goal.slice_bounds-out-end
slice_bounds-out-end c = printed_within _ (search rules) c.print-r.ensures

pub slice_bounds-write_all-end : goal.slice_bounds-write_all-end
slice_bounds-write_all-end c = sym (length-take-le c.print-r.result c.print-r.new.out (printed_within _ (search rules) c.print-r.ensures))
