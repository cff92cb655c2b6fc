use Rattle.std.proofs.Common.{rules}
use Rattle.program.proofs.Printing.{too_long, not_long}
use Rattle.program.proofs.print.Goals.{then-script-gt-MOST_SCRIPT, else-script-gt-MOST_SCRIPT}
use Rattle.program.proofs.print.Goals as goal

pub returns : goal.returns
returns c =
    elim c.if-script-gt-MOST_SCRIPT.branch [
      | then-script-gt-MOST_SCRIPT w ↦
          let v = too_long c.args.script.now w.if-script-gt-MOST_SCRIPT.true w.text.ensures in
          record { is = search (v.is, v.same, w.pen-is, rules) }
      | else-script-gt-MOST_SCRIPT w ↦
          let v = not_long c.args.script.now w.if-script-gt-MOST_SCRIPT.false w.run.ensures in
          record { is = search (v.is, v.same, w.pen-is, rules) }
    ]
