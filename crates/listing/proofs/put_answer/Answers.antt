use Rattle.listing.proofs.Pens.{moved}
use Rattle.listing.proofs.Nodes.{answer_no, answer_ok}
use Rattle.listing.proofs.put_answer.Goals.{then-refusal-eq0, else-refusal-eq0}
use Rattle.listing.proofs.put_answer.Goals as goal

pub returns : goal.returns
returns c =
    elim c.if-refusal-eq0.branch [
      | then-refusal-eq0 w ↦ answer_ok c.args.n (record { refusal = c.args.refusal; a = c.args.x; b = c.args.y }) c.field.ensures w.if-refusal-eq0.true w.field-then-refusal-eq0.ensures w.number.ensures (moved w.pen-is c.put.ensures)
      | else-refusal-eq0 w ↦ answer_no c.args.n (record { refusal = c.args.refusal; a = c.args.x; b = c.args.y }) c.field.ensures w.if-refusal-eq0.false w.field-else-refusal-eq0.ensures (moved w.pen-is c.put.ensures)
    ]
