use Rattle.context.proofs.Rest.{first_here}
use Rattle.context.proofs.Viewed.{sound_of}
use Rattle.listing.proofs.Pens.{and_then}
use Rattle.listing.proofs.Rows.{row_begun, row_next, row_end}
use Rattle.listing.proofs.put_row.Goals as goal

pub loop-p-init : goal.loop-p-init
loop-p-init c = rw c.into_iter-p-iterator.ensures.into_iter_gives (row_begun c.nodes-p-items.ensures)

pub put_node-requires : goal.put_node-requires
put_node-requires c =
    (first_here (rw c.in-Some.ensures.steps at c.loop-p.invariant.rest) (sound_of c.args.v.now.sound)).live

pub loop-p-preserved : goal.loop-p-preserved
loop-p-preserved c = row_next (rw c.in-Some.ensures.steps at c.loop-p.invariant) c.put_node.ensures

pub returns : goal.returns
returns c = and_then c.text.ensures (row_end (rw c.in-None.ensures.steps.0 at c.loop-p.invariant))
