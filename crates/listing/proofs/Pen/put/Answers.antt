use Rattle.listing.proofs.Pens.{put_in, put_out}
use Rattle.listing.proofs.Pen.put.Goals as goal

pub returns-then-self : goal.returns-then-self
returns-then-self g c = put_in c.args.self.now c.args.x c.if-self.true

pub returns-else-self : goal.returns-else-self
returns-else-self g c = put_out c.args.self.now c.args.x c.if-self.false
