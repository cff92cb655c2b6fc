use Rattle.std.proofs.Common.{arith}
use Rattle.context.proofs.Thin.{linked}
use Rattle.context.proofs.Neighbours.{nodes_are}
use Rattle.context.proofs.Viewed.{well_of}
use Rattle.context.proofs.view.View.nodes.Goals as goal

pub iter-requires-clause-linked : goal.iter-requires-clause-linked
iter-requires-clause-linked c = linked (well_of c.args.self.now.sound) c.family_span-s.ensures

pub returns : goal.returns
returns c = nodes_are (well_of c.args.self.now.sound) c.family_span-s.ensures c.iter.ensures

pub slice_bounds-iter-end : goal.slice_bounds-iter-end
slice_bounds-iter-end c = omega (arith, c.family_span-s.ensures.fits, (well_of c.args.self.now.sound).fits)
