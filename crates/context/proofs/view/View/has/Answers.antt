use Rattle.std.proofs.Common.{arith}
use Rattle.context.proofs.Thin.{linked, has_is}
use Rattle.context.proofs.Viewed.{well_of}
use Rattle.context.proofs.view.View.has.Goals as goal

pub has-requires-clause-linked : goal.has-requires-clause-linked
has-requires-clause-linked c = linked (well_of c.args.self.now.sound) c.family_span-s.ensures

pub returns : goal.returns
returns c = has_is (well_of c.args.self.now.sound) c.family_span-s.ensures c.requires.n_bound c.has.ensures

pub slice_bounds-has-end : goal.slice_bounds-has-end
slice_bounds-has-end c = omega (arith, c.family_span-s.ensures.fits, (well_of c.args.self.now.sound).fits)
