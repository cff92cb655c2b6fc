use Rattle.context.specs.Kinds.{fam_of}
use Rattle.context.proofs.Calling.{Calling}
use Rattle.context.proofs.view.View.any_of.Given as goal

abbrev pub invariant-loop-p : goal.invariant-loop-p
invariant-loop-p g l = Calling l.fn.self.layout (fam_of l.fn.f) l.fn.k l.fn.self.words.now l.p-iterator (goal.F-post g l.test)
