use mathlib.Core.Path.{sym}
use Rattle.context.specs.Memory.{state_of}
use Rattle.context.specs.Nest.{thing_at}
use Rattle.walk.specs.Tests.{marks_in}
use Rattle.walk.proofs.Strays.{code_13, code_14, code_0}
use Rattle.walk.proofs.test_marked.Goals as goal

pub returns-then-strays_within : goal.returns-then-strays_within
returns-then-strays_within c =
    code_13 (state_of c.args.v.now.layout c.args.v.now.words.now) (marks_in c.args.s.now) c.args.n (thing_at c.args.x) (sym c.if-strays_within.ensures)

pub returns-then-strays_within-2 : goal.returns-then-strays_within-2
returns-then-strays_within-2 c =
    code_14 (marks_in c.args.s.now) c.args.n (thing_at c.args.x) c.args.deep c.requires.depth_is (sym c.if-strays_within.ensures) (sym c.if-strays_within-2.ensures)

pub returns : goal.returns
returns c =
    code_0 (marks_in c.args.s.now) c.args.n (thing_at c.args.x) c.args.deep c.requires.depth_is (sym c.if-strays_within.ensures) (sym c.if-strays_within-2.ensures)
