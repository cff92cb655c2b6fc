use Rattle.std.proofs.Common.{rules}
use Rattle.context.proofs.Checking.{families_say}
use Rattle.context.proofs.families_ok.Goals as goal

pub returns-then-family_ok-5 : goal.returns-then-family_ok-5
returns-then-family_ok-5 c = families_say c.args.l c.args.m.now _ (search rules)

pub returns-else-family_ok-5 : goal.returns-else-family_ok-5
returns-else-family_ok-5 c = families_say c.args.l c.args.m.now _ (search rules)
