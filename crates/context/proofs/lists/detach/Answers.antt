use Rattle.std.proofs.Common.{sym, ◌∙◌}
use Rattle.context.proofs.Ending.{home_stands, freed_none, freed_some}
use Rattle.context.proofs.lists.detach.Goals as goal

pub leave-requires-clause-stands : goal.leave-requires-clause-stands
leave-requires-clause-stands c = home_stands c.home_of.ensures (sym c.is_some.ensures ∙ c.if-is_some.true)

pub returns-then-is_some : goal.returns-then-is_some
returns-then-is_some c = freed_some (home_stands c.home_of.ensures (sym c.is_some.ensures ∙ c.if-is_some.true)) c.leave.ensures

pub returns-else-is_some : goal.returns-else-is_some
returns-else-is_some c = freed_none c.requires.well c.home_of.ensures (sym c.is_some.ensures ∙ c.if-is_some.false)
