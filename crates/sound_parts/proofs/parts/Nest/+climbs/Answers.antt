use Rattle.std.proofs.Common.{suc, ◌∙◌}
use Rattle.sound_parts.proofs.Laws.{climb_from}
use Rattle.sound_parts.proofs.parts.Nest.+climbs.Goals as goal

pub returns-in-None : goal.returns-in-None
returns-in-None t c = climb_from _ _ _ _ _ _ c.args.p 0 c.args.n c.if-n-eq0.false c.in-None.ensures.around

pub returns-in-Some : goal.returns-in-Some
returns-in-Some t c = c.climbs.ensures ∙ climb_from _ _ _ _ _ _ c.args.p (suc c.in-Some.q) c.args.n c.if-n-eq0.false c.in-Some.ensures.around
