use Rattle.sound_parts.proofs.parts.Nest.+climbs.Given as goal

abbrev pub decreases-climbs : goal.decreases-climbs
decreases-climbs l = l.n
