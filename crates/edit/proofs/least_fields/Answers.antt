-- The table of least field counts is the one of the definition, entry by entry. Assumes nothing.
use Rattle.edit.specs.Record.{least}
use Rattle.edit.proofs.least_fields.Goals as goal

pub returns : goal.returns
unfolding least
returns c = c.from.ensures
