use mathlib.Core.Path.{sym}
use Rattle.values.proofs.Looking.{is_used, unused, taken}
use Rattle.values.proofs.take_value.Goals as goal

pub returns-then-is_some : goal.returns-then-is_some
returns-then-is_some c = is_used c.requires.sound_store c.nth_of-p.ensures c.first_of.ensures (sym c.if-is_some.ensures)

pub end_value-requires-clause-unused : goal.end_value-requires-clause-unused
end_value-requires-clause-unused c = unused c.requires.sound_store c.nth_of-p.ensures c.first_of.ensures (sym c.if-is_some.ensures)

pub returns : goal.returns
returns c = taken c.requires.sound_store c.nth_of-p.ensures c.first_of.ensures (sym c.if-is_some.ensures) c.end_value.ensures
