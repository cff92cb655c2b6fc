use Rattle.sound.proofs.Laws.{shape, table_seen}
use Rattle.sound.proofs.births.Goals as goal

pub invariant_of-result : goal.invariant_of-result
invariant_of-result c = record { shape = rw c.front_len.ensures (shape c.requires c.table_span-t.ensures) }

pub returns : goal.returns
returns c = record { words = rw c.front_len.ensures (table_seen c.requires c.table_span-t.ensures); places = c.table_span-t.ensures.capacity }
