-- What has an inside: its kind in the store by places, the family of what lies in it, and a thing of such a kind. Assumes nothing: these are definitions.
use Rattle.edit.specs.declared.Nested.{Nested}
use Rattle.edit.specs.declared.Nested.TheVariants.{Operation, Block, Region}
use Rattle.places.specs.Store as P
use Rattle.places.specs.Store.{Kind, op, blk, reg, Fam, regs, ops_in, blocks_in}
use Rattle.context.specs.declared.Thing.{Thing}

abbrev pub nested_kind : Nested → Kind
nested_kind Operation = op
nested_kind Block = blk
nested_kind Region = reg

abbrev pub inner_fam : Nested → Fam
inner_fam Operation = regs
inner_fam Block = ops_in
inner_fam Region = blocks_in

-- the thing of its kind at its place
abbrev pub thing_at : Thing → P.Thing
thing_at x = (nested_kind x.kind, x.place)
