-- What the code's kinds and families are in the store by places. Assumes nothing: these are definitions.
use Rattle.std.specs.Prelude.{◌≡◌}
use Rattle.edit.specs.declared.Member.{Member}
use Rattle.edit.specs.declared.Nested.{Nested}
use Rattle.edit.specs.Kinds.{member_of}
use Rattle.places.specs.Store as P
use Rattle.places.specs.Store.{Fam, fam}
use Rattle.places.specs.Members.{role_of}
use Rattle.places.specs.Parts.{node_in}
use Rattle.places.specs.Roles as R
use Rattle.context.specs.declared.Kind.{Kind}
use Rattle.context.specs.declared.Kind.TheVariants.{Operation, Block, Region, Value, Use}
use Rattle.context.specs.declared.Family.{Family}
use Rattle.context.specs.declared.Family.TheVariants.{Slots, UseSets, Values, Regions, Operations, Blocks}
use Rattle.context.specs.Nest.{nested_kind, inner_fam}

abbrev pub kind_of : Kind → P.Kind
kind_of Operation = P.op
kind_of Block = P.blk
kind_of Region = P.reg
kind_of Value = P.val
kind_of Use = P.usg

abbrev pub fam_of : Family → Fam
fam_of Slots = P.slots
fam_of UseSets = P.use_sets
fam_of Values = P.vals
fam_of Regions = P.regs
fam_of Operations = P.ops_in
fam_of Blocks = P.blocks_in

-- the family of the lists that a member stands in
abbrev pub member_fam : Member → Fam
member_fam w = fam (role_of (member_of w))

-- what the conversions give
abbrev pub IsMember : Member → Kind → Type 0
IsMember w k = kind_of k ≡ R.member_kind (member_of w)

abbrev pub IsMemberFamily : Member → Family → Type 0
IsMemberFamily w f = fam_of f ≡ member_fam w

abbrev pub IsNested : Nested → Kind → Type 0
IsNested n k = kind_of k ≡ nested_kind n

-- what stands in the lists of a family
abbrev pub IsNode : Family → Kind → Type 0
IsNode f k = kind_of k ≡ node_in (fam_of f)

abbrev pub IsInnerFamily : Nested → Family → Type 0
IsInnerFamily n f = fam_of f ≡ inner_fam n
