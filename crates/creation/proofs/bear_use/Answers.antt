use Rattle.edit.specs.Kinds.{slot_of}
use Rattle.places.specs.Store.{op}
use Rattle.places.specs.Roles.{def_kind}
use Rattle.context.specs.Kinds.{kind_of}
use Rattle.context.specs.Memory.{state_of}
use Rattle.context.proofs.Places.{place<}
use Rattle.creation.proofs.Operations.{definition_is, can_use, used}
use Rattle.creation.proofs.bear_use.Goals as goal

pub slots_of-s-requires-clause-o_bound : goal.slots_of-s-requires-clause-o_bound
slots_of-s-requires-clause-o_bound c = place< c.requires.sound_store (op, c.args.o) c.requires.can_use.slot

pub use_set_of-k-requires-clause-p_bound : goal.use_set_of-k-requires-clause-p_bound
use_set_of-k-requires-clause-p_bound c =
    let p = definition_is (state_of c.args.l c.args.m.now) (slot_of c.args.sl) (kind_of c.definition_kind.result) c.definition_kind.ensures c.args.d c.unwrap-p.result c.find.result c.find.ensures c.unwrap-p.ensures in
    place< c.requires.sound_store (def_kind (slot_of c.args.sl), c.unwrap-p.result) p.0

pub birth_use-requires-clause-can_bear : goal.birth_use-requires-clause-can_bear
birth_use-requires-clause-can_bear c =
    let p = definition_is (state_of c.args.l c.args.m.now) (slot_of c.args.sl) (kind_of c.definition_kind.result) c.definition_kind.ensures c.args.d c.unwrap-p.result c.find.result c.find.ensures c.unwrap-p.ensures in
    can_use c.requires.sound_store (slot_of c.args.sl) c.args.o c.args.i c.args.d c.requires.can_use c.unwrap-p.result p c.slots_of-s.ensures c.use_set_of-k.ensures

pub returns : goal.returns
returns c =
    let p = definition_is (state_of c.args.l c.args.m.now) (slot_of c.args.sl) (kind_of c.definition_kind.result) c.definition_kind.ensures c.args.d c.unwrap-p.result c.find.result c.find.ensures c.unwrap-p.ensures in
    used c.requires.sound_store (slot_of c.args.sl) c.args.o c.args.i c.args.d c.requires.can_use c.unwrap-p.result p c.slots_of-s.ensures c.use_set_of-k.ensures c.birth_use.result c.birth_use.ensures
