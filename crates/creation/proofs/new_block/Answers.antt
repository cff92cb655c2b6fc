use Rattle.std.proofs.Common.{refl}
use Rattle.std.proofs.lemmas.Result.{err_from_is_err_and}
use native.Mathlib.Omega.{arith}
use Rattle.edit.specs.Kinds.{number_of}
use Rattle.edit.specs.Taken.{fields_of}
use Rattle.creation.proofs.Blocks.{block_refused, block_refusal, block_ready, room_for_block, block_begun, can_argument, block_turn, at_end, block_done}
use Rattle.creation.proofs.new_block.Goals as goal

pub returns-in_err-test_room : goal.returns-in_err-test_room
returns-in_err-test_room c =
    let p = err_from_is_err_and c.from_residual.result c.from_residual.ensures.1 in
    rw (p.1, p.2) (block_refused c.requires.sound_store (fields_of c.args.rec.now) c.requires.passed c.field-n.result (number_of c.in_err-test_room.field-0.0) c.field-n.ensures c.default.result c.default.ensures c.in_err-test_room.ensures c.in_err-test_room.field-0.0 refl)

pub birth_block-b-requires-clause-room_for : goal.birth_block-b-requires-clause-room_for
birth_block-b-requires-clause-room_for c = room_for_block c.requires.sound_store (fields_of c.args.rec.now) c.requires.passed c.field-n.result 0 c.field-n.ensures c.default.result c.default.ensures c.in_ok-test_room.ensures refl

pub birth_value-requires-clause-sound_store : goal.birth_value-requires-clause-sound_store
birth_value-requires-clause-sound_store c =
    let A = c.loop-j.invariant c.args.m.now (block_begun (fields_of c.args.rec.now) (block_ready c.requires.sound_store (fields_of c.args.rec.now) c.requires.passed c.field-n.result 0 c.field-n.ensures c.default.result c.default.ensures c.in_ok-test_room.ensures refl) c.birth_block-b.result c.birth_block-b.ensures) in
    A.made.sound

pub birth_value-requires-clause-can_bear_value : goal.birth_value-requires-clause-can_bear_value
birth_value-requires-clause-can_bear_value c =
    let A = c.loop-j.invariant c.args.m.now (block_begun (fields_of c.args.rec.now) (block_ready c.requires.sound_store (fields_of c.args.rec.now) c.requires.passed c.field-n.result 0 c.field-n.ensures c.default.result c.default.ensures c.in_ok-test_room.ensures refl) c.birth_block-b.result c.birth_block-b.ensures) in
    can_argument (fields_of c.args.rec.now) c.birth_block-b.result c.loop-j.j A (omega (arith, c.loop-j-test.true, c.field-n.ensures)) c.values_of-k.ensures

pub loop-j-preserved : goal.loop-j-preserved
loop-j-preserved c = λ e A. block_turn (fields_of c.args.rec.now) c.birth_block-b.result c.loop-j.j (c.loop-j.invariant e A) (omega (arith, c.loop-j-test.true, c.field-n.ensures)) c.values_of-k.ensures c.birth_value.result c.field-t.result c.field-t.ensures c.birth_value.ensures

pub returns : goal.returns
returns c =
    let A = c.loop-j.invariant c.args.m.now (block_begun (fields_of c.args.rec.now) (block_ready c.requires.sound_store (fields_of c.args.rec.now) c.requires.passed c.field-n.result 0 c.field-n.ensures c.default.result c.default.ensures c.in_ok-test_room.ensures refl) c.birth_block-b.result c.birth_block-b.ensures) in
    block_done (fields_of c.args.rec.now) c.birth_block-b.result (at_end (fields_of c.args.rec.now) c.birth_block-b.result c.loop-j.j c.field-n.result c.field-n.ensures c.loop-j-test.false c.loop-j.auto.j-end A)
    (block_refusal c.requires.sound_store (fields_of c.args.rec.now) c.requires.passed c.field-n.result 0 c.field-n.ensures c.default.result c.default.ensures c.in_ok-test_room.ensures) c.next_number-x.result c.next_number-x.ensures
