use Rattle.std.proofs.Common.{arith}
use Rattle.context.proofs.Dropping.{alive, turn, all, begun, at_most}
use Rattle.context.proofs.operation.drop_slots.Goals as goal

pub loop-u-init : goal.loop-u-init
loop-u-init c = begun c.requires.sound_store

pub first_of-requires-clause-well : goal.first_of-requires-clause-well
first_of-requires-clause-well c = c.loop-u.invariant.sound.well

pub end_use-requires-clause-sound_store : goal.end_use-requires-clause-sound_store
end_use-requires-clause-sound_store c = c.loop-u.invariant.sound

pub end_use-requires-clause-live : goal.end_use-requires-clause-live
end_use-requires-clause-live c = alive c.loop-u.invariant c.first_of.ensures _ c.in-Some.is

pub overflow_add-n : goal.overflow_add-n
overflow_add-n c = omega (arith, at_most c.requires.sound_store c.loop-u.invariant)

pub loop-u-smaller : goal.loop-u-smaller
loop-u-smaller c = (turn c.loop-u.invariant c.first_of.ensures c.in-Some.is c.end_use.ensures).1

pub loop-u-preserved : goal.loop-u-preserved
loop-u-preserved c = (turn c.loop-u.invariant c.first_of.ensures c.in-Some.is c.end_use.ensures).0

pub returns : goal.returns
returns c = all c.loop-u.invariant c.first_of.ensures c.in_default.is
