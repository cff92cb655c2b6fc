use Rattle.std.proofs.Common.{true, false, suc, ◌-◌}
use Rattle.context.proofs.Places.{place<}
use Rattle.context.specs.Nest.{thing_at}
use Rattle.context.proofs.Viewed.{sound_of}
use Rattle.places.specs.Store.{op, blk}
use Rattle.links.specs.Climbing.{thrice}
use Rattle.links.proofs.Climb.{operation_met, step_ended, step_met, step_on}
use Rattle.links.proofs.Stepping.{operation_end, operation_on, block_live}
use Rattle.links.proofs.+operation_in.Goals as goal

pub returns-then-is_at : goal.returns-then-is_at
returns-then-is_at t c = operation_met (sound_of c.args.v.now.sound).sound (thing_at c.args.x) c.args.o c.args.depth c.if-depth-eq0.false c.if-is_at.ensures

pub home_of-requires : goal.home_of-requires
home_of-requires t c = place< (sound_of c.args.v.now.sound) (op, c.args.o) c.requires

pub returns-in_default : goal.returns-in_default
returns-in_default t c = operation_end (sound_of c.args.v.now.sound) (thing_at c.args.x) c.args.o c.args.depth c.if-is_at.ensures c.in_default.ensures c.if-depth-eq0.false

pub block_step-requires : goal.block_step-requires
block_step-requires t c = block_live (sound_of c.args.v.now.sound) c.args.o c.in-Some.b c.in-Some.ensures

pub returns-in-Ended : goal.returns-in-Ended
returns-in-Ended t c =
    operation_on (sound_of c.args.v.now.sound) (thing_at c.args.x) c.args.o c.in-Some.b c.args.depth false c.if-is_at.ensures c.in-Some.ensures c.if-depth-eq0.false
    (step_ended (sound_of c.args.v.now.sound).sound (thing_at c.args.x) (blk, c.in-Some.b) (λ n. suc (suc n)) c.block_step.result c.block_step.ensures (thrice (c.args.depth - 1)) c.in-Ended.is)

pub returns-in-Met : goal.returns-in-Met
returns-in-Met t c =
    operation_on (sound_of c.args.v.now.sound) (thing_at c.args.x) c.args.o c.in-Some.b c.args.depth true c.if-is_at.ensures c.in-Some.ensures c.if-depth-eq0.false
    (step_met (sound_of c.args.v.now.sound).sound (thing_at c.args.x) (blk, c.in-Some.b) (λ n. suc (suc n)) c.block_step.result c.block_step.ensures (thrice (c.args.depth - 1)) c.in-Met.is)

pub returns-in-At : goal.returns-in-At
returns-in-At t c =
    operation_on (sound_of c.args.v.now.sound) (thing_at c.args.x) c.args.o c.in-Some.b c.args.depth c.operation_in.result c.if-is_at.ensures c.in-Some.ensures c.if-depth-eq0.false
    (step_on (sound_of c.args.v.now.sound).sound (thing_at c.args.x) (blk, c.in-Some.b) (λ n. suc (suc n)) c.block_step.result c.block_step.ensures (thrice (c.args.depth - 1)) c.in-At.p c.operation_in.result c.in-At.is c.operation_in.ensures)
