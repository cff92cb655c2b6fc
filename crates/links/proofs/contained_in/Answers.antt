use Rattle.std.proofs.Common.{sym, subst}
use Rattle.edit.specs.Kinds.{member_of}
use Rattle.places.specs.Store.{Thing, Live}
use Rattle.context.specs.Kinds.{fam_of}
use Rattle.context.specs.Memory.{state_of}
use Rattle.context.specs.Nest.{thing_at}
use Rattle.context.proofs.Viewed.{sound_of}
use Rattle.links.proofs.Sorts.{inner<}
use Rattle.links.proofs.Testing.{empty_member, not_inside, surely_inside, inside_by}
use Rattle.links.proofs.contained_in.Goals as goal

pub first_of-requires : goal.first_of-requires
first_of-requires c = rw c.from.ensures (inner< (sound_of c.args.v.now.sound) c.member-x.result.kind c.member-x.result.place (subst (λ (x : Thing). Live (state_of c.args.v.now.layout c.args.v.now.words.now) x) (sym c.member-x.ensures) c.requires.live))

pub returns-then-is_none : goal.returns-then-is_none
returns-then-is_none c = empty_member (sound_of c.args.v.now.sound) (member_of c.args.w) c.args.n c.args.c c.member-x.result.kind c.member-x.result.place c.member-x.ensures (fam_of c.from.result) c.from.ensures c.first_of.result c.first_of.ensures c.if-is_none.ensures

pub returns-in-Ended : goal.returns-in-Ended
returns-in-Ended c = not_inside (sound_of c.args.v.now.sound).sound (member_of c.args.w) c.args.n c.args.c (thing_at c.member-x.result) c.member-x.ensures c.requires.live_2 c.container_step.result c.container_step.ensures c.in-Ended.is

pub returns-in-Met : goal.returns-in-Met
returns-in-Met c = surely_inside (sound_of c.args.v.now.sound).sound (member_of c.args.w) c.args.n c.args.c (thing_at c.member-x.result) c.member-x.ensures c.requires.live_2 c.container_step.result c.container_step.ensures c.in-Met.is

pub returns-in-At : goal.returns-in-At
returns-in-At c = inside_by (sound_of c.args.v.now.sound).sound (member_of c.args.w) c.args.n c.args.c (thing_at c.member-x.result) c.member-x.ensures c.requires.live_2 c.container_step.result c.container_step.ensures c.in-At.o c.live_count.result c.operation_in.result c.live_count.ensures.is c.in-At.is c.operation_in.ensures
