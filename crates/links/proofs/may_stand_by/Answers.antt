use Rattle.std.proofs.Common.{sym, ◌∙◌}
use Rattle.edit.specs.Kinds.{member_of}
use Rattle.places.specs.Members.{home_of, mark_code}
use Rattle.context.specs.Kinds.{fam_of}
use Rattle.context.specs.Memory.{state_of}
use Rattle.context.proofs.Viewed.{sound_of}
use Rattle.links.proofs.Sorts.{node<}
use Rattle.links.proofs.Testing.{held_none, mark_in, mark_live, inside_yes, inside_no}
use Rattle.links.proofs.may_stand_by.Goals as goal

pub home_of-requires : goal.home_of-requires
home_of-requires c = node< (member_of c.args.w) c.args.v.now.layout (fam_of c.from.result) c.from.ensures c.args.n (sound_of c.args.v.now.sound) c.requires.live

pub home_of-requires-2 : goal.home_of-requires-2
home_of-requires-2 c = node< (member_of c.args.w) c.args.v.now.layout (fam_of c.from-2.result) c.from-2.ensures c.args.k (sound_of c.args.v.now.sound) c.requires.live_2

pub contained_in-requires-clause-live_2 : goal.contained_in-requires-clause-live_2
contained_in-requires-clause-live_2 c = mark_live (member_of c.args.w) c.args.k (fam_of c.from-2.result) c.from-2.ensures c.home_of-2.result c.home_of-2.ensures c.in_ok-c.c c.in_ok-c.ensures.ok_part (sound_of c.args.v.now.sound).sound

pub returns-then-contained_in : goal.returns-then-contained_in
returns-then-contained_in c =
    sym (held_none (member_of c.args.w) c.args.n (fam_of c.from.result) c.from.ensures c.home_of.result c.home_of.ensures 15 (mark_code (state_of c.args.v.now.layout c.args.v.now.words.now) (member_of c.args.w) c.args.n (home_of (state_of c.args.v.now.layout c.args.v.now.words.now) (member_of c.args.w) c.args.k)) (sym c.if-is_some.ensures)
    ∙ mark_in (member_of c.args.w) c.args.k (fam_of c.from-2.result) c.from-2.ensures c.home_of-2.result c.home_of-2.ensures c.in_ok-c.c c.in_ok-c.ensures.ok_part c.args.n
    ∙ inside_yes (state_of c.args.v.now.layout c.args.v.now.words.now) (member_of c.args.w) c.args.n c.in_ok-c.c c.if-contained_in.ensures)

pub returns : goal.returns
returns c =
    sym (held_none (member_of c.args.w) c.args.n (fam_of c.from.result) c.from.ensures c.home_of.result c.home_of.ensures 15 (mark_code (state_of c.args.v.now.layout c.args.v.now.words.now) (member_of c.args.w) c.args.n (home_of (state_of c.args.v.now.layout c.args.v.now.words.now) (member_of c.args.w) c.args.k)) (sym c.if-is_some.ensures)
    ∙ mark_in (member_of c.args.w) c.args.k (fam_of c.from-2.result) c.from-2.ensures c.home_of-2.result c.home_of-2.ensures c.in_ok-c.c c.in_ok-c.ensures.ok_part c.args.n
    ∙ inside_no (state_of c.args.v.now.layout c.args.v.now.words.now) (member_of c.args.w) c.args.n c.in_ok-c.c c.if-contained_in.ensures)
