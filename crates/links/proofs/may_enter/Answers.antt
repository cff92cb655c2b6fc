use Rattle.std.proofs.Common.{sym, ◌∙◌}
use Rattle.edit.specs.Kinds.{member_of}
use Rattle.places.specs.Members.{inside_code}
use Rattle.context.specs.Kinds.{fam_of}
use Rattle.context.specs.Memory.{state_of}
use Rattle.context.proofs.Viewed.{sound_of}
use Rattle.links.proofs.Sorts.{node<}
use Rattle.links.proofs.Testing.{held_none, inside_yes, inside_no}
use Rattle.links.proofs.may_enter.Goals as goal

pub home_of-requires : goal.home_of-requires
home_of-requires c = node< (member_of c.args.w) c.args.v.now.layout (fam_of c.from.result) c.from.ensures c.args.n (sound_of c.args.v.now.sound) c.requires.live

pub returns-then-contained_in : goal.returns-then-contained_in
returns-then-contained_in c =
    sym (held_none (member_of c.args.w) c.args.n (fam_of c.from.result) c.from.ensures c.home_of.result c.home_of.ensures 15 (inside_code (state_of c.args.v.now.layout c.args.v.now.words.now) (member_of c.args.w) c.args.n c.args.c) (sym c.if-is_some.ensures)
    ∙ inside_yes (state_of c.args.v.now.layout c.args.v.now.words.now) (member_of c.args.w) c.args.n c.args.c c.if-contained_in.ensures)

pub returns : goal.returns
returns c =
    sym (held_none (member_of c.args.w) c.args.n (fam_of c.from.result) c.from.ensures c.home_of.result c.home_of.ensures 15 (inside_code (state_of c.args.v.now.layout c.args.v.now.words.now) (member_of c.args.w) c.args.n c.args.c) (sym c.if-is_some.ensures)
    ∙ inside_no (state_of c.args.v.now.layout c.args.v.now.words.now) (member_of c.args.w) c.args.n c.args.c c.if-contained_in.ensures)
