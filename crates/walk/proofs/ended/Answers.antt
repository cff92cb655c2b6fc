use mathlib.Core.Path.{◌∙◌}
use Rattle.places.specs.Store.{reg}
use Rattle.context.proofs.Places.{place<}
use Rattle.context.proofs.Viewed.{sound_of}
use Rattle.walk.proofs.JudgeLaws.{region_in_live, well_first, well_second}
use Rattle.walk.proofs.ended.Goals as goal

pub home_of-requires : goal.home_of-requires
home_of-requires c = place< (sound_of c.args.v.now.sound) (reg, c.args.r) c.requires.1

pub may_lack-requires : goal.may_lack-requires
may_lack-requires c = region_in_live (sound_of c.args.v.now.sound) c.args.r c.home_of.ensures c.unwrap-o.ensures

pub returns-then-may_lack : goal.returns-then-may_lack
returns-then-may_lack c =
    c.if-may_lack.true ∙ well_first (sound_of c.args.v.now.sound) c.args.b c.args.r c.home_of.ensures c.unwrap-o.ensures c.if-may_lack.ensures

pub returns-else-may_lack : goal.returns-else-may_lack
returns-else-may_lack c =
    c.ends_well.ensures ∙ well_second (sound_of c.args.v.now.sound) c.args.b c.args.r c.home_of.ensures c.unwrap-o.ensures c.if-may_lack.ensures
