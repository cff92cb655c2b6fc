use mathlib.Core.Path.{ap, ◌∙◌}
use Rattle.rules.specs.Table.{any}
use Rattle.context.specs.Memory.{state_of}
use Rattle.context.proofs.Numbers.{list_there}
use Rattle.context.proofs.Viewed.{sound_of, well_of}
use Rattle.walk.specs.Tests.{stray_value, marks_in}
use Rattle.walk.proofs.EraseWalk.{place_as}
use Rattle.walk.proofs.Strays.{of_op, of_block, of_region}
use Rattle.walk.proofs.own_strays.Goals as goal

pub values_of-requires-clause-caps : goal.values_of-requires-clause-caps
values_of-requires-clause-caps c = (well_of c.args.v.now.sound).caps

pub values_of-requires-clause-p_bound : goal.values_of-requires-clause-p_bound
values_of-requires-clause-p_bound c = place_as (sound_of c.args.v.now.sound) c.in-Operation.is c.requires.live

pub use_set_of-requires-clause-caps : goal.use_set_of-requires-clause-caps
use_set_of-requires-clause-caps c = (well_of c.args.v.now.sound).caps

pub use_set_of-requires-clause-p_bound : goal.use_set_of-requires-clause-p_bound
use_set_of-requires-clause-p_bound c = place_as (sound_of c.args.v.now.sound) c.in-Block.is c.requires.live

pub values_of-requires-else-set_strays-clause-caps : goal.values_of-requires-else-set_strays-clause-caps
values_of-requires-else-set_strays-clause-caps c = (well_of c.args.v.now.sound).caps

pub values_of-requires-else-set_strays-clause-p_bound : goal.values_of-requires-else-set_strays-clause-p_bound
values_of-requires-else-set_strays-clause-p_bound c = place_as (sound_of c.args.v.now.sound) c.in-Block.is c.requires.live

pub returns-in-Operation : goal.returns-in-Operation
returns-in-Operation c = rw c.in-Operation.is (c.values_stray.ensures ∙ of_op (sound_of c.args.v.now.sound) (marks_in c.args.s.now) c.values_of.ensures)

pub returns-then-set_strays : goal.returns-then-set_strays
returns-then-set_strays c = rw c.in-Block.is (c.if-set_strays.true ∙ of_block (sound_of c.args.v.now.sound) (marks_in c.args.s.now) c.use_set_of.ensures c.if-set_strays.ensures)

pub returns-else-set_strays : goal.returns-else-set_strays
returns-else-set_strays c =
    rw c.in-Block.is (c.values_stray-else-set_strays.ensures ∙ ap (any (stray_value (state_of c.args.v.now.layout c.args.v.now.words.now) (marks_in c.args.s.now))) (list_there c.values_of-else-set_strays.ensures c.args.v.now.words.now) ∙ of_block (sound_of c.args.v.now.sound) (marks_in c.args.s.now) c.use_set_of.ensures c.if-set_strays.ensures)

pub returns-in-Region : goal.returns-in-Region
returns-in-Region c = rw c.in-Region.is (of_region (sound_of c.args.v.now.sound) (marks_in c.args.s.now) c.args.x.place)
