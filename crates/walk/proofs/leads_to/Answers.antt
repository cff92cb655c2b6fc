use mathlib.Core.Path.{ap, ap₂, ◌∙◌}
use mathlib.Core.Bool.{Bool, ◌&&◌}
use Rattle.places.specs.Store.{op, blk}
use Rattle.places.specs.Verdict.{place_names_block}
use Rattle.context.proofs.Places.{place<}
use Rattle.context.proofs.Viewed.{sound_of}
use Rattle.context.specs.Memory.{state_of}
use Rattle.walk.proofs.JudgeLaws.{last_some, leads_empty, leads_last}
use Rattle.walk.proofs.leads_to.Goals as goal

pub last_of-requires : goal.last_of-requires
last_of-requires c = place< (sound_of c.args.v.now.sound) (blk, c.args.p) c.requires.1

pub is_terminator-requires : goal.is_terminator-requires
is_terminator-requires c = (last_some (sound_of c.args.v.now.sound) c.args.p c.last_of.ensures c.in-Some.is).1

pub names_block-requires : goal.names_block-requires
names_block-requires c = (c.requires.0, (last_some (sound_of c.args.v.now.sound) c.args.p c.last_of.ensures c.in-Some.is).1)

pub returns-then-is_terminator : goal.returns-then-is_terminator
returns-then-is_terminator c =
    ap₂ (λ (a b : Bool). a && b) c.if-is_terminator.ensures c.names_block.ensures ∙ leads_last (sound_of c.args.v.now.sound) c.args.b c.args.p c.last_of.ensures c.in-Some.is

pub returns-else-is_terminator : goal.returns-else-is_terminator
returns-else-is_terminator c =
    c.if-is_terminator.false ∙ ap (λ (a : Bool). a && place_names_block (state_of c.args.v.now.layout c.args.v.now.words.now) (blk, c.args.b) (op, c.in-Some.o)) c.if-is_terminator.ensures ∙ leads_last (sound_of c.args.v.now.sound) c.args.b c.args.p c.last_of.ensures c.in-Some.is

pub returns-in-None : goal.returns-in-None
returns-in-None c = leads_empty (sound_of c.args.v.now.sound) c.args.b c.args.p c.last_of.ensures c.in-None.is
