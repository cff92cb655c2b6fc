use mathlib.Core.Path.{◌∙◌}
use Rattle.context.proofs.Users.{block_live}
use Rattle.context.proofs.Viewed.{sound_of}
use Rattle.walk.proofs.JudgeLaws.{leads_none, leads_some}
use Rattle.walk.proofs.user_leads.Goals as goal

pub leads_to-requires : goal.leads_to-requires
leads_to-requires c = (c.requires.0, block_live (sound_of c.args.v.now.sound) c.block_of.ensures c.in-Some.is)

pub returns-in-Some : goal.returns-in-Some
returns-in-Some c = c.leads_to.ensures ∙ leads_some (sound_of c.args.v.now.sound) c.args.b c.block_of.ensures c.in-Some.is

pub returns-in-None : goal.returns-in-None
returns-in-None c = leads_none (sound_of c.args.v.now.sound) c.args.b c.block_of.ensures c.in-None.is
