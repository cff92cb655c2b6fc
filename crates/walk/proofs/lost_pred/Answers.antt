use mathlib.Core.Path.{◌∙◌, sym, ap}
use mathlib.Core.Bool.{not}
use Rattle.places.specs.Store.{blk}
use Rattle.context.proofs.Places.{place<}
use Rattle.context.proofs.Rest.{first_here}
use Rattle.context.proofs.Search.{searching, hit, miss, over}
use Rattle.context.proofs.Users.{block_nodes}
use Rattle.context.proofs.Viewed.{sound_of, well_of}
use Rattle.walk.proofs.Search.{lost_at}
use Rattle.walk.proofs.lost_pred.Goals as goal

pub use_set_of-requires-clause-caps : goal.use_set_of-requires-clause-caps
use_set_of-requires-clause-caps c = (well_of c.args.v.now.sound).caps

pub use_set_of-requires-clause-p_bound : goal.use_set_of-requires-clause-p_bound
use_set_of-requires-clause-p_bound c = place< (sound_of c.args.v.now.sound) (blk, c.args.b) c.requires

pub loop-u-init : goal.loop-u-init
loop-u-init c = rw c.into_iter-u-iterator.ensures.into_iter_gives (searching (block_nodes c.use_set_of.ensures c.nodes-u-items.ensures))

pub user_leads-requires : goal.user_leads-requires
user_leads-requires c = (c.requires, (first_here (rw c.in-Some.ensures.steps at c.loop-u.invariant.rest) (sound_of c.args.v.now.sound)).live)

pub returns-then-not-user_leads : goal.returns-then-not-user_leads
returns-then-not-user_leads c = hit (rw c.in-Some.ensures.steps at c.loop-u.invariant) (ap not (sym c.if-not-user_leads.ensures)) ∙ lost_at c.args.v.now.layout c.args.v.now.words.now c.args.b

pub loop-u-preserved : goal.loop-u-preserved
loop-u-preserved c = miss (rw c.in-Some.ensures.steps at c.loop-u.invariant) (ap not (sym c.if-not-user_leads.ensures))

pub returns : goal.returns
returns c = over (rw c.in-None.ensures.steps.0 at c.loop-u.invariant) ∙ lost_at c.args.v.now.layout c.args.v.now.words.now c.args.b
