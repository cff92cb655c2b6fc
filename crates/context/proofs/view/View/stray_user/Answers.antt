use mathlib.Core.Bool.{not}
use Rattle.std.proofs.Common.{◌∙◌, ap, sym}
use Rattle.places.specs.Store.{blk}
use Rattle.context.proofs.Places.{place<}
use Rattle.context.proofs.Rest.{first_here}
use Rattle.context.proofs.Search.{searching, hit, miss, over}
use Rattle.context.proofs.Users.{astray, stray_at, block_nodes}
use Rattle.context.proofs.Viewed.{sound_of}
use Rattle.context.proofs.view.View.stray_user.Goals as goal

pub use_set_of-requires-clause-p_bound : goal.use_set_of-requires-clause-p_bound
use_set_of-requires-clause-p_bound c = place< (sound_of c.args.self.now.sound) (blk, c.args.b) c.requires

pub nodes-u-items-requires : goal.nodes-u-items-requires
nodes-u-items-requires c = c.use_set_of.ensures.inside

pub loop-u-init : goal.loop-u-init
loop-u-init c = rw c.into_iter-u-iterator.ensures.into_iter_gives (searching (block_nodes c.use_set_of.ensures c.nodes-u-items.ensures))

pub block_of-requires : goal.block_of-requires
block_of-requires c = (first_here (rw c.in-Some.ensures.steps at c.loop-u.invariant.rest) (sound_of c.args.self.now.sound)).live

pub returns-then-is_none : goal.returns-then-is_none
returns-then-is_none c =
    hit (rw c.in-Some.ensures.steps at c.loop-u.invariant) (sym (astray c.block_of.ensures) ∙ ap not c.if-is_none.ensures)
    ∙ stray_at c.args.self.now.layout c.args.self.now.words.now c.args.b

pub loop-u-preserved : goal.loop-u-preserved
loop-u-preserved c =
    miss (rw c.in-Some.ensures.steps at c.loop-u.invariant) (sym (astray c.block_of.ensures) ∙ ap not c.if-is_none.ensures)

pub returns : goal.returns
returns c = over (rw c.in-None.ensures.steps.0 at c.loop-u.invariant) ∙ stray_at c.args.self.now.layout c.args.self.now.words.now c.args.b
