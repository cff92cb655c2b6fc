use mathlib.Core.Path.{◌∙◌}
use Prim.Native.Nat.{ℕ, ◌<◌}
use Rattle.std.proofs.Common.{rules}
use Rattle.places.specs.Store.{op, blk, usg, Live}
use Rattle.context.specs.Memory.{state_of}
use Rattle.context.proofs.Places.{place<}
use Rattle.context.proofs.Viewed.{sound_of, well_of}
use Rattle.walk.proofs.Search.{names?, names_by, names_is}
use Rattle.walk.proofs.names_block.Goals as goal

pub use_set_of-uses_of_block-requires-clause-caps : goal.use_set_of-uses_of_block-requires-clause-caps
use_set_of-uses_of_block-requires-clause-caps c = (well_of c.args.v.now.sound).caps

pub use_set_of-uses_of_block-requires-clause-p_bound : goal.use_set_of-uses_of_block-requires-clause-p_bound
use_set_of-uses_of_block-requires-clause-p_bound c = place< (sound_of c.args.v.now.sound) (blk, c.args.b) c.requires.0

pub slots_of-requires-clause-caps : goal.slots_of-requires-clause-caps
slots_of-requires-clause-caps c = (well_of c.args.v.now.sound).caps

pub slots_of-requires-clause-o_bound : goal.slots_of-requires-clause-o_bound
slots_of-requires-clause-o_bound c = place< (sound_of c.args.v.now.sound) (op, c.args.o) c.requires.1

pub any_of-requires-clause-callable : goal.any_of-requires-clause-callable
any_of-requires-clause-callable c =
    let inside : (q : ℕ) → Live (state_of c.args.v.now.layout c.args.v.now.words.now) (usg, q) → q < c.args.v.now.layout.uses = λ q v. place< (sound_of c.args.v.now.sound) (usg, q) v in
    search (inside, rules)

pub returns : goal.returns
returns c = c.any_of.ensures (names? (state_of c.args.v.now.layout c.args.v.now.words.now) c.args.b) (λ q v r w. search (w, names_by c.use_set_of-uses_of_block.ensures c.args.v.now.words.now q, rules)) ∙ names_is c.slots_of.ensures c.args.v.now.words.now c.args.b
