use mathlib.Core.Path.{refl}
use Prim.Native.Nat.{◌≤◌}
use lib.ListN.{length}
use Rattle.std.proofs.Common.{rules, tests}
use Rattle.linked_list.specs.Links.{row}
use Rattle.seqs.proofs.Each.{says_all}
use Rattle.sound_parts.proofs.check_short.Goals as goal

pub returns : goal.returns
returns c = let a = c.args.rows.now in says_all _ _ a.lists.nc (λ x. length (row a.lists.nc a.lists.nn a.words.now x) ≤ 64) c.all.result refl c.all.ensures.ran (λ x b q k. search (rules, tests))
