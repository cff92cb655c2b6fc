-- What the cells have in common is full exactly where each is. Assumes nothing.
use Rattle.std.proofs.Common.{◌≡◌, fold, bit_and, arith, rules}
use Rattle.std.proofs.lemmas.Bool.{eqb-true, eq-eqb}
use Rattle.bits.proofs.Digits.{full_from_fold, fold_from_full}
use Rattle.bits.proofs.is_full.Goals as goal

pub returns : goal.returns
returns c =
    let same : c.fold.result ≡ fold bit_and 4294967295 c.args.cells.now = search rules in (
      λ t. full_from_fold c.args.cells.now 4294967295 (λ k. omega (arith, c.type_inv.cells k)) (omega (arith, eqb-true _ _ t)),
      λ F. eq-eqb _ _ (omega (arith, fold_from_full c.args.cells.now F)),
    )
