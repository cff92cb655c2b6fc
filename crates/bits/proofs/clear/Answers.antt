-- A cleared map. Assumes nothing.
use Rattle.std.proofs.Common.{rules}
use Rattle.std.proofs.lemmas.List.{places}
use Rattle.bits.proofs.Digits.{all_clear}
use Rattle.bits.proofs.clear.Goals as goal

pub returns : goal.returns
returns c = record { long = search (rules, places); none = all_clear _ (λ k l. search (rules, places)) }
