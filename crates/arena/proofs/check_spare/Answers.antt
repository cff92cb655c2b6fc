-- No mark is spare where none is in the map, and past the map there is none. Assumes nothing.
use Rattle.std.proofs.Common.{◌≡◌, refl, ◌*◌, length, ⊎_elim, rules, tests}
use Rattle.bits.specs.Map.{bit}
use Rattle.bits.proofs.Digits.{le_or_lt}
use Rattle.seqs.proofs.Says.{says_map}
use Rattle.arena.proofs.Loops.{says_within, none_past}
use Rattle.arena.proofs.check_spare.Goals as goal

pub returns : goal.returns
returns c = let b = c.args.b.now in let n = c.args.n in
    says_map c.all.result (λ h. record { spare = λ p l. ⊎_elim (none_past b p) (h p l) (le_or_lt (32 * length b) p) }) (λ S q l m. S.spare q l)
    (says_within _ _ n (32 * length b) (λ p. bit b p ≡ 0) c.all.result refl c.all.ensures.ran (λ x y q k. search (rules, tests)))
