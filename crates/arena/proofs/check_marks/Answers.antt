-- The marks agree with the stamps where each place's does. Assumes nothing.
use Rattle.std.proofs.Common.{◌≡◌, refl, arith, rules, tests}
use Rattle.bits.specs.Map.{bit}
use Rattle.table.specs.Table.{stamp, sign}
use Rattle.seqs.proofs.Says.{says_map}
use Rattle.arena.proofs.Loops.{says_within}
use Rattle.arena.proofs.check_marks.Goals as goal

pub returns : goal.returns
returns c = says_map c.all.result (λ h. record { marks = λ p l. h p (omega arith) l }) (λ A q l m. A.marks q m)
    (says_within _ _ 0 c.args.n (λ p. bit c.args.b.now p ≡ sign (stamp c.args.n c.args.t.now p)) c.all.result refl c.all.ensures.ran (λ x y q k. search (rules, tests)))
