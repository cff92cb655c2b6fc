-- A place is live exactly where it has a stamp. Assumes nothing.
use Rattle.std.proofs.Common.{rules, tests, ap, ◌∙◌, ◌≡◌, refl, Bool, true, false, ℕ, take, ltb, arith}
use Rattle.std.proofs.lemmas.Bool.{le-ltb}
use Rattle.std.specs.Prelude.{Option, Some, None, is_some}
use Rattle.seqs.specs.Cells.{decoded}
use Rattle.seqs.proofs.Cells.{says_some}
use Rattle.arena.specs.Packed.{Alive}
use Rattle.table.specs.Table.{stamp}
use Rattle.table.proofs.Checks.{says_false}
use Rattle.table.proofs.Live.{live_stamp, stamp_live}
use Rattle.arena.proofs.is_live.Goals as goal

-- any test that fails for nothing and passes for each number
some_by : (r : Option ℕ) {b : Bool} → (r ≡ None → b ≡ false) → ((x : ℕ) → r ≡ Some x → b ≡ true) → b ≡ is_some r
some_by None f g = f refl
some_by (Some x) f g = g x refl

pub returns-then-p-n : goal.returns-then-p-n
returns-then-p-n c =
    says_some _ (some_by c.number_at.result (λ e. search (rules, tests, e)) (λ x e. search (rules, tests, e))) (c.number_at.ensures ∙ ap (λ (k : ℕ). decoded (stamp c.args.n (take k c.args.m.now) c.args.p)) c.front_len.ensures)
    (λ h. stamp_live c.requires.table _ c.if-p-n.true h)
    (λ a. (live_stamp c.requires.table _ a).1)

pub returns-else-p-n : goal.returns-else-p-n
returns-else-p-n c = says_false (ltb c.args.p c.args.n) (le-ltb _ _ c.if-p-n.false) (λ (a : Alive c.args.n c.args.m.now c.args.p). omega (arith, (live_stamp c.requires.table _ a).0))
