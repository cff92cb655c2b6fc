-- A sound store has the layout that its header names, and its listing is its answers' lines and then the store's. Assumes nothing.
use Rattle.std.proofs.Common.{rules, refl, subst, List, ℕ, ◌++◌, ◌/◌, ◌≤◌, length, arith}
use Rattle.rules.specs.Listing.{edit_lines, listing}
use Rattle.context.specs.declared.Layout.{Layout}
use Rattle.context.specs.Checked.{Headed}
use Rattle.context.specs.Performed.{abs}
use Rattle.context.proofs.Checking.{headed}
use Rattle.script.specs.Calls.{SoundWords}
use Rattle.listing.specs.Writer.{Written}
use Rattle.listing.specs.Lines.{replies_from}
use Rattle.listing.proofs.Pens.{and_then}
use Rattle.ffi.specs.Called.{Listed, most_answers}
use Rattle.ffi.proofs.recipe_listing.Goals as goal

listed : {m answers out out' : List ℕ} {l : Layout} {n : ℕ} → Headed l m → SoundWords m → length answers / 3 ≤ most_answers → Written (edit_lines 0 (replies_from answers 0 (length answers / 3)) ++ listing (abs l m)) out 0 out' n → Listed m answers out out' n 0
listed {m} {answers} {out} {out'} {l} {n} H S h w =
    record {
      unsound = λ k. absurd (k S);
      many = λ _ k. let f : ⊥ = omega (arith, h, k) in absurd f;
      code = λ _ _. refl;
      text = λ _ _. subst (λ (j : Layout). Written (edit_lines 0 (replies_from answers 0 (length answers / 3)) ++ listing (abs j m)) out 0 out' n) (headed H) w;
    }

pub invariant_of-v : goal.invariant_of-v
invariant_of-v c = record { sound = ∣ rw (headed c.layout_of.ensures) c.if-not-check.ensures ∣₁ }

pub returns : goal.returns
returns c =
    let w = and_then c.write_answers.ensures c.write_listing.ensures in
    listed c.layout_of.ensures c.if-not-check.ensures c.if-answers.false (record { is = search (w.is, w.same, rules) })
