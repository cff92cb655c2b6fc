use mathlib.Core.Path.{sym}
use Prim.Native.Nat.{ℕ, ◌*◌}
use native.Mathlib.Omega.{arith}
use lib.ListN.{length-replicate}
use lib.Seq.{length-take-le}
use Rattle.program.proofs.Printing.{after, few, printed_is}
use Rattle.program.proofs.run.Goals as goal

pub slice_bounds-answers-end : goal.slice_bounds-answers-end
slice_bounds-answers-end c =
    (few c.begin-l.ensures c.script-ran.ensures (length-replicate {A = ℕ} 128 0) (length-replicate {A = ℕ} 12288 0) c.script-ran.auto.answers).0

pub write_answers-requires : goal.write_answers-requires
write_answers-requires c =
    (few c.begin-l.ensures c.script-ran.ensures (length-replicate {A = ℕ} 128 0) (length-replicate {A = ℕ} 12288 0) c.script-ran.auto.answers).1

pub invariant_of-v : goal.invariant_of-v
invariant_of-v c =
    record { sound = ∣ after c.begin-l.ensures c.script-ran.ensures (length-replicate {A = ℕ} 128 0) (length-replicate {A = ℕ} 12288 0) ∣₁ }

pub returns : goal.returns
returns c =
    printed_is c.begin-l.ensures c.script-ran.ensures (length-replicate {A = ℕ} 128 0) (length-replicate {A = ℕ} 12288 0) c.write_answers.ensures c.write_listing.ensures

pub overflow_mul-answers : goal.overflow_mul-answers
overflow_mul-answers c =
    let f = few c.begin-l.ensures c.script-ran.ensures (length-replicate {A = ℕ} 128 0) (length-replicate {A = ℕ} 12288 0) c.script-ran.auto.answers in
    omega (arith, f.0, c.script-ran.auto.answers, length-replicate {A = ℕ} 12288 0)

pub slice_bounds-write_answers-end : goal.slice_bounds-write_answers-end
slice_bounds-write_answers-end c =
    sym (length-take-le (3 * c.script-ran.result.count) c.script-ran.new.answers (few c.begin-l.ensures c.script-ran.ensures (length-replicate {A = ℕ} 128 0) (length-replicate {A = ℕ} 12288 0) c.script-ran.auto.answers).0)
