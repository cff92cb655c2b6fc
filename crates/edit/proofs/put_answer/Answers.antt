-- An answer's three numbers are written and the other words kept. Assumes nothing.
use Rattle.std.proofs.Common.{◌≡◌, sym, ap, subst, ◌∙◌, ℕ}
use Rattle.edit.specs.Answer.{Reply, Put, numbers, numbers_of, found, refuse}
use Rattle.edit.proofs.Answers.{put_three}
use Rattle.edit.proofs.put_answer.Goals as goal
use Rattle.edit.proofs.put_answer.Goals.{in-Ok, in-Err}

-- the three words as a reply
three : ℕ × ℕ × ℕ → Reply
three t = numbers t.0 t.1 t.2

pub returns : goal.returns
unfolding numbers_of found refuse three
returns c =
    let t = c.match-answer.refusal in
    let is : three t ≡ numbers_of c.args.answer =
    elim c.match-answer.branch [
      | in-Ok w ↦ ap three w.refusal-is ∙ sym (ap numbers_of w.in-Ok.is)
      | in-Err w ↦ ap three w.refusal-is ∙ ap (λ (n : ℕ). numbers n 0 0) w.from.ensures ∙ sym (ap numbers_of w.in-Err.is)
    ]
    in
    subst (Put _ _ _) is (put_three c.args.out.now c.args.k t.0 t.1 t.2 c.requires)
