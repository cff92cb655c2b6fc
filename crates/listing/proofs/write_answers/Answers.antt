use Rattle.listing.proofs.Nodes.{no_lines, answers_turn, reply_is}
use Rattle.listing.proofs.write_answers.Goals as goal

pub loop-i-init : goal.loop-i-init
loop-i-init c = no_lines c.args.answers.now

pub loop-i-preserved : goal.loop-i-preserved
loop-i-preserved c =
    answers_turn c.args.answers.now c.loop-i.i c.loop-i.invariant (reply_is c.args.answers.now c.loop-i.i _ c.as_chunks.ensures.front c.as_chunks.ensures.front_len c.loop-i-test.true) c.put_answer.ensures
