use mathlib.Core.Path.{sym}
use Rattle.places.specs.Store.{op}
use Rattle.context.proofs.Places.{place<}
use Rattle.context.proofs.Viewed.{sound_of}
use Rattle.walk.proofs.JudgeLaws.{no_end, good_end, early_end}
use Rattle.walk.specs.Judge.{fault_reply}
use Rattle.walk.proofs.judge_end.Goals as goal
use Rattle.walk.proofs.judge_end.Goals.{else-is_terminator-via-then-is_terminator+else-is_some, else-is_terminator-via-else-is_terminator}

pub next_of-requires : goal.next_of-requires
next_of-requires c = place< (sound_of c.args.v.now.sound) (op, c.args.o) c.requires

pub returns-then-is_some : goal.returns-then-is_some
unfolding fault_reply
returns-then-is_some c = early_end (sound_of c.args.v.now.sound) c.args.o c.number_of.result c.next_of.ensures (sym c.if-is_terminator.ensures) (sym c.if-is_some.ensures) c.number_of.ensures

pub returns : goal.returns
returns c =
    elim c.else-is_terminator.branch [
      | else-is_terminator-via-then-is_terminator+else-is_some w ↦ good_end (sound_of c.args.v.now.sound) c.args.o w.next_of.ensures (sym w.if-is_terminator.ensures) (sym w.if-is_some.ensures)
      | else-is_terminator-via-else-is_terminator w ↦ no_end (sound_of c.args.v.now.sound) c.args.o (sym w.if-is_terminator.ensures)
    ]
