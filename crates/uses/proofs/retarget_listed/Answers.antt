use Rattle.context.proofs.Cursor.{here}
use Rattle.uses.proofs.Retargeting.{begins, can_move, goes_on, all_passed}
use Rattle.uses.proofs.retarget_listed.Goals as goal

pub loop-next-init : goal.loop-next-init
loop-next-init c = begins c.requires.sound_store c.requires.between c.mark_listed.ensures c.first_of-next.ensures

pub next_of-next-requires : goal.next_of-next-requires
next_of-next-requires c = (here c.loop-next.invariant.sound c.loop-next.invariant.at c.in-Some.is).place

pub retarget_one-requires-clause-can_move : goal.retarget_one-requires-clause-can_move
retarget_one-requires-clause-can_move c = can_move c.loop-next.invariant c.in-Some.is

pub loop-next-smaller : goal.loop-next-smaller
loop-next-smaller c = (goes_on c.loop-next.invariant c.in-Some.is c.requires.d_nonzero c.next_of-next.ensures c.retarget_one.ensures).1

pub loop-next-preserved : goal.loop-next-preserved
loop-next-preserved c = (goes_on c.loop-next.invariant c.in-Some.is c.requires.d_nonzero c.next_of-next.ensures c.retarget_one.ensures).0

pub returns : goal.returns
returns c = all_passed c.loop-next.invariant c.in_default.is
