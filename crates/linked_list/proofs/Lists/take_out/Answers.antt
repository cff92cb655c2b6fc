use Rattle.std.proofs.Common.{refl}
use Rattle.linked_list.specs.Links.{splice}
use Rattle.linked_list.proofs.Lists.take_out.Goals as goal

pub returns : goal.returns
unfolding splice
returns c = rw (c.slot_after-a.ensures.0, c.slot_before-b.ensures.0, c.next_slot.ensures.0, c.prev_slot.ensures.0, c.home_slot.ensures.0, c.encode.ensures, c.encode-2.ensures, c.encode-3.ensures, c.encode-4.ensures, c.encode-5.ensures) refl
