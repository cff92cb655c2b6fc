-- Each kind's edit is the one that its arm carries out. Assumes nothing.
use Rattle.std.proofs.Common.{rules}
use Rattle.edit.specs.Taken.{fields_of}
use Rattle.edit.proofs.ByKind.{by_push_use, by_insert_use, by_replace_use, by_remove_use, by_pop_use, by_push_value, by_insert_value, by_remove_value, by_pop_value, by_link_after, by_link_before, by_link_front, by_link_back, by_unlink, by_move_region, by_move_use, by_verdict, by_erase_region}
use Rattle.edits.proofs.ByKind.{same_edit, carried, drop_carried, by_erase}
use Rattle.edits.proofs.Zeros.{to_walk, same_zeros}
use Rattle.edits.proofs.perform.Goals as goal

pub new_operation-requires-clause-passed : goal.new_operation-requires-clause-passed
new_operation-requires-clause-passed c = rw c.in-NewOperation.is at c.requires.passed

pub new_block-requires-clause-passed : goal.new_block-requires-clause-passed
new_block-requires-clause-passed c = rw c.in-NewBlock.is at c.requires.passed

pub erase-requires-clause-scratch : goal.erase-requires-clause-scratch
erase-requires-clause-scratch c = to_walk c.requires.scratch

pub erase_region-requires-clause-scratch : goal.erase_region-requires-clause-scratch
erase_region-requires-clause-scratch c = to_walk c.requires.scratch

pub returns-in-NewOperation : goal.returns-in-NewOperation
returns-in-NewOperation c = carried (cc c.in-NewOperation.is) c.new_operation.ensures

pub returns-in-NewBlock : goal.returns-in-NewBlock
returns-in-NewBlock c = carried (cc c.in-NewBlock.is) c.new_block.ensures

pub returns-in-ReplaceSome : goal.returns-in-ReplaceSome
returns-in-ReplaceSome c = carried (cc c.in-ReplaceSome.is) c.replace_some.ensures

pub returns-in-RetargetSome : goal.returns-in-RetargetSome
returns-in-RetargetSome c = carried (cc c.in-RetargetSome.is) c.retarget_some.ensures

pub returns-in-PushUse : goal.returns-in-PushUse
returns-in-PushUse c = carried (cc (by_push_use (fields_of c.args.rec.now) c.in-PushUse.slot)) c.push_use.ensures

pub returns-in-InsertUse : goal.returns-in-InsertUse
returns-in-InsertUse c = carried (cc (by_insert_use (fields_of c.args.rec.now) c.in-InsertUse.slot)) c.insert_use.ensures

pub returns-in-ReplaceUse : goal.returns-in-ReplaceUse
returns-in-ReplaceUse c = carried (cc (by_replace_use (fields_of c.args.rec.now) c.in-ReplaceUse.slot)) c.replace_use.ensures

pub returns-in-RemoveUse : goal.returns-in-RemoveUse
returns-in-RemoveUse c = carried (cc (by_remove_use (fields_of c.args.rec.now) c.in-RemoveUse.slot)) c.remove_use.ensures

pub returns-in-PopUse : goal.returns-in-PopUse
returns-in-PopUse c = carried (cc (by_pop_use (fields_of c.args.rec.now) c.in-PopUse.slot)) c.pop_use.ensures

pub returns-in-PushValue : goal.returns-in-PushValue
returns-in-PushValue c = carried (cc (by_push_value (fields_of c.args.rec.now) c.in-PushValue.owner)) c.push_value.ensures

pub returns-in-InsertValue : goal.returns-in-InsertValue
returns-in-InsertValue c = carried (cc (by_insert_value (fields_of c.args.rec.now) c.in-InsertValue.owner)) c.insert_value.ensures

pub returns-in-RemoveValue : goal.returns-in-RemoveValue
returns-in-RemoveValue c = carried (cc (by_remove_value (fields_of c.args.rec.now) c.in-RemoveValue.owner)) c.remove_value.ensures

pub returns-in-PopValue : goal.returns-in-PopValue
returns-in-PopValue c = carried (cc (by_pop_value (fields_of c.args.rec.now) c.in-PopValue.owner)) c.pop_value.ensures

pub returns-in-LinkAfter : goal.returns-in-LinkAfter
returns-in-LinkAfter c = carried (cc (by_link_after (fields_of c.args.rec.now) c.in-LinkAfter.member)) c.link_after.ensures

pub returns-in-LinkBefore : goal.returns-in-LinkBefore
returns-in-LinkBefore c = carried (cc (by_link_before (fields_of c.args.rec.now) c.in-LinkBefore.member)) c.link_before.ensures

pub returns-in-LinkFront : goal.returns-in-LinkFront
returns-in-LinkFront c = carried (cc (by_link_front (fields_of c.args.rec.now) c.in-LinkFront.member)) c.link_front.ensures

pub returns-in-LinkBack : goal.returns-in-LinkBack
returns-in-LinkBack c = carried (cc (by_link_back (fields_of c.args.rec.now) c.in-LinkBack.member)) c.link_back.ensures

pub returns-in-Unlink : goal.returns-in-Unlink
returns-in-Unlink c = carried (cc (by_unlink (fields_of c.args.rec.now) c.in-Unlink.member)) c.unlink_from.ensures

pub returns-in-MoveRegion : goal.returns-in-MoveRegion
returns-in-MoveRegion c = carried (cc (by_move_region (fields_of c.args.rec.now))) c.move_region.ensures

pub returns-in-MoveUse : goal.returns-in-MoveUse
returns-in-MoveUse c = carried (cc (by_move_use (fields_of c.args.rec.now) c.in-MoveUse.slot)) c.move_use_to.ensures

pub returns-in-DropUses : goal.returns-in-DropUses
returns-in-DropUses c = drop_carried (fields_of c.args.rec.now) c.in-DropUses.thing c.in-DropUses.is c.drop_uses.ensures (λ e. search (rules, e)) (λ e. search (rules, e)) (λ e. search (rules, e))

pub returns-in-Verdict : goal.returns-in-Verdict
returns-in-Verdict c = carried (cc (by_verdict (fields_of c.args.rec.now) c.in-Verdict.thing)) c.verdict.ensures

pub returns-in-Erase : goal.returns-in-Erase
returns-in-Erase c =
    record { performed = same_edit (cc (by_erase (fields_of c.args.rec.now) c.in-Erase.member)) c.erase.ensures.performed; scratch = same_zeros c.requires.scratch (search rules) c.erase.ensures.scratch_2 }

pub returns-in-EraseRegion : goal.returns-in-EraseRegion
returns-in-EraseRegion c =
    record { performed = same_edit (cc (by_erase_region (fields_of c.args.rec.now))) c.erase_region.ensures.performed; scratch = same_zeros c.requires.scratch (search rules) c.erase_region.ensures.scratch_2 }
