-- One edit put to a store: the reply, and the state after it. A refusal leaves the state.
-- Assumes nothing: these are definitions.
use Rattle.std.specs.Prelude.{cond, List, [], ◌∷◌, ℕ, ◌-◌, eqb, length, get_or}
use Rattle.std.proofs.Math.Option.{Option, none, some}
use Rattle.rules.specs.Table.{find}
use Rattle.edit.specs.Record.{Slot, Definition, of_value, of_block, Edit, new_operation, new_block, push_use, insert_use, replace_use, remove_use, pop_use, push_value, insert_value, remove_value, pop_value, link_after, link_before, link_front, link_back, unlink, move_region, move_use, replace_some, retarget_some, drop_uses, erase_operation, erase_block, erase_region, verdict}
use Rattle.edit.specs.Record.{Cut, nothing, broken, whole, cut, Read, refused, asks, read}
use Rattle.rules.specs.History.{History, slot_of}
use Rattle.rules.specs.State.{State, accept}
use Rattle.edit.specs.Answer.{Reply, clean, refuse, found}
use Rattle.rules.specs.Verdict.{sight, verdict_on}
use Rattle.rules.specs.Refusal.{refusal_of, slot_length, values_length}

-- the number of the value or block
unfoldable pub definition_number : Option Definition → ℕ
definition_number none = 0
definition_number (some (of_value n)) = n
definition_number (some (of_block n)) = n

-- A of 6, 7, 11 and 12: the value or block at index i of an operation's list
unfoldable pub taken : Slot → ℕ → ℕ → History → ℕ
taken sl o i h = definition_number (find h.uses (get_or (slot_of sl (find h.operations o)) i 0))

-- A and B of an accepted edit; s is the state before it, k the history after it. New: the birth number; push: the index; remove and pop of an
-- operand or successor: what was taken; drop and erase: B the uses ended, and for erase A the operations freed; verdict: A and its offender B; all
-- else 0
unfoldable pub answer : Edit → State → History → Reply
answer (new_operation fl ts vs bs g) s k = found s.history.born.operations 0
answer (new_block ts) s k = found s.history.born.blocks 0
answer (push_use sl o d) s k = found (slot_length s.history sl o) 0
answer (insert_use sl o i d) s k = clean
answer (replace_use sl o i d) s k = clean
answer (remove_use sl o i) s k = found (taken sl o i s.history) 0
answer (pop_use sl o) s k = found (taken sl o (slot_length s.history sl o - 1) s.history) 0
answer (push_value m o ty) s k = found (values_length s.history m o) 0
answer (insert_value m o i ty) s k = clean
answer (remove_value m o i) s k = clean
answer (pop_value m o) s k = clean
answer (link_after m x mark) s k = clean
answer (link_before m x mark) s k = clean
answer (link_front m x c) s k = clean
answer (link_back m x c) s k = clean
answer (unlink m x) s k = clean
answer (move_region r o) s k = clean
answer (move_use sl a u b) s k = clean
answer (replace_some a b us) s k = clean
answer (retarget_some a b ps) s k = clean
answer (drop_uses t) s k = found 0 (k.ended - s.history.ended)
answer (erase_operation n) s k = found (length s.history.operations - length k.operations) (k.ended - s.history.ended)
answer (erase_block n) s k = found (length s.history.operations - length k.operations) (k.ended - s.history.ended)
answer (erase_region o i) s k = found (length s.history.operations - length k.operations) (k.ended - s.history.ended)
answer (verdict t) s k = verdict_on (sight s) t

-- the reply and the state after an edit that was read
unfoldable pub perform : State → Edit → Reply × State
perform s e =
    let yes-state : State = accept e s in
    let yes-reply : Reply = answer e s yes-state.history in
    let n : ℕ = refusal_of s e in
    cond (eqb n 0) (yes-reply, yes-state) (refuse n, s)

-- the same for a record: 2 to 4, or the edit it asks for
unfoldable pub obey : State → Read → Reply × State
obey s (refused n) = (refuse n, s)
obey s (asks e) = perform s e

-- a single edit: bytes that are one record and no more
unfoldable pub step_cut : State → Cut → Reply × State
step_cut s nothing = (refuse 1, s)
step_cut s broken = (refuse 1, s)
step_cut s (whole kind fs []) = obey s (read kind fs)
step_cut s (whole kind fs (x ∷ rest)) = (refuse 1, s)

-- a single edit, from its bytes
unfoldable pub step : State → List ℕ → Reply × State
step s bytes = step_cut s (cut bytes)
