use Rattle.std.proofs.Common.{ℕ, ◌+◌, ◌<◌, get_or}
use Rattle.edit.specs.Kinds.{slot_of}
use Rattle.edit.specs.Taken.{fields_of}
use Rattle.places.specs.Roles.{def_kind}
use Rattle.context.specs.Memory.{state_of}
use Rattle.creation.specs.Made.{uses_from, Named}
use Rattle.creation.proofs.test_names.Given as goal

abbrev pub invariant-loop-j : goal.invariant-loop-j
invariant-loop-j l = (i : ℕ) → i < l.j → Named (state_of l.v.layout l.v.words.now) (def_kind (slot_of l.sl)) (get_or (fields_of l.rec) (uses_from l.fn.n (slot_of l.sl) + i) 0)
