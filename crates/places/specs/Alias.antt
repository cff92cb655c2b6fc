-- The rules' names for what has an inside and for a store, where the places' own names stand beside them. Assumes nothing.
use Rattle.edit.specs.Record as R
use Rattle.rules.specs.State as S

abbrev pub RThing : Type 0
RThing = R.Thing

abbrev pub RState : Type 0
RState = S.State
