-- What the published verification tests of uses and definitions, and the verdicts leave out. Assumes nothing: these are definitions.
use Rattle.std.specs.Prelude.{◌≡◌}
use Rattle.std.proofs.Math.Option.{some}
use Rattle.seqs.specs.Seqs.{count}
use Rattle.places.specs.Store.{Role, use_sets, Thing, Thing-dec, State, Live}

-- of an operand or successor u: the definition that it names is live and lists it once (s is what its use set is to the definition)
pub record IsUseOfItsDefinition (P : State) (s : Role) (u : Thing) : Type 0 where
  pub definition : Thing
  pub live : Live P definition
  pub names : P.own u use_sets ≡ some (s, definition)
  pub lists : count Thing-dec u (P.list definition s) ≡ 1

-- of a use u that the definition d lists: it is found among the operands or successors of a live operation (r says which), once, and names d
pub record PointsBack (P : State) (r s : Role) (d u : Thing) : Type 0 where
  pub user : Thing
  pub live : Live P user
  pub found : count Thing-dec u (P.list user r) ≡ 1
  pub names : P.own u use_sets ≡ some (s, d)
