use Rattle.walk.proofs.EraseWalk.{erase_as, place_as}
use Rattle.walk.proofs.EndValues.{can_results, own_results, can_arguments, own_arguments, own_nothing}
use Rattle.walk.proofs.end_own.Goals as goal

pub values_of-requires-clause-p_bound : goal.values_of-requires-clause-p_bound
values_of-requires-clause-p_bound c = place_as c.requires.store c.in-Operation.is c.requires.live

pub end_values-requires : goal.end_values-requires
end_values-requires c = can_results c.args.x.place (erase_as c.in-Operation.is c.requires) c.values_of.ensures

pub returns-in-Operation : goal.returns-in-Operation
returns-in-Operation c = rw c.in-Operation.is (own_results c.args.x.place (erase_as c.in-Operation.is c.requires) c.values_of.ensures c.end_values.ensures)

pub values_of-requires-in-Block-clause-p_bound : goal.values_of-requires-in-Block-clause-p_bound
values_of-requires-in-Block-clause-p_bound c = place_as c.requires.store c.in-Block.is c.requires.live

pub end_values-requires-in-Block : goal.end_values-requires-in-Block
end_values-requires-in-Block c = can_arguments c.args.x.place (erase_as c.in-Block.is c.requires) c.values_of-in-Block.ensures

pub returns-in-Block : goal.returns-in-Block
returns-in-Block c = rw c.in-Block.is (own_arguments c.args.x.place (erase_as c.in-Block.is c.requires) c.values_of-in-Block.ensures c.end_values-in-Block.ensures)

pub returns-in-Region : goal.returns-in-Region
returns-in-Region c = rw c.in-Region.is (own_nothing c.args.x.place (erase_as c.in-Region.is c.requires))
