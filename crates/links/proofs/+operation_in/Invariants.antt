use Rattle.links.proofs.+operation_in.Given as goal

abbrev pub decreases-operation_in : goal.decreases-operation_in
decreases-operation_in l = l.depth
