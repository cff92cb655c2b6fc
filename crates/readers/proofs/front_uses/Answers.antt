use Rattle.readers.proofs.Public.{passed_on, not_fronted}
use Rattle.readers.proofs.front_uses.Goals as goal

pub returns-in_err-k : goal.returns-in_err-k
returns-in_err-k c = rw (passed_on c.from_residual.result c.from_residual.ensures) (not_fronted c.in_err-k.ensures)
