use Rattle.program.proofs.Printing.{accepted, begun}
use Rattle.program.proofs.begin.Goals as goal

pub unwrap-requires : goal.unwrap-requires
unwrap-requires c = accepted c.requires c.start.result c.start.ensures

pub returns : goal.returns
returns c = begun c.requires c.start.ensures
