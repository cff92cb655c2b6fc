use Rattle.std.proofs.Common.{◌≡◌, ◌∙◌}
use Rattle.linked_list.specs.Links.{lists, cont_of}
use Rattle.linked_list.proofs.Getters.{cells, home_is}
use Rattle.linked_list.proofs.Lists.get_container.Goals as goal
use Rattle.linked_list.proofs.Lists.get_container.Goals.{After-decode}

found : (c : After-decode) → c.decode.result ≡ cont_of c.args.n (lists c.args.self.nc c.args.self.nn c.args.s.now)
found c = rw c.home_slot.ensures.0 at c.decode.ensures ∙ (cells c.requires.linked c.args.n c.requires.n_lt_nn).cont

pub returns-clause-container : goal.returns-clause-container
returns-clause-container c = found (goal.at.returns-clause-container c).After-decode

pub returns-clause-home : goal.returns-clause-home
returns-clause-home c = home_is c.requires.linked c.args.n c.requires.n_lt_nn (found (goal.at.returns-clause-home c).After-decode)
