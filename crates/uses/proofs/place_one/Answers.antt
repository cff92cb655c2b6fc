use Rattle.uses.specs.Some.{PlacedOne}
use Rattle.uses.proofs.Placing.{stays}
use Rattle.uses.proofs.place_one.Goals as goal

pub returns-in-Some : goal.returns-in-Some
returns-in-Some c =
    let h = c.in-Some.ensures in PlacedOne.moved c.in-Some.u h.0 h.1 h.2 c.move_use.ensures

pub returns-in_default : goal.returns-in_default
returns-in_default c = stays c.requires.sound_store c.in_default.ensures
