-- `Spot::after` meets its contract: a newline, a return, or another byte.
-- Assumes nothing.
use Rattle.script.proofs.Standing.{standing}
use Rattle.script.proofs.places.Spot.after.Goals as goal

pub returns-in-10 : goal.returns-in-10
returns-in-10 c = search standing

pub returns-in-13 : goal.returns-in-13
returns-in-13 c = search standing

pub returns-in_default : goal.returns-in_default
returns-in_default c = search standing
