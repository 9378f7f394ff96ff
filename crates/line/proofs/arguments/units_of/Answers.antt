-- `units_of` meets its contract: two letters, one for the volume and one for the time.
-- Assumes nothing.
use Rattle.line.proofs.Asking.{units}
use Rattle.line.proofs.arguments.units_of.Goals as goal

pub returns-in-85-eq77 : goal.returns-in-85-eq77
returns-in-85-eq77 c = search units

pub returns-in-77-eq77 : goal.returns-in-77-eq77
returns-in-77-eq77 c = search units

pub returns-in-85-eq72 : goal.returns-in-85-eq72
returns-in-85-eq72 c = search units

pub returns-in-77-eq72 : goal.returns-in-77-eq72
returns-in-77-eq72 c = search units

pub returns-in_default : goal.returns-in_default
returns-in_default c = search units

pub returns-in_default-2 : goal.returns-in_default-2
returns-in_default-2 c = search units

pub returns-in_default-3 : goal.returns-in_default-3
returns-in_default-3 c = search units
