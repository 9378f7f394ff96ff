-- `pause_asked` meets its contract: seconds, or else tenths.
-- Assumes nothing.
use Rattle.line.proofs.Behind.{pauses}
use Rattle.line.proofs.functions.pause_asked.Goals as goal

pub returns-in-Some : goal.returns-in-Some
returns-in-Some c = search pauses

pub returns-in-None : goal.returns-in-None
returns-in-None c = search pauses
