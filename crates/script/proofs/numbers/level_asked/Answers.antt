-- `level_asked` meets its contract: both numbers are there and fit a byte.
-- Assumes nothing.
use Rattle.script.proofs.Asking.{asked}
use Rattle.script.proofs.numbers.level_asked.Goals as goal

pub returns-in-Some : goal.returns-in-Some
returns-in-Some c = search asked

pub returns-in_default : goal.returns-in_default
returns-in_default c = search asked

pub returns-in_default-2 : goal.returns-in_default-2
returns-in_default-2 c = search asked

pub returns-in_default-3 : goal.returns-in_default-3
returns-in_default-3 c = search asked
