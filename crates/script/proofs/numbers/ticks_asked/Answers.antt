-- `ticks_asked` meets its contract: 1 to the most.
-- Assumes nothing.
use Rattle.script.proofs.Asking.{asked}
use Rattle.script.proofs.numbers.ticks_asked.Goals as goal

pub returns-in-1-to-10000000 : goal.returns-in-1-to-10000000
returns-in-1-to-10000000 c = search asked

pub returns-in_default : goal.returns-in_default
returns-in_default c = search asked

pub returns-in_default-2 : goal.returns-in_default-2
returns-in_default-2 c = search asked
