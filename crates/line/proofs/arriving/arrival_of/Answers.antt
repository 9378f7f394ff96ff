-- `arrival_of` meets its contract: each range of bytes has one fate.
-- Assumes nothing.
use Rattle.line.proofs.Characters.{arrivals}
use Rattle.line.proofs.arriving.arrival_of.Goals as goal

pub returns-in-13 : goal.returns-in-13
returns-in-13 c = search arrivals

pub returns-in-127 : goal.returns-in-127
returns-in-127 c = search arrivals

pub returns-in-0-to-32 : goal.returns-in-0-to-32
returns-in-0-to-32 c = search arrivals

pub returns-in-97-to-122 : goal.returns-in-97-to-122
returns-in-97-to-122 c = search arrivals

pub returns-in_default : goal.returns-in_default
returns-in_default c = search arrivals

pub returns-in_default-2 : goal.returns-in_default-2
returns-in_default-2 c = search arrivals
