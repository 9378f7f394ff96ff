-- `can_stand` meets its contract: what no rule drops or raises can stand.
-- Assumes nothing.
use Rattle.line.proofs.Characters.{standings}
use Rattle.line.proofs.arriving.can_stand.Goals as goal

pub returns-in-127 : goal.returns-in-127
returns-in-127 c = search standings

pub returns-in-0-to-32 : goal.returns-in-0-to-32
returns-in-0-to-32 c = search standings

pub returns-in-97-to-122 : goal.returns-in-97-to-122
returns-in-97-to-122 c = search standings

pub returns-in_default : goal.returns-in_default
returns-in_default c = search standings

pub returns-in_default-2 : goal.returns-in_default-2
returns-in_default-2 c = search standings
