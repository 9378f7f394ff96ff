-- `units_at_end` meets its contract: the last two letters, if there are two.
-- Assumes nothing.
use Rattle.line.proofs.Asking.{too_few, last_two}
use Rattle.line.proofs.arguments.units_at_end.Goals as goal

pub returns-in_default : goal.returns-in_default
returns-in_default c = search too_few

pub returns : goal.returns
returns c = search last_two
