-- `clear_asked` meets its contract: a direction alone.
-- Assumes nothing.
use Rattle.line.proofs.Asking.{clearings}
use Rattle.line.proofs.arguments.clear_asked.Goals as goal

pub returns-in-Some-To : goal.returns-in-Some-To
returns-in-Some-To c = search clearings

pub returns-in_default : goal.returns-in_default
returns-in_default c = search clearings

pub returns-in_default-2 : goal.returns-in_default-2
returns-in_default-2 c = search clearings
