-- `rate_asked` meets its contract: the number without the units, and the units.
-- Assumes nothing.
use Rattle.line.proofs.Asking.{asks, sets_rate, no_rate}
use Rattle.line.specs.Arguments.{rate_asked}
use Rattle.line.proofs.arguments.rate_asked.Goals as goal

pub returns-then-n-eq0 : goal.returns-then-n-eq0
unfolding rate_asked
returns-then-n-eq0 c = search asks

pub returns-in-Some : goal.returns-in-Some
returns-in-Some c = search sets_rate

pub returns-in-None : goal.returns-in-None
returns-in-None c = search no_rate
