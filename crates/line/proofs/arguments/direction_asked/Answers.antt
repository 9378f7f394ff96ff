-- `direction_asked` meets its contract: nothing is the query, a direction or REV the setting.
-- Assumes nothing.
use Rattle.std.proofs.Common.{rules}
use Rattle.line.proofs.Asking.{asks, directions}
use Rattle.line.specs.Arguments.{direction_asked}
use Rattle.line.proofs.arguments.direction_asked.Goals as goal

pub returns-then-is_empty : goal.returns-then-is_empty
unfolding direction_asked
returns-then-is_empty c = search (rules, asks)

pub returns-in-Some-To : goal.returns-in-Some-To
returns-in-Some-To c = search (rules, directions)

pub returns-in-Some-Reverse : goal.returns-in-Some-Reverse
returns-in-Some-Reverse c = search (rules, directions)

pub returns-in-None : goal.returns-in-None
returns-in-None c = search (rules, directions)
