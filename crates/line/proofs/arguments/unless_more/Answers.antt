-- `unless_more` meets its contract.
-- Assumes nothing.
use Rattle.std.proofs.Common.{rules}
use Rattle.line.proofs.Asking.{takes_none, one_too_many}
use Rattle.line.proofs.arguments.unless_more.Goals as goal

pub returns-then-is_empty : goal.returns-then-is_empty
returns-then-is_empty c = search (rules, takes_none)

pub returns-else-is_empty : goal.returns-else-is_empty
returns-else-is_empty c = search (rules, one_too_many)
