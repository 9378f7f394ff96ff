-- `limit_asked` meets its contract: nothing is the query, one to three digits are the setting.
-- Assumes nothing.
use Rattle.std.proofs.Common.{rules}
use Rattle.line.proofs.Requesting.{limits}
use Rattle.line.proofs.requests.limit_asked.Goals as goal

pub returns-then-is_empty : goal.returns-then-is_empty
returns-then-is_empty c = search (rules, limits)

pub returns-in-Some : goal.returns-in-Some
returns-in-Some c = search (rules, limits)

pub returns-in-None : goal.returns-in-None
returns-in-None c = search (rules, limits)
