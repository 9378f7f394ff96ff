-- `command_of` meets its contract: nothing is the query for the status, else the name tells what its argument is asked.
-- Assumes nothing.
use Rattle.std.proofs.Common.{rules}
use Rattle.line.proofs.Behind.{commands}
use Rattle.line.proofs.commands.command_of.Goals as goal

pub returns-then-is_empty : goal.returns-then-is_empty
returns-then-is_empty c = search (rules, commands)

pub returns-in-Some : goal.returns-in-Some
returns-in-Some c = search (rules, commands)

pub returns-in-None : goal.returns-in-None
returns-in-None c = search (rules, commands)
