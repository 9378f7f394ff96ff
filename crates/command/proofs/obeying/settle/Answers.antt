-- `settle` meets its contract.
-- Assumes nothing.
use Rattle.command.specs.Obeying.{settle}
use Rattle.command.proofs.Deciding.{obeying, unpaused}
use borrow.Enum.Refused.{opened}
use Rattle.command.proofs.obeying.settle.Goals as goal

pub returns-in-Paused : goal.returns-in-Paused
returns-in-Paused c = search obeying

pub returns : goal.returns
unfolding settle
returns c = let run = c.args.run in unpaused run run.mode (opened c.in_default.in_default-own.keys2)
