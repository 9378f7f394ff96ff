-- `stored_rate` meets its contract.
-- Assumes nothing.
use Rattle.command.specs.Queries.{stored_rate}
use Rattle.command.proofs.Asking.{asking}
use Rattle.command.proofs.queries.stored_rate.Goals as goal

pub returns-then-is_flow : goal.returns-then-is_flow
unfolding stored_rate
returns-then-is_flow c = search asking

pub returns-then-is_ramp : goal.returns-then-is_ramp
unfolding stored_rate
returns-then-is_ramp c = search asking

pub returns : goal.returns
unfolding stored_rate
returns c = search asking
