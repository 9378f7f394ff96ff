-- `ask_rate` meets its contract.
-- Assumes nothing.
use Rattle.command.specs.Queries.{ask_rate}
use Rattle.command.proofs.Asking.{asking}
use Rattle.command.proofs.queries.ask_rate.Goals as goal

pub returns-then-is_operating : goal.returns-then-is_operating
unfolding ask_rate
returns-then-is_operating c = search asking

pub returns : goal.returns
unfolding ask_rate
returns c = search asking
