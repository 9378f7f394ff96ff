-- `ask_volume` meets its contract.
-- Assumes nothing.
use Rattle.command.specs.Queries.{ask_volume}
use Rattle.command.proofs.Asking.{asking}
use Rattle.command.proofs.queries.ask_volume.Goals as goal

pub returns-then-is_rate_phase : goal.returns-then-is_rate_phase
unfolding ask_volume
returns-then-is_rate_phase c = search asking

pub returns : goal.returns
unfolding ask_volume
returns c = search asking
