-- `ask_phase` meets its contract.
-- Assumes nothing.
use Rattle.command.specs.Queries.{ask_phase}
use Rattle.command.proofs.Asking.{asking}
use Rattle.command.proofs.queries.ask_phase.Goals as goal

pub returns-then-n-phases : goal.returns-then-n-phases
unfolding ask_phase
returns-then-n-phases c = search asking

pub returns-then-is_operating : goal.returns-then-is_operating
unfolding ask_phase
returns-then-is_operating c = search asking

pub returns : goal.returns
unfolding ask_phase
returns c = search asking
