-- `Run::run_from` meets its contract.
-- Assumes nothing.
use Rattle.program.specs.Control.{run_from}
use Rattle.program.proofs.Choosing.{choices}
use Rattle.program.proofs.Modes.{ok_after}
use Rattle.program.proofs.state.Run.run_from.Goals as goal

pub returns-then-is_operating : goal.returns-then-is_operating
unfolding run_from
returns-then-is_operating c = search choices

pub returns-then-n-phases : goal.returns-then-n-phases
unfolding run_from
returns-then-n-phases c = search (choices, ok_after)

pub returns : goal.returns
unfolding run_from
returns c = search choices
