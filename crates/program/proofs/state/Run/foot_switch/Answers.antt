-- `Run::foot_switch` meets its contract.
-- Assumes nothing.
use Rattle.program.proofs.Choosing.{told}
use Rattle.program.proofs.Switching.{switching}
use Rattle.program.proofs.state.Run.foot_switch.Goals as goal

pub returns-then-is_some : goal.returns-then-is_some
returns-then-is_some c = search (switching, told)

pub returns-then-is_moving : goal.returns-then-is_moving
returns-then-is_moving c = search (switching, told)

pub returns : goal.returns
returns c = search (switching, told)
