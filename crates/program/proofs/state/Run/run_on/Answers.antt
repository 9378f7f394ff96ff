-- `Run::run_on` meets its contract.
-- Assumes nothing.
use Rattle.program.proofs.Choosing.{choices}
use Rattle.program.proofs.Modes.{modes}
use Rattle.program.proofs.state.Run.run_on.Goals as goal

pub returns-in-Stopped : goal.returns-in-Stopped
returns-in-Stopped c = search (modes, choices)

pub returns-in-Paused : goal.returns-in-Paused
returns-in-Paused c = search (modes, choices)

pub returns-in-Running : goal.returns-in-Running
returns-in-Running c = search (modes, choices)

pub returns-in-Running-2 : goal.returns-in-Running-2
returns-in-Running-2 c = search (modes, choices)
