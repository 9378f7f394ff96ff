-- `Run::status` meets its contract.
-- Assumes nothing.
use Rattle.program.proofs.Modes.{statuses}
use Rattle.program.proofs.state.Run.status.Goals as goal

pub returns-in-Stopped : goal.returns-in-Stopped
returns-in-Stopped c = search statuses

pub returns-in-Paused : goal.returns-in-Paused
returns-in-Paused c = search statuses

pub returns-in-Entering : goal.returns-in-Entering
returns-in-Entering c = search statuses

pub returns-in-Visiting : goal.returns-in-Visiting
returns-in-Visiting c = search statuses

pub returns-in-Pausing : goal.returns-in-Pausing
returns-in-Pausing c = search statuses

pub returns-in-Waiting : goal.returns-in-Waiting
returns-in-Waiting c = search statuses
