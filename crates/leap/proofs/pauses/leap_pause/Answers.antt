-- `leap_pause` meets its contract.
-- Assumes nothing.
use Rattle.leap.specs.Pauses.{leap_pause}
use Rattle.leap.proofs.pauses.leap_pause.Goals as goal

pub returns : goal.returns
unfolding leap_pause
returns c = c.doing.ensures
