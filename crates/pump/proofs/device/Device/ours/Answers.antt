-- `Device::ours` meets its contract.
-- Assumes nothing.
use Rattle.pump.proofs.Hearing.{hearing}
use Rattle.pump.proofs.device.Device.ours.Goals as goal

pub returns-in-Some : goal.returns-in-Some
returns-in-Some c = search hearing

pub returns : goal.returns
returns c = search hearing
