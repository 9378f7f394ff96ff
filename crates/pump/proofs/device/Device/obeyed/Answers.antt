-- `Device::obeyed` meets its contract.
-- Assumes nothing.
use Rattle.pump.proofs.Hearing.{hearing}
use Rattle.pump.proofs.device.Device.obeyed.Goals as goal

pub returns : goal.returns
returns c = search hearing
