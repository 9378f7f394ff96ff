-- `Device::hear_text` meets its contract.
-- Assumes nothing.
use Rattle.pump.proofs.Hearing.{hearing}
use Rattle.pump.proofs.device.Device.hear_text.Goals as goal

pub returns-then-asked-eq0 : goal.returns-then-asked-eq0
returns-then-asked-eq0 c = search hearing

pub returns : goal.returns
returns c = search hearing
