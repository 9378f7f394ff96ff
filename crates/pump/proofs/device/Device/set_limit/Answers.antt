-- `Device::set_limit` meets its contract.
-- Assumes nothing.
use Rattle.pump.proofs.Hearing.{limit_taken, limit_refused}
use Rattle.pump.proofs.device.Device.set_limit.Goals as goal

pub returns-then-n-le255 : goal.returns-then-n-le255
returns-then-n-le255 c = search limit_taken

pub returns : goal.returns
returns c = search limit_refused
