-- `Device::sent_in` meets its contract.
-- Assumes nothing.
use Rattle.pump.proofs.Alarms.{sendings}
use Rattle.pump.proofs.device.Device.sent_in.Goals as goal

pub returns-then-not-is_safe : goal.returns-then-not-is_safe
returns-then-not-is_safe c = search sendings

pub returns-then-is_due : goal.returns-then-is_due
returns-then-is_due c = search sendings

pub returns-then-is_alarmed : goal.returns-then-is_alarmed
returns-then-is_alarmed c = search sendings

pub returns : goal.returns
returns c = search sendings
