-- `Refusal::of_pin` meets its contract.
-- Assumes nothing.
use Rattle.pump.proofs.Calling.{pins}
use Rattle.pump.proofs.reports.Refusal.of_pin.Goals as goal

pub returns-then-level-gt1 : goal.returns-then-level-gt1
returns-then-level-gt1 c = search pins

pub returns-in-2 : goal.returns-in-2
returns-in-2 c = search pins

pub returns-in_default : goal.returns-in_default
returns-in_default c = search pins

pub returns : goal.returns
returns c = search pins
